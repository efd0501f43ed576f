-- The checksum of an image. (ImageHlp: CheckSumMappedFile; PE Format: CheckSum.)
use Rattle.std.specs.Prelude.{ℕ, ◌+◌, ◌*◌, ◌/◌, ◌%◌, ◌-◌, ◌&&◌, List, length, nat_le, nat_lt, slice_index, Option, Some, None, Result, Ok, Err, if◌then◌else◌}
use Rattle.std.specs.List.{fold}
use Rattle.pe_core.specs.Refusals.{Refusal, NoOptionalHeader, ◌>>=◌}
use Rattle.pe_core.specs.Rows.{each}
use Rattle.pe_core.specs.Header.{HeaderView, OptionalHeaderView}
use Rattle.pe_core.specs.declared.byte_range.ByteRange.{ByteRange}

-- the byte at an offset; it is 0 in the four bytes of the field, and after the end
abbrev pub summed_byte : List ℕ → ℕ → ℕ → ℕ
summed_byte b field p = if nat_le field p && nat_lt p (field + 4) then 0 else slice_index b p

-- the 16-bit word with an index
abbrev pub summed_word : List ℕ → ℕ → ℕ → ℕ
summed_word b field k = summed_byte b field (2 * k) + 256 * summed_byte b field (2 * k + 1)

-- a sum of 16 bits and one more word: a carry out of bit 15 is added at bit 0
abbrev pub with_carry : ℕ → ℕ → ℕ
with_carry sum word = if nat_lt (sum + word) 65536 then sum + word else sum + word - 65535

-- the checksum of a file with this field: its words added with carry, plus its length, as 32 bits
unfoldable pub checksum_of : List ℕ → ℕ → ℕ
checksum_of b field = (length b + fold with_carry 0 (each (summed_word b field) ((length b + 1) / 2))) % 4294967296

-- the field of an image with this PE pointer: 64 bytes after the start of the optional header, if there is one
abbrev pub range_before : ℕ → Option OptionalHeaderView → Result ByteRange Refusal
range_before pointer None = Err NoOptionalHeader
range_before pointer (Some o) = Ok (record { offset = pointer + 88; length = 4 })

abbrev pub checksum_range_of : HeaderView → Result ByteRange Refusal
checksum_range_of h = range_before h.dos_header.pe_pointer h.optional_header

-- the checksum of a file with this header
abbrev pub checked_sum : List ℕ → HeaderView → Result ℕ Refusal
checked_sum b h = checksum_range_of h >>= λ field. Ok (checksum_of b field.offset)
