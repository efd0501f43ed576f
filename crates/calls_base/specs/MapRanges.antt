-- What the section map says of bytes that follow one another.
use Rattle.std.specs.Prelude.{ℕ, ◌+◌, ◌-◌, ◌^◌, ◌&&◌, Bool, List, length, nat_le, nat_lt, position, slice_get, Option, Some, None, if◌then◌else◌}
use Rattle.std.specs.Int.{is_power_of_two}
use Rattle.std.specs.Option.{option_and_then}
use Rattle.pe_core.specs.SectionMap.{raw_start, reach}
use Rattle.pe_core.specs.declared.section_table.SectionTable.{SectionTable}
use Rattle.calls_base.specs.Maps.{bytes_between, covers}
use Rattle.calls_base.specs.Modes.{resolves}
use Rattle.calls_base.specs.declared.image.Image.{Image}
use Rattle.calls_base.specs.declared.ranges.Range.{Range}

-- the bytes from an RVA to the end of what the section has, if it covers the RVA
abbrev pub range_in : List ℕ → ℕ → ℕ → SectionTable → Option Range
range_in b alignment rva s =
    if covers alignment rva s then bytes_between b (raw_start s + (rva - s.virtual_address)) (raw_start s + reach alignment s) else None

-- the same by the first section that covers the RVA; in an image as loaded to the end of the bytes
abbrev pub range_at : List ℕ → Image → List SectionTable → ℕ → Option Range
range_at b image s rva =
    if resolves image.mode then option_and_then (λ i. option_and_then (range_in b image.file_alignment rva) (slice_get s i)) (position (covers image.file_alignment rva) s)
    else bytes_between b rva (length b)

-- RVAs of the section are mapped to the offset
abbrev pub holds_offset : ℕ → ℕ → SectionTable → Bool
holds_offset alignment p s = is_power_of_two alignment && (nat_le (raw_start s) p && nat_lt p (raw_start s + reach alignment s))

-- a number, if it has 32 bits
abbrev pub of_32_bits : ℕ → Option ℕ
of_32_bits n = if nat_lt n (2 ^ 32) then Some n else None

-- the RVA by which the section leads to the offset
abbrev pub rva_in : ℕ → SectionTable → Option ℕ
rva_in p s = of_32_bits (s.virtual_address + (p - raw_start s))

-- the same by the first section that holds the offset; in an image as loaded the offset itself
abbrev pub rva_at : Image → List SectionTable → ℕ → Option ℕ
rva_at image s p =
    if resolves image.mode then option_and_then (λ i. option_and_then (rva_in p) (slice_get s i)) (position (holds_offset image.file_alignment p) s)
    else of_32_bits p
