-- The bytes that the Authenticode digest of an image covers. (Windows Authenticode Portable Executable Signature Format.)
use Rattle.std.specs.Prelude.{◌≡◌, ℕ, suc, ◌+◌, ◌-◌, ◌%◌, ◌<◌, ◌≤◌, ◌==◌, ◌&&◌, ◌||◌, Bool, true, false, List, [], ◌∷◌, ◌++◌, drop, length, flat_map, replicate, take, nat_le, nat_lt, Option, Some, None, Result, Ok, Err, if◌then◌else◌}
use Rattle.std.specs.Borrow.{Bor}
use Rattle.pe_core.specs.Directories.{present}
use Rattle.pe_core.specs.Header.{HeaderView, OptionalHeaderView, directories_offset}
use Rattle.pe_core.specs.Offsets.{empty_range}
use Rattle.pe_core.specs.Refusals.{Refusal, NoOptionalHeader, ◌>>=◌}
use Rattle.pe_core.specs.declared.byte_range.ByteRange.{ByteRange}
use Rattle.pe_core.specs.declared.data_directories.DataDirectory.{DataDirectory}
use Rattle.pe_core.specs.declared.optional_header.TheConstants.{MAGIC_64}
use Rattle.pe_sign.specs.declared.digest.AuthenticodeRanges.{AuthenticodeRanges}
use Rattle.pe_sign.specs.declared.digest.LeftOut.{LeftOut}
use Rattle.pe_sign.specs.declared.digest.Part.{Part}

-- where the entry of the certificate directory is in the file: the fifth entry, if the header has as many
abbrev pub entry_range : ℕ → OptionalHeaderView → ByteRange
entry_range pointer o =
    if nat_lt 4 (length o.data_directories)
    then record { offset = pointer + 24 + directories_offset (o.standard_fields.magic == MAGIC_64) + 32; length = 8 }
    else empty_range

-- where the certificates are in the file
abbrev pub certificates_range : Option DataDirectory → ByteRange
certificates_range None = empty_range
certificates_range (Some d) = record { offset = d.virtual_address; length = d.size }

-- the parts of the file that the digest leaves out; without an optional header there is no digest
abbrev pub left_out_before : ℕ → Option OptionalHeaderView → Result LeftOut Refusal
left_out_before pointer None = Err NoOptionalHeader
left_out_before pointer (Some o) = Ok (record {
  checksum = record { offset = pointer + 88; length = 4 };
  directory_entry = entry_range pointer o;
  certificates = certificates_range (present o.data_directories 4);
})

abbrev pub left_out_of : HeaderView → Result LeftOut Refusal
left_out_of h = left_out_before h.dos_header.pe_pointer h.optional_header

-- the file offset is in the range
abbrev pub is_in : ByteRange → ℕ → Bool
is_in r p = nat_le r.offset p && nat_lt p (r.offset + r.length)

-- the file offset is in a part that is left out
abbrev pub is_left_out : LeftOut → ℕ → Bool
is_left_out l p = is_in l.checksum p || is_in l.directory_entry p || is_in l.certificates p

-- a byte and those after it, or these alone if it is left out
abbrev pub unless : Bool → ℕ → List ℕ → List ℕ
unless true x xs = xs
unless false x xs = x ∷ xs

-- of bytes that start at offset p, those whose offset is not left out
unfoldable pub kept_bytes : (ℕ → Bool) → ℕ → List ℕ → List ℕ
kept_bytes is_out p [] = []
kept_bytes is_out p (x ∷ xs) = unless (is_out p) x (kept_bytes is_out (suc p) xs)

-- the bytes of the file that are digested
abbrev pub digested : LeftOut → List ℕ → List ℕ
digested l b = kept_bytes (is_left_out l) 0 b

-- those of them before the certificates, and those after; all are after certificates that are absent
abbrev pub digested_before : LeftOut → List ℕ → List ℕ
digested_before l b = kept_bytes (is_left_out l) 0 (take l.certificates.offset b)

abbrev pub digested_after : LeftOut → List ℕ → List ℕ
digested_after l b =
    let end = l.certificates.offset + l.certificates.length in
    kept_bytes (is_left_out l) end (drop end b)

-- how many zeros fill up n bytes to a multiple of eight
abbrev pub lacking_to_eight : ℕ → ℕ
lacking_to_eight n = (8 - n % 8) % 8

-- how many zeros follow them: as many as fill up the file without its certificates to a multiple of eight
abbrev pub zeros_after : LeftOut → List ℕ → ℕ
zeros_after l b = lacking_to_eight (length (kept_bytes (is_in l.certificates) 0 b))

-- each offset of the bytes is in the range, or none is
abbrev pub Throughout : (ℕ → Bool) → Bool → ℕ → List ℕ → Type 0
Throughout is_out value p xs = (q : ℕ) → p ≤ q → q < p + length xs → is_out q ≡ value

-- a part of the file is cut around a range: into what is before the range and what is after it
pub record IsCut (r : ByteRange) (whole before after : Part) : Type 0 where
  pub between : List ℕ
  pub joined : whole.bytes.now ≡ before.bytes.now ++ (between ++ after.bytes.now)
  pub start : before.offset ≡ whole.offset
  pub end : after.offset ≡ whole.offset + length before.bytes.now + length between
  pub is_before : Throughout (is_in r) false before.offset before.bytes.now
  pub is_between : Throughout (is_in r) true (whole.offset + length before.bytes.now) between
  pub is_after : Throughout (is_in r) false after.offset after.bytes.now

-- the bytes of slices, one after the other
abbrev pub joined_slices : List (Bor (List ℕ)) → List ℕ
joined_slices parts = flat_map (λ p. p.now) parts

-- what a digest covers: bytes of the file, and then zeros
pub record Covered : Type 0 where
  pub content : List ℕ
  pub zeros : ℕ

abbrev pub ranges_view : AuthenticodeRanges → Covered
ranges_view r = record { content = joined_slices r.before_certificates ++ joined_slices r.after_certificates; zeros = r.zeros }

-- the slices of each field are these bytes
pub record AreSides (l : LeftOut) (b : List ℕ) (r : AuthenticodeRanges) : Type 0 where
  pub before : joined_slices r.before_certificates ≡ digested_before l b
  pub after : joined_slices r.after_certificates ≡ digested_after l b

-- what the digest of a file covers that leaves out these parts
abbrev pub covered : LeftOut → List ℕ → Covered
covered l b = record { content = digested l b; zeros = zeros_after l b }

-- the same as bytes
abbrev pub covered_bytes : Covered → List ℕ
covered_bytes c = c.content ++ replicate c.zeros 0

-- what the digest of an image with this header covers
abbrev pub digest_of : List ℕ → HeaderView → Result Covered Refusal
digest_of b h = left_out_of h >>= λ l. Ok (covered l b)
