-- Certificates that are attached to an image and detached from it, as bytes of the file. (PE Format: The Attribute
-- Certificate Table; Certificate Data.)
use Rattle.std.specs.Prelude.{◌≡◌, ℕ, ◌+◌, ◌-◌, ◌*◌, ◌%◌, ◌==◌, ◌&&◌, ◌||◌, not, Bool, true, List, [], ◌∷◌, ◌++◌, length, take, drop, replicate, nat_le, nat_lt, Result, Ok, Err, if◌then◌else◌}
use Rattle.std.specs.List.{list_all}
use Rattle.pe_core.specs.Bytes.{le, bytes_of, splice}
use Rattle.pe_core.specs.Directories.{absent_directory}
use Rattle.pe_core.specs.Header.{HeaderView, header_at}
use Rattle.pe_core.specs.Offsets.{empty_range}
use Rattle.pe_core.specs.Records.{section_table}
use Rattle.pe_core.specs.Refusals.{CertificateSize, CertificateTable, Short, WriteFit, outcome, ◌>>=◌}
use Rattle.pe_core.specs.Rows.{rows}
use Rattle.pe_core.specs.SectionMap.{rounded_up}
use Rattle.pe_core.specs.Sections.{raw_end, sections_offset}
use Rattle.pe_core.specs.declared.data_directories.DataDirectory.{DataDirectory}
use Rattle.pe_core.specs.declared.options.ParseMode.{ParseMode}
use Rattle.pe_core.specs.declared.section_table.SectionTable.{SectionTable}
use Rattle.pe_sign.specs.Checksum.{checksum_of}
use Rattle.pe_sign.specs.Digest.{lacking_to_eight, left_out_of}
use Rattle.pe_sign.specs.SignRefusals.{SignRefusal, Image, NoDirectory, TableNotLast, Headers, Section, TableOffset, TooLarge, sign_kind_of, of_image}
use Rattle.pe_sign.specs.declared.attachment.Placement.{Placement}
use Rattle.pe_sign.specs.declared.attachment.Placement.TheVariants.{After, InPlace}
use Rattle.pe_sign.specs.declared.digest.LeftOut.{LeftOut}
use Rattle.pe_sign.specs.declared.error.SignError.{SignError}

-- ---- the file without its certificates

-- the image has a certificate table: its entry is not all zero
abbrev pub is_signed : LeftOut → Bool
is_signed l = not (l.certificates.offset == 0 && l.certificates.length == 0)

-- how many of a file's n bytes are before the certificate table
abbrev pub unsigned_length : LeftOut → ℕ → ℕ
unsigned_length l n = if is_signed l then l.certificates.offset else n

-- the bytes before the certificate table
abbrev pub unsigned_file : LeftOut → List ℕ → List ℕ
unsigned_file l b = take (unsigned_length l (length b)) b

-- ---- the two fields of the header

-- the file with this entry for its certificates
unfoldable pub with_entry : LeftOut → DataDirectory → List ℕ → List ℕ
with_entry l entry b =
    let p = l.directory_entry.offset in
    splice (splice b p (bytes_of 4 entry.virtual_address)) (p + 4) (bytes_of 4 entry.size)

-- the file with its checksum
unfoldable pub with_checksum : LeftOut → List ℕ → List ℕ
with_checksum l b = splice b l.checksum.offset (bytes_of 4 (checksum_of b l.checksum.offset))

-- the file with this entry, and with its checksum
abbrev pub with_both_fields : LeftOut → DataDirectory → List ℕ → List ℕ
with_both_fields l entry b = with_checksum l (with_entry l entry b)

-- ---- what is written

-- without certificates: the bytes before the table, an entry of zeros, and the checksum
abbrev pub detached_file : LeftOut → List ℕ → List ℕ
detached_file l b = with_both_fields l absent_directory (unsigned_file l b)

-- bytes, and zeros up to a multiple of eight
unfoldable pub padded : List ℕ → List ℕ
padded b = b ++ replicate (lacking_to_eight (length b)) 0

-- how many of a file's n bytes stay: all of them, or those before the table
abbrev pub kept_length : Placement → LeftOut → ℕ → ℕ
kept_length After l n = n
kept_length InPlace l n = unsigned_length l n

-- where the certificate table starts: where it did, or else after what stays and its zeros
abbrev pub table_start : Placement → LeftOut → ℕ → ℕ
table_start After l n = if is_signed l then l.certificates.offset else rounded_up n 8
table_start InPlace l n = rounded_up (unsigned_length l n) 8

-- what stays and the certificate, each with its zeros
abbrev pub joined_file : Placement → LeftOut → List ℕ → List ℕ → List ℕ
joined_file placement l certificate b = padded (take (kept_length placement l (length b)) b) ++ padded certificate

-- the entry of a table from an offset to the end of the file
abbrev pub entry_to : ℕ → ℕ → DataDirectory
entry_to start end = record { virtual_address = start; size = end - start }

-- the same with the entry of the table, which ends with the file, and with the checksum
abbrev pub attached_file : Placement → LeftOut → List ℕ → List ℕ → List ℕ
attached_file placement l certificate b =
    let file = joined_file placement l certificate b in
    with_both_fields l (entry_to (table_start placement l (length b)) (length file)) file

-- ---- the tests

-- the checksum, the entry and the section table end at or before file offset n
abbrev pub headers_end_by : HeaderView → LeftOut → ℕ → Bool
headers_end_by h l n =
    nat_le (l.checksum.offset + 4) n && nat_le (l.directory_entry.offset + 8) n
    && nat_le (sections_offset h + 40 * h.coff_header.number_of_sections) n

-- the section has no data, or they end at or before file offset n
abbrev pub data_ends_by : ℕ → SectionTable → Bool
data_ends_by n s = s.size_of_raw_data == 0 || nat_le (raw_end s) n

-- so do the data of all sections
abbrev pub sections_end_by : List ℕ → HeaderView → ℕ → Bool
sections_end_by b h n =
    list_all (data_ends_by n) (rows (section_table b) 40 (sections_offset h) h.coff_header.number_of_sections)

-- there is an entry; the table, if there is one, ends where the file ends; headers and sections end before it
abbrev pub layout_tests : List ℕ → HeaderView → LeftOut → List (Bool × SignRefusal)
layout_tests b h l =
    (l.directory_entry.length == 8, NoDirectory)
    ∷ (nat_le (l.certificates.offset + l.certificates.length) (length b), Image CertificateTable)
    ∷ (not (is_signed l) || nat_le (length b) (l.certificates.offset + l.certificates.length), TableNotLast)
    ∷ (headers_end_by h l (unsigned_length l (length b)), Headers)
    ∷ (sections_end_by b h (unsigned_length l (length b)), Section)
    ∷ []

-- the parts of an image whose certificates can be changed
abbrev pub changeable_parts : List ℕ → HeaderView → Result LeftOut SignRefusal
changeable_parts b h = of_image (left_out_of h) >>= λ l. outcome (layout_tests b h l) l

-- a certificate that goes after others needs a table at a multiple of eight
abbrev pub is_aligned : Placement → LeftOut → Bool
is_aligned After l = l.certificates.offset % 8 == 0
is_aligned InPlace l = true

-- the table is aligned, the certificate is as long as it says, and the file's offsets fit 32 bits
abbrev pub attach_tests : Placement → LeftOut → List ℕ → ℕ → List (Bool × SignRefusal)
attach_tests placement l certificate n =
    (is_aligned placement l, TableOffset)
    ∷ (nat_le 8 (length certificate), Image Short)
    ∷ (nat_le (le certificate 0 4) (length certificate), Image CertificateSize)
    ∷ (nat_lt (rounded_up (kept_length placement l n) 8 + rounded_up (length certificate) 8) 4294967296, TooLarge)
    ∷ []

-- ---- the calls

-- the image without certificates
abbrev pub detached_of : List ℕ → HeaderView → Result (List ℕ) SignRefusal
detached_of b h = changeable_parts b h >>= λ l. Ok (detached_file l b)

-- the image with this certificate
abbrev pub attached_of : Placement → List ℕ → HeaderView → List ℕ → Result (List ℕ) SignRefusal
attached_of placement b h certificate =
    changeable_parts b h >>= λ l. outcome (attach_tests placement l certificate (length b)) (attached_file placement l certificate b)

-- the length of a file
abbrev pub length_of : Result (List ℕ) SignRefusal → Result ℕ SignRefusal
length_of file = file >>= λ f. Ok (length f)

-- a file at the start of a buffer, whose other bytes stay: its length, and the buffer
abbrev pub written : Result (List ℕ) SignRefusal → List ℕ → Result (ℕ × List ℕ) SignRefusal
written file old =
    file >>= λ f. outcome ((nat_le (length f) (length old), Image WriteFit) ∷ []) (length f, f ++ drop (length f) old)

-- the number returned and the bytes left are the defined ones; a refusal is the defined one, and changes nothing
abbrev pub SignReturnsWritten : Result ℕ SignError → Result (ℕ × List ℕ) SignRefusal → List ℕ → List ℕ → Type 0
SignReturnsWritten (Ok n) defined old new = defined ≡ Ok (n, new)
SignReturnsWritten (Err e) defined old new = (defined ≡ Err (sign_kind_of e)) × (new ≡ old)

-- ---- what was written

-- the parts that a digest leaves out once the entry names a table from an offset to the end of the file
abbrev pub with_table : LeftOut → ℕ → ℕ → LeftOut
with_table l start end = record { checksum = l.checksum; directory_entry = l.directory_entry; certificates = record { offset = start; length = end - start } }

-- those once the entry is all zero
abbrev pub without_table : LeftOut → LeftOut
without_table l = record { checksum = l.checksum; directory_entry = l.directory_entry; certificates = empty_range }

-- what is before the table after a certificate is attached: all before the old table, or else with its zeros
abbrev pub before_table : Placement → LeftOut → List ℕ → List ℕ
before_table After l b = if is_signed l then unsigned_file l b else padded b
before_table InPlace l b = padded (unsigned_file l b)

-- ---- what is written of an image

-- these are the headers of an image, and the parts that its digest leaves out; `attach` writes this file of it
pub record IsAttached (mode : ParseMode) (placement : Placement) (b : List ℕ) (h : HeaderView) (certificate f : List ℕ) (l : LeftOut) : Type 0 where
  pub parsed : header_at b mode ≡ Ok h
  pub parts : left_out_of h ≡ Ok l
  pub written : attached_of placement b h certificate ≡ Ok f

-- the same of a file that `detach` writes
pub record IsDetached (mode : ParseMode) (b : List ℕ) (h : HeaderView) (f : List ℕ) (l : LeftOut) : Type 0 where
  pub parsed : header_at b mode ≡ Ok h
  pub parts : left_out_of h ≡ Ok l
  pub written : detached_of b h ≡ Ok f
