-- The writers of an image: the tests in their order, the number that is returned, and the bytes that are left.
-- (This project's profile.)
use Rattle.std.specs.Prelude.{◌≡◌, ℕ, ◌+◌, ◌*◌, ◌%◌, ◌<◌, ◌==◌, ◌&&◌, not, min, max, Bool, true, List, [], ◌∷◌, ◌++◌, length, nat_lt, Option, Some, None, Result, Ok, Err, if◌then◌else◌}
use Rattle.std.specs.Int.{is_power_of_two}
use Rattle.std.specs.List.{list_all}
use Rattle.std.specs.Str.{bytes_eq}
use Rattle.pe_core.specs.Bytes.{holds}
use Rattle.pe_core.specs.Directories.{present}
use Rattle.pe_core.specs.Header.{HeaderView, OptionalHeaderView}
use Rattle.pe_core.specs.Refusals.{Refusal, NoOptionalHeader, WriteAlignment, WriteSymbols, WriteOverlap, WriteSection, WriteFit, kind_of, outcome}
use Rattle.pe_core.specs.Sections.{raw_end, sections_offset}
use Rattle.pe_core.specs.declared.data_directories.DataDirectory.{DataDirectory}
use Rattle.pe_core.specs.declared.error.Error.{Error}
use Rattle.pe_core.specs.declared.section_table.SectionTable.{SectionTable}
use Rattle.pe_records.specs.Certificates.{CertificateView}
use Rattle.pe_image.specs.Image.{ImageView}
use Rattle.pe_image.specs.Layout.{directory}
use Rattle.pe_image.specs.Overlay.{Piece, all_fit, greatest_end, longest, overlay, piece}
use Rattle.pe_image.specs.Pieces.{all_certificate_pieces, all_section_pieces, certificates_end, header_pieces}

-- the number returned and the bytes left are the defined ones; a refusal is the defined one, and changes nothing
abbrev pub ReturnsWritten : Result ℕ Error → Result (ℕ × List ℕ) Refusal → List ℕ → List ℕ → Type 0
ReturnsWritten (Ok n) defined old new = defined ≡ Ok (n, new)
ReturnsWritten (Err e) defined old new = (defined ≡ Err (kind_of e)) × (new ≡ old)

-- an offset moves to the number returned; a refusal leaves it unchanged
abbrev pub Moves : Result ℕ Error → ℕ → ℕ → Type 0
Moves (Ok n) old new = new ≡ n
Moves (Err e) old new = new ≡ old

-- ---- sections

-- all fields of the two section headers are equal
abbrev pub same_section : SectionTable → SectionTable → Bool
same_section s t =
    bytes_eq s.name t.name && s.virtual_size == t.virtual_size && s.virtual_address == t.virtual_address
    && s.size_of_raw_data == t.size_of_raw_data && s.pointer_to_raw_data == t.pointer_to_raw_data
    && s.pointer_to_relocations == t.pointer_to_relocations && s.pointer_to_linenumbers == t.pointer_to_linenumbers
    && s.number_of_relocations == t.number_of_relocations && s.number_of_linenumbers == t.number_of_linenumbers
    && s.characteristics == t.characteristics

-- the two sections share a byte of the file (the later one starts before both ends), and are not equal
abbrev pub clash : SectionTable → SectionTable → Bool
clash s t = nat_lt (max s.pointer_to_raw_data t.pointer_to_raw_data) (min (raw_end s) (raw_end t)) && not (same_section s t)

-- no section clashes with a later one of the list
abbrev pub clash_free : List SectionTable → Bool
clash_free [] = true
clash_free (s ∷ after) = list_all (λ t. not (clash s t)) after && clash_free after

-- the data of every section is in b
abbrev pub all_in_source : List ℕ → List SectionTable → Bool
all_in_source b sections = list_all (λ s. holds b s.pointer_to_raw_data s.size_of_raw_data) sections

-- the tests of sections before these pieces are written over n bytes, in their order
abbrev pub section_tests : List ℕ → List SectionTable → ℕ → List Piece → List (Bool × Refusal)
section_tests b sections n pieces =
    (clash_free sections, WriteOverlap)
    ∷ (all_in_source b sections, WriteSection)
    ∷ (all_fit n pieces, WriteFit)
    ∷ []

-- the unit is not 0, if there is one
abbrev pub is_unit : Option ℕ → Bool
is_unit None = true
is_unit (Some unit) = not (unit == 0)

-- the sections over the old bytes: their data is taken from b, and their headers are written from the offset on
abbrev pub sections_written : List ℕ → List SectionTable → Option ℕ → ℕ → List ℕ → Result (ℕ × List ℕ) Refusal
sections_written b sections unit offset old =
    let pieces = all_section_pieces b unit offset sections in
    outcome ((is_unit unit, WriteAlignment) ∷ section_tests b sections (length old) pieces) (offset + 40 * length sections, overlay old pieces)

-- ---- certificates

-- the certificate directory
abbrev pub certificate_directory : OptionalHeaderView → Option DataDirectory
certificate_directory o = present o.data_directories 4

-- the image has an optional header, and in it this certificate directory
abbrev pub HasCertificateDirectory : ImageView → DataDirectory → Type 0
HasCertificateDirectory x d = (o : OptionalHeaderView) × (x.header.optional_header ≡ Some o) × (certificate_directory o ≡ Some d)

-- certificates over the old bytes, in this directory
abbrev pub certificates_over : Option DataDirectory → List CertificateView → List ℕ → Result (ℕ × List ℕ) Refusal
certificates_over d cs old =
    let pieces = all_certificate_pieces d cs in
    outcome ((all_fit (length old) pieces, WriteFit) ∷ []) (certificates_end d cs, overlay old pieces)

-- the same with an optional header; refused without one
abbrev pub certificates_by : Option OptionalHeaderView → List CertificateView → List ℕ → Result (ℕ × List ℕ) Refusal
certificates_by None cs old = Err NoOptionalHeader
certificates_by (Some o) cs old = certificates_over (certificate_directory o) cs old

-- the certificates of an image over the old bytes
abbrev pub certificates_written : ImageView → List ℕ → Result (ℕ × List ℕ) Refusal
certificates_written x old = certificates_by x.header.optional_header x.certificates old

-- if there are certificates, the offset in the certificate directory is a multiple of eight
abbrev pub AreAligned : ImageView → Type 0
AreAligned x = (d : DataDirectory) → directory 4 x.header.optional_header ≡ Some d → 0 < length x.certificates → d.virtual_address % 8 ≡ 0

-- ---- the whole image

-- of a section and a later one of the list, the one with the greater raw pointer; the later one if these are equal
abbrev pub later : SectionTable → Option SectionTable → Option SectionTable
later s None = Some s
later s (Some t) = if nat_lt t.pointer_to_raw_data s.pointer_to_raw_data then Some s else Some t

-- the last section with the greatest raw pointer
abbrev pub last_in_file : List SectionTable → Option SectionTable
last_in_file [] = None
last_in_file (s ∷ after) = later s (last_in_file after)

-- the end of a section's data; 0 without a section
abbrev pub end_of : Option SectionTable → ℕ
end_of None = 0
end_of (Some s) = raw_end s

-- the end of the data of the last section with the greatest raw pointer
abbrev pub last_raw_end : List SectionTable → ℕ
last_raw_end sections = end_of (last_in_file sections)

-- the pieces of an image whose sections are padded to a multiple of the unit, if there is one; b is the file that their
-- data is taken from
unfoldable pub padded_pieces : Option ℕ → List ℕ → HeaderView → OptionalHeaderView → List SectionTable → List CertificateView → List Piece
padded_pieces unit b h o sections cs =
    header_pieces h o
    ++ all_section_pieces b unit (sections_offset h) sections
    ++ all_certificate_pieces (certificate_directory o) cs

-- all pieces of an image, whose sections are padded to its file alignment
abbrev pub image_pieces : List ℕ → HeaderView → OptionalHeaderView → List SectionTable → List CertificateView → List Piece
image_pieces b h o sections cs = padded_pieces (Some o.windows_fields.file_alignment) b h o sections cs

-- the tests of writing these pieces over n bytes, in their order
unfoldable pub image_tests : List ℕ → HeaderView → OptionalHeaderView → List SectionTable → ℕ → List Piece → List (Bool × Refusal)
image_tests b h o sections n pieces =
    (is_power_of_two o.windows_fields.file_alignment, WriteAlignment)
    ∷ (h.coff_header.pointer_to_symbol_table == 0, WriteSymbols)
    ∷ section_tests b sections n pieces

-- the greatest of three offsets: the start of the section table, the end of the last data, the end of the certificates
abbrev pub image_end : HeaderView → OptionalHeaderView → List SectionTable → List CertificateView → ℕ
image_end h o sections cs = max (max (sections_offset h) (last_raw_end sections)) (certificates_end (certificate_directory o) cs)

-- an image with an optional header over the old bytes; refused without one
abbrev pub image_by : Option OptionalHeaderView → List ℕ → HeaderView → List SectionTable → List CertificateView → List ℕ → Result (ℕ × List ℕ) Refusal
image_by None b h sections cs old = Err NoOptionalHeader
image_by (Some o) b h sections cs old =
    let pieces = image_pieces b h o sections cs in
    outcome (image_tests b h o sections (length old) pieces) (image_end h o sections cs, overlay old pieces)

-- the image over the old bytes; the data of its sections is taken from b
abbrev pub image_written : List ℕ → ImageView → List ℕ → Result (ℕ × List ℕ) Refusal
image_written b x old = image_by x.header.optional_header b x.header x.sections x.certificates old

-- ---- the whole file

-- the file that an image was read from, and over it the pieces of the image, without padding
abbrev pub whole_pieces : List ℕ → HeaderView → OptionalHeaderView → List SectionTable → List CertificateView → List Piece
whole_pieces b h o sections cs = piece 0 b ∷ padded_pieces None b h o sections cs

-- the file with the pieces of an image over the old bytes; refused without an optional header
abbrev pub whole_by : Option OptionalHeaderView → List ℕ → HeaderView → List SectionTable → List CertificateView → List ℕ → Result (ℕ × List ℕ) Refusal
whole_by None b h sections cs old = Err NoOptionalHeader
whole_by (Some o) b h sections cs old =
    let pieces = whole_pieces b h o sections cs in
    outcome (section_tests b sections (length old) pieces) (max (length b) (image_end h o sections cs), overlay old pieces)

-- the file b with the image over the old bytes
abbrev pub whole_written : List ℕ → ImageView → List ℕ → Result (ℕ × List ℕ) Refusal
whole_written b x old = whole_by x.header.optional_header b x.header x.sections x.certificates old

-- ---- how long a buffer has to be

-- how many bytes an image with an optional header needs: its pieces have to fit, and the tests are those of the longest
-- buffer; refused without an optional header
abbrev pub image_length_by : Option OptionalHeaderView → List ℕ → HeaderView → List SectionTable → List CertificateView → Result ℕ Refusal
image_length_by None b h sections cs = Err NoOptionalHeader
image_length_by (Some o) b h sections cs =
    let pieces = image_pieces b h o sections cs in
    outcome (image_tests b h o sections longest pieces) (greatest_end pieces)

-- how many bytes a buffer needs for the image; the data of its sections is taken from b
abbrev pub image_length : List ℕ → ImageView → Result ℕ Refusal
image_length b x = image_length_by x.header.optional_header b x.header x.sections x.certificates

-- how many bytes the file with the pieces of an image needs; refused without an optional header
abbrev pub whole_length_by : Option OptionalHeaderView → List ℕ → HeaderView → List SectionTable → List CertificateView → Result ℕ Refusal
whole_length_by None b h sections cs = Err NoOptionalHeader
whole_length_by (Some o) b h sections cs =
    let pieces = whole_pieces b h o sections cs in
    outcome (section_tests b sections longest pieces) (greatest_end pieces)

-- how many bytes a buffer needs for the file b with the image
abbrev pub whole_length : List ℕ → ImageView → Result ℕ Refusal
whole_length b x = whole_length_by x.header.optional_header b x.header x.sections x.certificates
