-- The pieces of an image, in the order in which they are written. (PE format: the layout of a file; the end of the
-- zeros after a section's data is this project's profile.)
use Rattle.std.specs.Prelude.{ℕ, ◌+◌, ◌-◌, ◌%◌, ◌==◌, List, [], ◌∷◌, ◌++◌, length, replicate, Option, Some, None, if◌then◌else◌}
use Rattle.pe_core.specs.Bytes.{bytes_of, range}
use Rattle.pe_core.specs.Header.{HeaderView, OptionalHeaderView}
use Rattle.pe_core.specs.Sections.{raw_end}
use Rattle.pe_core.specs.Spelling.{spell_dos, spell_coff, spell_optional, spell_section}
use Rattle.pe_core.specs.declared.data_directories.DataDirectory.{DataDirectory}
use Rattle.pe_core.specs.declared.section_table.SectionTable.{SectionTable}
use Rattle.pe_records.specs.Certificates.{CertificateView}
use Rattle.pe_records.specs.CertificateWriting.{padding, spell_certificate, written_length}
use Rattle.pe_image.specs.Overlay.{Piece, piece}

-- the pieces of some records in their order: `pieces_of` is the pieces of a record at an offset, and `width` the
-- distance from that offset to the next record
abbrev pub in_a_row : {X : Type 0} → (ℕ → X → List Piece) → (X → ℕ) → ℕ → List X → List Piece
in_a_row pieces_of width p [] = []
in_a_row pieces_of width p (x ∷ xs) = pieces_of p x ++ in_a_row pieces_of width (p + width x) xs

-- the offset after these records
abbrev pub row_end : {X : Type 0} → (X → ℕ) → ℕ → List X → ℕ
row_end width p [] = p
row_end width p (x ∷ xs) = row_end width (p + width x) xs

-- the headers before the section table
unfoldable pub header_pieces : HeaderView → OptionalHeaderView → List Piece
header_pieces h o =
    let p = h.dos_header.pe_pointer in
    piece 0 (spell_dos h.dos_header)
    ∷ piece 64 h.dos_stub
    ∷ piece p (bytes_of 4 h.signature)
    ∷ piece (p + 4) (spell_coff h.coff_header)
    ∷ piece (p + 24) (spell_optional o)
    ∷ []

-- how many bytes n is short of a multiple of the unit; 0 without a unit
abbrev pub lacking : ℕ → Option ℕ → ℕ
lacking n None = 0
lacking n (Some unit) = if n % unit == 0 then 0 else unit - n % unit

-- a section's data, its header at `offset`, and the zeros after its data; b is the file that the data is taken from
unfoldable pub section_pieces : List ℕ → Option ℕ → ℕ → SectionTable → List Piece
section_pieces b unit offset s =
    piece s.pointer_to_raw_data (range b s.pointer_to_raw_data s.size_of_raw_data)
    ∷ piece offset (spell_section s)
    ∷ piece (raw_end s) (replicate (lacking s.size_of_raw_data unit) 0)
    ∷ []

-- the size of a section header in bytes
abbrev pub header_width : SectionTable → ℕ
header_width s = 40

-- the pieces of sections, whose headers follow one another from `offset` on
abbrev pub all_section_pieces : List ℕ → Option ℕ → ℕ → List SectionTable → List Piece
all_section_pieces b unit offset sections = in_a_row (section_pieces b unit) header_width offset sections

-- a certificate: its header, its body and zeros up to a multiple of eight
abbrev pub certificate_pieces : ℕ → CertificateView → List Piece
certificate_pieces p c =
    piece p (spell_certificate c)
    ∷ piece (p + 8) c.body
    ∷ piece (p + 8 + length c.body) (padding c)
    ∷ []

-- the pieces of certificates from the offset of the directory on; none without that directory
abbrev pub all_certificate_pieces : Option DataDirectory → List CertificateView → List Piece
all_certificate_pieces None cs = []
all_certificate_pieces (Some d) cs = in_a_row certificate_pieces written_length d.virtual_address cs

-- the offset after these certificates; 0 if none is written
abbrev pub certificates_end : Option DataDirectory → List CertificateView → ℕ
certificates_end None cs = 0
certificates_end (Some d) cs = if length cs == 0 then 0 else row_end written_length d.virtual_address cs
