-- Section headers. (PE format: section table.)
use Rattle.std.specs.Prelude.{ℕ, ◌+◌, ◌<◌, ◌≤◌, ◌==◌, List, Option, Some, None, Result, if◌then◌else◌}
use Rattle.std.specs.List.{before_first}
use Rattle.pe_core.specs.Bytes.{holds, range}
use Rattle.pe_core.specs.Header.{HeaderView}
use Rattle.pe_core.specs.Records.{section_table}
use Rattle.pe_core.specs.Refusals.{Refusal}
use Rattle.pe_core.specs.Rows.{rows_at}
use Rattle.pe_core.specs.Text.{text_of}
use Rattle.pe_core.specs.declared.section_table.SectionTable.{SectionTable}

-- n section headers from offset p on, or `Short` if they are truncated; with n = 0 they are none, at any offset
abbrev pub sections_at : List ℕ → ℕ → ℕ → Result (List SectionTable) Refusal
sections_at b p n = rows_at section_table 40 b p n

-- the file offset of the section headers: after the PE signature, the COFF header, and as many bytes as it says of the
-- optional header
abbrev pub sections_offset : HeaderView → ℕ
sections_offset h = h.dos_header.pe_pointer + 24 + h.coff_header.size_of_optional_header

-- the section headers of an image with these headers
abbrev pub sections_of : List ℕ → HeaderView → Result (List SectionTable) Refusal
sections_of b h = sections_at b (sections_offset h) h.coff_header.number_of_sections

-- the file offset at which the section's data ends
abbrev pub raw_end : SectionTable → ℕ
raw_end s = s.pointer_to_raw_data + s.size_of_raw_data

-- the section's name: its bytes up to the first zero, if they are UTF-8
abbrev pub section_name : SectionTable → Option (List ℕ)
section_name s = text_of (before_first (λ c. c == 0) s.name)

-- the section's data in the file, if they are all there
abbrev pub section_data : List ℕ → SectionTable → Option (List ℕ)
section_data b s = if holds b s.pointer_to_raw_data s.size_of_raw_data then Some (range b s.pointer_to_raw_data s.size_of_raw_data) else None

-- the byte at file offset q is one of the section's data
abbrev pub HasRawByte : SectionTable → ℕ → Type 0
HasRawByte s q = (s.pointer_to_raw_data ≤ q) × (q < raw_end s)

-- the two sections have a byte of the file in common
abbrev pub SharesRawByte : SectionTable → SectionTable → Type 0
SharesRawByte s t = (q : ℕ) × (HasRawByte s q × HasRawByte t q)
