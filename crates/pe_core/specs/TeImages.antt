-- The header of a TE image and its sections. RVAs and file offsets that count the dropped headers are reduced by their
-- size.
-- (This project's profile.)
use Rattle.std.specs.Prelude.{ℕ, ◌+◌, ◌-◌, ◌%◌, ◌^◌, ◌==◌, ◌&&◌, List, [], ◌∷◌, Bool, Result, nat_le, if◌then◌else◌}
use Rattle.pe_core.specs.Bytes.{le, holds}
use Rattle.pe_core.specs.Records.{section_table, te_header}
use Rattle.pe_core.specs.Refusals.{Refusal, Short, BadMagic, TeSize, outcome, ◌>>=◌}
use Rattle.pe_core.specs.Rows.{rows_at}
use Rattle.pe_core.specs.declared.data_directories.DataDirectory.{DataDirectory}
use Rattle.pe_core.specs.declared.header.TeHeader.{TeHeader}
use Rattle.pe_core.specs.declared.section_table.SectionTable.{SectionTable}

-- the number less the offset, modulo 2 ^ 32
abbrev pub reduced : ℕ → ℕ → ℕ
reduced offset number = (number + (2 ^ 32 - offset)) % 2 ^ 32

-- the number of dropped bytes beyond the 40 of the header itself
abbrev pub rva_offset : TeHeader → ℕ
rva_offset t = t.stripped_size - 40

-- the same, or `TeSize` if fewer than 40 bytes were dropped
abbrev pub rva_offset_of : TeHeader → Result ℕ Refusal
rva_offset_of t = outcome ((nat_le 40 t.stripped_size, TeSize) ∷ []) (rva_offset t)

-- a directory with its RVA reduced
abbrev pub reduced_directory : ℕ → DataDirectory → DataDirectory
reduced_directory offset d = record { virtual_address = reduced offset d.virtual_address; size = d.size }

-- a debug directory of two zeros is absent, and stays so
abbrev pub reduced_debug : ℕ → DataDirectory → DataDirectory
reduced_debug offset d = if d.virtual_address == 0 && d.size == 0 then d else reduced_directory offset d

-- the header with its RVAs reduced
unfoldable pub reduced_header : TeHeader → TeHeader
reduced_header t = record {
  signature = t.signature;
  machine = t.machine;
  number_of_sections = t.number_of_sections;
  subsystem = t.subsystem;
  stripped_size = t.stripped_size;
  entry_point = reduced (rva_offset t) t.entry_point;
  base_of_code = reduced (rva_offset t) t.base_of_code;
  image_base = t.image_base;
  reloc_dir = reduced_directory (rva_offset t) t.reloc_dir;
  debug_dir = reduced_debug (rva_offset t) t.debug_dir;
}

-- the tests of the header: its size, its signature, the dropped bytes
unfoldable pub te_tests : List ℕ → List (Bool × Refusal)
te_tests b =
    (holds b 0 40, Short)
    ∷ (le b 0 2 == 0x5A56, BadMagic)
    ∷ (nat_le 40 (le b 6 2), TeSize)
    ∷ []

-- the header of these bytes, reduced, or the first refusal
unfoldable pub te_header_of : List ℕ → Result TeHeader Refusal
te_header_of b = outcome (te_tests b) (reduced_header (te_header b 0))

-- a section header with its RVA and its raw pointer reduced, and nothing else
unfoldable pub reduced_section : ℕ → SectionTable → SectionTable
reduced_section offset s = record {
  name = s.name;
  virtual_size = s.virtual_size;
  virtual_address = reduced offset s.virtual_address;
  size_of_raw_data = s.size_of_raw_data;
  pointer_to_raw_data = reduced offset s.pointer_to_raw_data;
  pointer_to_relocations = s.pointer_to_relocations;
  pointer_to_linenumbers = s.pointer_to_linenumbers;
  number_of_relocations = s.number_of_relocations;
  number_of_linenumbers = s.number_of_linenumbers;
  characteristics = s.characteristics;
}

-- the section headers that follow the header, each reduced
unfoldable pub te_sections_of : List ℕ → TeHeader → Result (List SectionTable) Refusal
te_sections_of b t = rva_offset_of t >>= λ offset. rows_at (λ c p. reduced_section offset (section_table c p)) 40 b 40 t.number_of_sections
