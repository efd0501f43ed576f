-- The section that has an RVA in memory, found by halving over the section table. Every table is legal: the section that is found is
-- tested. In a valid image the sections are in ascending order and do not overlap, so no other section has the RVA.
use Rattle.std.specs.Prelude.{ℕ, ◌==◌, List, [], length, if◌then◌else◌}
use Rattle.pe_core.specs.declared.section_table.SectionTable.{SectionTable}
use Rattle.pe_lookup.specs.AddressRanges.{started}
use Rattle.pe_lookup.specs.SectionIndexes.{numbered}

-- the first RVA of a section
abbrev pub section_start : SectionTable → ℕ
section_start s = s.virtual_address

-- how many bytes it has in memory: as many as in the file where its virtual size is 0
abbrev pub memory_size : SectionTable → ℕ
memory_size s = if s.virtual_size == 0 then s.size_of_raw_data else s.virtual_size

-- a section without a byte
abbrev pub no_section : SectionTable
no_section = record {
  name = [];
  virtual_size = 0;
  virtual_address = 0;
  size_of_raw_data = 0;
  pointer_to_raw_data = 0;
  pointer_to_relocations = 0;
  pointer_to_linenumbers = 0;
  number_of_relocations = 0;
  number_of_linenumbers = 0;
  characteristics = 0;
}

-- how many sections start at or before an RVA, where they are sorted by start: the search by halving. In any other table it is some
-- number of them, and 0 or one whose last section does. As many bits as there are sections are enough.
abbrev pub sections_started : List SectionTable → ℕ → ℕ
sections_started sections x = started section_start no_section sections x (length sections) 0

-- the last of them, if there is one
abbrev pub section_started : List SectionTable → ℕ → List SectionTable
section_started sections x = numbered sections (sections_started sections x)
