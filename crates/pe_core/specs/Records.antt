-- Records of fixed size at offset p.
-- (PE format: DOS header, COFF file header, optional header, section table, .edata section, .idata section.)
use Rattle.std.specs.Prelude.{ℕ, ◌+◌, List}
use Rattle.pe_core.specs.Bytes.{le, range}
use Rattle.pe_core.specs.declared.data_directories.DataDirectory.{DataDirectory}
use Rattle.pe_core.specs.declared.export.ExportDirectoryTable.{ExportDirectoryTable}
use Rattle.pe_core.specs.declared.header.DosHeader.{DosHeader}
use Rattle.pe_core.specs.declared.header.CoffHeader.{CoffHeader}
use Rattle.pe_core.specs.declared.header.TeHeader.{TeHeader}
use Rattle.pe_core.specs.declared.import.ImportDirectoryEntry.{ImportDirectoryEntry}
use Rattle.pe_core.specs.declared.optional_header.StandardFields.{StandardFields}
use Rattle.pe_core.specs.declared.optional_header.WindowsFields.{WindowsFields}
use Rattle.pe_core.specs.declared.section_table.SectionTable.{SectionTable}

-- the DOS header, 64 bytes
unfoldable pub dos_header : List ℕ → ℕ → DosHeader
dos_header b p = record { signature = le b p 2; rest = range b (p + 2) 58; pe_pointer = le b (p + 60) 4 }

-- the COFF file header, 20 bytes
unfoldable pub coff_header : List ℕ → ℕ → CoffHeader
coff_header b p = record {
  machine = le b p 2;
  number_of_sections = le b (p + 2) 2;
  time_date_stamp = le b (p + 4) 4;
  pointer_to_symbol_table = le b (p + 8) 4;
  number_of_symbol_table = le b (p + 12) 4;
  size_of_optional_header = le b (p + 16) 2;
  characteristics = le b (p + 18) 2;
}

-- the standard fields of PE32+, 24 bytes; they have no base of data
unfoldable pub standard_fields_64 : List ℕ → ℕ → StandardFields
standard_fields_64 b p = record {
  magic = le b p 2;
  major_linker_version = le b (p + 2) 1;
  minor_linker_version = le b (p + 3) 1;
  size_of_code = le b (p + 4) 4;
  size_of_initialized_data = le b (p + 8) 4;
  size_of_uninitialized_data = le b (p + 12) 4;
  address_of_entry_point = le b (p + 16) 4;
  base_of_code = le b (p + 20) 4;
  base_of_data = 0;
}

-- the standard fields of PE32, 28 bytes: the same, and then the base of data
unfoldable pub standard_fields_32 : List ℕ → ℕ → StandardFields
standard_fields_32 b p = record (standard_fields_64 b p) { base_of_data = le b (p + 24) 4 }

-- the fields of Windows in PE32, 68 bytes
unfoldable pub windows_fields_32 : List ℕ → ℕ → WindowsFields
windows_fields_32 b p = record {
  image_base = le b p 4;
  section_alignment = le b (p + 4) 4;
  file_alignment = le b (p + 8) 4;
  major_operating_system_version = le b (p + 12) 2;
  minor_operating_system_version = le b (p + 14) 2;
  major_image_version = le b (p + 16) 2;
  minor_image_version = le b (p + 18) 2;
  major_subsystem_version = le b (p + 20) 2;
  minor_subsystem_version = le b (p + 22) 2;
  win32_version_value = le b (p + 24) 4;
  size_of_image = le b (p + 28) 4;
  size_of_headers = le b (p + 32) 4;
  check_sum = le b (p + 36) 4;
  subsystem = le b (p + 40) 2;
  dll_characteristics = le b (p + 42) 2;
  size_of_stack_reserve = le b (p + 44) 4;
  size_of_stack_commit = le b (p + 48) 4;
  size_of_heap_reserve = le b (p + 52) 4;
  size_of_heap_commit = le b (p + 56) 4;
  loader_flags = le b (p + 60) 4;
  number_of_rva_and_sizes = le b (p + 64) 4;
}

-- the fields of Windows in PE32+, 88 bytes
unfoldable pub windows_fields_64 : List ℕ → ℕ → WindowsFields
windows_fields_64 b p = record {
  image_base = le b p 8;
  section_alignment = le b (p + 8) 4;
  file_alignment = le b (p + 12) 4;
  major_operating_system_version = le b (p + 16) 2;
  minor_operating_system_version = le b (p + 18) 2;
  major_image_version = le b (p + 20) 2;
  minor_image_version = le b (p + 22) 2;
  major_subsystem_version = le b (p + 24) 2;
  minor_subsystem_version = le b (p + 26) 2;
  win32_version_value = le b (p + 28) 4;
  size_of_image = le b (p + 32) 4;
  size_of_headers = le b (p + 36) 4;
  check_sum = le b (p + 40) 4;
  subsystem = le b (p + 44) 2;
  dll_characteristics = le b (p + 46) 2;
  size_of_stack_reserve = le b (p + 48) 8;
  size_of_stack_commit = le b (p + 56) 8;
  size_of_heap_reserve = le b (p + 64) 8;
  size_of_heap_commit = le b (p + 72) 8;
  loader_flags = le b (p + 80) 4;
  number_of_rva_and_sizes = le b (p + 84) 4;
}

-- a data directory, 8 bytes
unfoldable pub data_directory : List ℕ → ℕ → DataDirectory
data_directory b p = record {
  virtual_address = le b p 4;
  size = le b (p + 4) 4;
}

-- a section header, 40 bytes
unfoldable pub section_table : List ℕ → ℕ → SectionTable
section_table b p = record {
  name = range b p 8;
  virtual_size = le b (p + 8) 4;
  virtual_address = le b (p + 12) 4;
  size_of_raw_data = le b (p + 16) 4;
  pointer_to_raw_data = le b (p + 20) 4;
  pointer_to_relocations = le b (p + 24) 4;
  pointer_to_linenumbers = le b (p + 28) 4;
  number_of_relocations = le b (p + 32) 2;
  number_of_linenumbers = le b (p + 34) 2;
  characteristics = le b (p + 36) 4;
}

-- the header of a TE image, 40 bytes (this project's profile)
unfoldable pub te_header : List ℕ → ℕ → TeHeader
te_header b p = record {
  signature = le b p 2;
  machine = le b (p + 2) 2;
  number_of_sections = le b (p + 4) 1;
  subsystem = le b (p + 5) 1;
  stripped_size = le b (p + 6) 2;
  entry_point = le b (p + 8) 4;
  base_of_code = le b (p + 12) 4;
  image_base = le b (p + 16) 8;
  reloc_dir = data_directory b (p + 24);
  debug_dir = data_directory b (p + 32);
}

-- the export directory, 40 bytes
unfoldable pub export_directory : List ℕ → ℕ → ExportDirectoryTable
export_directory b p = record {
  characteristics = le b p 4;
  time_date_stamp = le b (p + 4) 4;
  major = le b (p + 8) 2;
  minor = le b (p + 10) 2;
  name_rva = le b (p + 12) 4;
  ordinal_base = le b (p + 16) 4;
  address_table_entries = le b (p + 20) 4;
  number_of_name_pointers = le b (p + 24) 4;
  address_table_rva = le b (p + 28) 4;
  name_pointer_rva = le b (p + 32) 4;
  ordinal_table_rva = le b (p + 36) 4;
}

-- a record of the import directory, 20 bytes
unfoldable pub import_entry : List ℕ → ℕ → ImportDirectoryEntry
import_entry b p = record {
  lookup_table_rva = le b p 4;
  time_date_stamp = le b (p + 4) 4;
  forwarder_chain = le b (p + 8) 4;
  name_rva = le b (p + 12) 4;
  address_table_rva = le b (p + 16) 4;
}
