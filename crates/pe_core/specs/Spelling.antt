-- Records as bytes: each field in its width, in the order of the fields. (PE format.)
use Rattle.std.specs.Prelude.{ℕ, List, ◌++◌, ◌==◌, if◌then◌else◌}
use Rattle.std.specs.List.{flat_map}
use Rattle.pe_core.specs.Bytes.{bytes_of}
use Rattle.pe_core.specs.Header.{OptionalHeaderView}
use Rattle.pe_core.specs.declared.data_directories.DataDirectory.{DataDirectory}
use Rattle.pe_core.specs.declared.header.DosHeader.{DosHeader}
use Rattle.pe_core.specs.declared.header.CoffHeader.{CoffHeader}
use Rattle.pe_core.specs.declared.header.TeHeader.{TeHeader}
use Rattle.pe_core.specs.declared.optional_header.StandardFields.{StandardFields}
use Rattle.pe_core.specs.declared.optional_header.WindowsFields.{WindowsFields}
use Rattle.pe_core.specs.declared.section_table.SectionTable.{SectionTable}

-- the DOS header, 64 bytes
unfoldable pub spell_dos : DosHeader → List ℕ
spell_dos d = bytes_of 2 d.signature ++ d.rest ++ bytes_of 4 d.pe_pointer

-- the COFF file header, 20 bytes
unfoldable pub spell_coff : CoffHeader → List ℕ
spell_coff c = bytes_of 2 c.machine ++ bytes_of 2 c.number_of_sections ++ bytes_of 4 c.time_date_stamp
    ++ bytes_of 4 c.pointer_to_symbol_table ++ bytes_of 4 c.number_of_symbol_table
    ++ bytes_of 2 c.size_of_optional_header ++ bytes_of 2 c.characteristics

-- the standard fields of PE32+, 24 bytes; they have no base of data
unfoldable pub spell_standard_fields_64 : StandardFields → List ℕ
spell_standard_fields_64 s = bytes_of 2 s.magic ++ bytes_of 1 s.major_linker_version ++ bytes_of 1 s.minor_linker_version
    ++ bytes_of 4 s.size_of_code ++ bytes_of 4 s.size_of_initialized_data
    ++ bytes_of 4 s.size_of_uninitialized_data ++ bytes_of 4 s.address_of_entry_point
    ++ bytes_of 4 s.base_of_code

-- the standard fields of PE32, 28 bytes: the same, and then the base of data
unfoldable pub spell_standard_fields_32 : StandardFields → List ℕ
spell_standard_fields_32 s = spell_standard_fields_64 s ++ bytes_of 4 s.base_of_data

-- the fields of Windows in PE32, 68 bytes
unfoldable pub spell_windows_fields_32 : WindowsFields → List ℕ
spell_windows_fields_32 w = bytes_of 4 w.image_base ++ bytes_of 4 w.section_alignment ++ bytes_of 4 w.file_alignment
    ++ bytes_of 2 w.major_operating_system_version ++ bytes_of 2 w.minor_operating_system_version
    ++ bytes_of 2 w.major_image_version ++ bytes_of 2 w.minor_image_version
    ++ bytes_of 2 w.major_subsystem_version ++ bytes_of 2 w.minor_subsystem_version
    ++ bytes_of 4 w.win32_version_value ++ bytes_of 4 w.size_of_image ++ bytes_of 4 w.size_of_headers
    ++ bytes_of 4 w.check_sum ++ bytes_of 2 w.subsystem ++ bytes_of 2 w.dll_characteristics
    ++ bytes_of 4 w.size_of_stack_reserve ++ bytes_of 4 w.size_of_stack_commit
    ++ bytes_of 4 w.size_of_heap_reserve ++ bytes_of 4 w.size_of_heap_commit ++ bytes_of 4 w.loader_flags
    ++ bytes_of 4 w.number_of_rva_and_sizes

-- the fields of Windows in PE32+, 88 bytes
unfoldable pub spell_windows_fields_64 : WindowsFields → List ℕ
spell_windows_fields_64 w = bytes_of 8 w.image_base ++ bytes_of 4 w.section_alignment ++ bytes_of 4 w.file_alignment
    ++ bytes_of 2 w.major_operating_system_version ++ bytes_of 2 w.minor_operating_system_version
    ++ bytes_of 2 w.major_image_version ++ bytes_of 2 w.minor_image_version
    ++ bytes_of 2 w.major_subsystem_version ++ bytes_of 2 w.minor_subsystem_version
    ++ bytes_of 4 w.win32_version_value ++ bytes_of 4 w.size_of_image ++ bytes_of 4 w.size_of_headers
    ++ bytes_of 4 w.check_sum ++ bytes_of 2 w.subsystem ++ bytes_of 2 w.dll_characteristics
    ++ bytes_of 8 w.size_of_stack_reserve ++ bytes_of 8 w.size_of_stack_commit
    ++ bytes_of 8 w.size_of_heap_reserve ++ bytes_of 8 w.size_of_heap_commit ++ bytes_of 4 w.loader_flags
    ++ bytes_of 4 w.number_of_rva_and_sizes

-- a data directory, 8 bytes
unfoldable pub spell_directory : DataDirectory → List ℕ
spell_directory d = bytes_of 4 d.virtual_address ++ bytes_of 4 d.size

-- a section header, 40 bytes
unfoldable pub spell_section : SectionTable → List ℕ
spell_section s = s.name ++ bytes_of 4 s.virtual_size ++ bytes_of 4 s.virtual_address ++ bytes_of 4 s.size_of_raw_data
    ++ bytes_of 4 s.pointer_to_raw_data ++ bytes_of 4 s.pointer_to_relocations
    ++ bytes_of 4 s.pointer_to_linenumbers ++ bytes_of 2 s.number_of_relocations
    ++ bytes_of 2 s.number_of_linenumbers ++ bytes_of 4 s.characteristics

-- the header of a TE image, 40 bytes
unfoldable pub spell_te : TeHeader → List ℕ
spell_te t = bytes_of 2 t.signature ++ bytes_of 2 t.machine ++ bytes_of 1 t.number_of_sections
    ++ bytes_of 1 t.subsystem ++ bytes_of 2 t.stripped_size ++ bytes_of 4 t.entry_point
    ++ bytes_of 4 t.base_of_code ++ bytes_of 8 t.image_base ++ spell_directory t.reloc_dir
    ++ spell_directory t.debug_dir

-- the optional header: its fields by its magic number, then the directories that it keeps
unfoldable pub spell_optional : OptionalHeaderView → List ℕ
spell_optional o =
    (if o.standard_fields.magic == 0x20B
    then spell_standard_fields_64 o.standard_fields ++ spell_windows_fields_64 o.windows_fields
    else spell_standard_fields_32 o.standard_fields ++ spell_windows_fields_32 o.windows_fields)
    ++ flat_map spell_directory o.data_directories
