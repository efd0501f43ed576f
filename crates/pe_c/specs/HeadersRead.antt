-- The headers of an image, read of what `pe_c_headers` returns: each number is that of a field, the bytes of the DOS header between
-- its signature and its pointer are those of its numbers, and the stub is a range.
use Rattle.std.specs.Prelude.{ℕ, ◌==◌, List, ◌∷◌, ◌++◌, take, Option, Some, None, if◌then◌else◌, Result, Ok}
use Rattle.std.specs.List.{flat_map}
use Rattle.pe_core.specs.Bytes.{bytes_of, range}
use Rattle.pe_core.specs.Header.{HeaderView, OptionalHeaderView}
use Rattle.pe_core.specs.declared.optional_header.StandardFields.{StandardFields}
use Rattle.pe_core.specs.declared.optional_header.WindowsFields.{WindowsFields}
use Rattle.calls_headers.specs.Coff.{coff_header_of}
use Rattle.calls_headers.specs.declared.headers.DosFields.{DosFields}
use Rattle.calls_headers.specs.declared.headers.Headers.{Headers}
use Rattle.calls_headers.specs.declared.headers.OptionalFields.{OptionalFields}
use Rattle.pe_core.specs.Refusals.{Refusal}
use Rattle.calls_base.specs.Views.{directory_sections}
use Rattle.calls_base.specs.declared.ranges.Range.{Range}
use Rattle.calls_base.specs.declared.view.View.{View}
use Rattle.calls_headers.specs.Debug.{debug_entries_range}
use Rattle.calls_headers.specs.Headers.{overlay_at, strings_at}
use Rattle.pe_c.specs.declared.headers.TheConstants.{RANGE_DEBUG_ENTRIES, RANGE_OVERLAY, RANGE_STRING_TABLE}

-- the numbers of a DOS header between its signature and its pointer, in the order in which they stand, 16 bits each
abbrev pub dos_numbers : DosFields → List ℕ
dos_numbers x =
    x.bytes_on_last_page ∷ x.pages_in_file ∷ x.relocations ∷ x.size_of_header_in_paragraphs ∷ x.minimum_extra_paragraphs
    ∷ x.maximum_extra_paragraphs ∷ x.initial_relative_ss ∷ x.initial_sp ∷ x.checksum ∷ x.initial_ip ∷ x.initial_relative_cs
    ∷ x.relocations_offset ∷ x.overlay_number ∷ (x.reserved ++ x.oem_id ∷ x.oem_information ∷ x.reserved2)

abbrev pub standard_of : OptionalFields → StandardFields
standard_of x = record {
  magic = x.magic;
  major_linker_version = x.major_linker_version;
  minor_linker_version = x.minor_linker_version;
  size_of_code = x.size_of_code;
  size_of_initialized_data = x.size_of_initialized_data;
  size_of_uninitialized_data = x.size_of_uninitialized_data;
  address_of_entry_point = x.address_of_entry_point;
  base_of_code = x.base_of_code;
  base_of_data = x.base_of_data;
}

abbrev pub windows_of : OptionalFields → WindowsFields
windows_of x = record {
  image_base = x.image_base;
  section_alignment = x.section_alignment;
  file_alignment = x.file_alignment;
  major_operating_system_version = x.major_operating_system_version;
  minor_operating_system_version = x.minor_operating_system_version;
  major_image_version = x.major_image_version;
  minor_image_version = x.minor_image_version;
  major_subsystem_version = x.major_subsystem_version;
  minor_subsystem_version = x.minor_subsystem_version;
  win32_version_value = x.win32_version_value;
  size_of_image = x.size_of_image;
  size_of_headers = x.size_of_headers;
  check_sum = x.check_sum;
  subsystem = x.subsystem;
  dll_characteristics = x.dll_characteristics;
  size_of_stack_reserve = x.size_of_stack_reserve;
  size_of_stack_commit = x.size_of_stack_commit;
  size_of_heap_reserve = x.size_of_heap_reserve;
  size_of_heap_commit = x.size_of_heap_commit;
  loader_flags = x.loader_flags;
  number_of_rva_and_sizes = x.number_of_rva_and_sizes;
}

-- the optional header, whose offset is 0 where there is none; it has so many of the sixteen directories
abbrev pub optional_of : Headers → Option OptionalHeaderView
optional_of x =
    if x.optional_offset == 0 then None
    else Some (record { standard_fields = standard_of x.optional; windows_fields = windows_of x.optional; data_directories = take x.optional.number_of_directories x.directories })

-- all headers; of the bytes only the stub is read
abbrev pub header_of : List ℕ → Headers → HeaderView
header_of b x = record {
  dos_header = record { signature = x.dos.signature; rest = flat_map (bytes_of 2) (dos_numbers x.dos); pe_pointer = x.dos.pe_pointer };
  dos_stub = range b x.dos_stub.offset x.dos_stub.length;
  signature = x.signature;
  coff_header = coff_header_of x.coff;
  optional_header = optional_of x;
}

-- ---- the ranges of an image by their kinds, as one call returns them

-- the range of a kind; none of another kind
abbrev pub image_range : ℕ → View → Result (Option Range) Refusal
image_range kind v =
    if kind == RANGE_OVERLAY then Ok (overlay_at v.bytes.now v.image.now v.sections.now)
    else if kind == RANGE_STRING_TABLE then strings_at v.bytes.now v.image.now
    else if kind == RANGE_DEBUG_ENTRIES then debug_entries_range v.bytes.now v.image.now (directory_sections v 6) v.image.now.mode
    else Ok None
