-- What a call returns of all headers of an image.
use Rattle.std.specs.Prelude.{ℕ, ◌+◌, List, [], ◌∷◌, length, Option, Some, None, Result, Ok, if◌then◌else◌, ◌/◌, ◌==◌, take, drop, nat_le}
use Rattle.pe_core.specs.Bytes.{le, record_at}
use Rattle.pe_core.specs.Header.{HeaderView, OptionalHeaderView, header_at}
use Rattle.pe_core.specs.Refusals.{Refusal, ◌>>=◌}
use Rattle.pe_core.specs.declared.header.CoffHeader.{CoffHeader}
use Rattle.pe_core.specs.declared.header.DosHeader.{DosHeader}
use Rattle.calls_base.specs.Images.{all_directories, directories_at, PutsIf, is_absent}
use Rattle.calls_base.specs.Modes.{mode_of_number, resolves}
use Rattle.calls_headers.specs.declared.headers.CoffFields.{CoffFields}
use Rattle.calls_headers.specs.declared.headers.DosFields.{DosFields}
use Rattle.calls_headers.specs.declared.headers.Headers.{Headers}
use Rattle.calls_headers.specs.declared.headers.OptionalFields.{OptionalFields}
use Rattle.std.specs.Option.{option_map}
use Rattle.pe_core.specs.declared.section_table.SectionTable.{SectionTable}
use Rattle.pe_directories.specs.Overlays.{overlay_range}
use Rattle.calls_base.specs.Ranges.{range_of, or_zero, bytes_at, or_no_bytes}
use Rattle.calls_base.specs.declared.image.Image.{Image}
use Rattle.calls_base.specs.declared.ranges.Range.{Range}
use Rattle.pe_core.specs.Records.{dos_header, coff_header, section_table}
use Rattle.pe_directories.specs.RichHeader.{Rich, rich_checksum, rich_entry, rich_header}
use Rattle.pe_directories.specs.declared.rich_header.RichEntry.{RichEntry}
use Rattle.calls_headers.specs.declared.rich_header.RichHeader.{RichHeader}
use Rattle.std.specs.List.{slice_get}
use Rattle.pe_core.specs.Strings.{strings_of, strings_offset}
use Rattle.pe_directories.specs.SectionNames.{long_section_name, string_offset}
use Rattle.pe_core.specs.Options.{te_options}
use Rattle.pe_core.specs.Rows.{rows_at}
use Rattle.pe_core.specs.TeImages.{reduced_section, rva_offset, te_header_of}
use Rattle.pe_core.specs.declared.header.TeHeader.{TeHeader}
use Rattle.pe_records.specs.DebugDirectory.{directory_range}
use Rattle.calls_headers.specs.declared.te.TeImage.{TeImage}

-- the fields of a DOS header: 16 bits each between the signature and the pointer, whose bytes start at offset 2
abbrev pub dos_fields : DosHeader → DosFields
dos_fields h = record {
  signature = h.signature;
  bytes_on_last_page = le h.rest 0 2;
  pages_in_file = le h.rest 2 2;
  relocations = le h.rest 4 2;
  size_of_header_in_paragraphs = le h.rest 6 2;
  minimum_extra_paragraphs = le h.rest 8 2;
  maximum_extra_paragraphs = le h.rest 10 2;
  initial_relative_ss = le h.rest 12 2;
  initial_sp = le h.rest 14 2;
  checksum = le h.rest 16 2;
  initial_ip = le h.rest 18 2;
  initial_relative_cs = le h.rest 20 2;
  relocations_offset = le h.rest 22 2;
  overlay_number = le h.rest 24 2;
  reserved = le h.rest 26 2 ∷ le h.rest 28 2 ∷ le h.rest 30 2 ∷ le h.rest 32 2 ∷ [];
  oem_id = le h.rest 34 2;
  oem_information = le h.rest 36 2;
  reserved2 =
      le h.rest 38 2 ∷ le h.rest 40 2 ∷ le h.rest 42 2 ∷ le h.rest 44 2 ∷ le h.rest 46 2
      ∷ le h.rest 48 2 ∷ le h.rest 50 2 ∷ le h.rest 52 2 ∷ le h.rest 54 2 ∷ le h.rest 56 2 ∷ [];
  pe_pointer = h.pe_pointer;
}

-- the fields of a COFF header
abbrev pub coff_fields : CoffHeader → CoffFields
coff_fields h = record {
  time_date_stamp = h.time_date_stamp;
  pointer_to_symbol_table = h.pointer_to_symbol_table;
  number_of_symbol_table = h.number_of_symbol_table;
  machine = h.machine;
  number_of_sections = h.number_of_sections;
  size_of_optional_header = h.size_of_optional_header;
  characteristics = h.characteristics;
}

-- the fields of an optional header, and how many directories it keeps
abbrev pub optional_fields : OptionalHeaderView → OptionalFields
optional_fields o = record {
  image_base = o.windows_fields.image_base;
  size_of_stack_reserve = o.windows_fields.size_of_stack_reserve;
  size_of_stack_commit = o.windows_fields.size_of_stack_commit;
  size_of_heap_reserve = o.windows_fields.size_of_heap_reserve;
  size_of_heap_commit = o.windows_fields.size_of_heap_commit;
  size_of_code = o.standard_fields.size_of_code;
  size_of_initialized_data = o.standard_fields.size_of_initialized_data;
  size_of_uninitialized_data = o.standard_fields.size_of_uninitialized_data;
  address_of_entry_point = o.standard_fields.address_of_entry_point;
  base_of_code = o.standard_fields.base_of_code;
  base_of_data = o.standard_fields.base_of_data;
  section_alignment = o.windows_fields.section_alignment;
  file_alignment = o.windows_fields.file_alignment;
  win32_version_value = o.windows_fields.win32_version_value;
  size_of_image = o.windows_fields.size_of_image;
  size_of_headers = o.windows_fields.size_of_headers;
  check_sum = o.windows_fields.check_sum;
  loader_flags = o.windows_fields.loader_flags;
  number_of_rva_and_sizes = o.windows_fields.number_of_rva_and_sizes;
  number_of_directories = length o.data_directories;
  magic = o.standard_fields.magic;
  major_operating_system_version = o.windows_fields.major_operating_system_version;
  minor_operating_system_version = o.windows_fields.minor_operating_system_version;
  major_image_version = o.windows_fields.major_image_version;
  minor_image_version = o.windows_fields.minor_image_version;
  major_subsystem_version = o.windows_fields.major_subsystem_version;
  minor_subsystem_version = o.windows_fields.minor_subsystem_version;
  subsystem = o.windows_fields.subsystem;
  dll_characteristics = o.windows_fields.dll_characteristics;
  major_linker_version = o.standard_fields.major_linker_version;
  minor_linker_version = o.standard_fields.minor_linker_version;
}

-- those of an optional header that is absent
abbrev pub no_optional_fields : OptionalFields
no_optional_fields = record {
  image_base = 0;
  size_of_stack_reserve = 0;
  size_of_stack_commit = 0;
  size_of_heap_reserve = 0;
  size_of_heap_commit = 0;
  size_of_code = 0;
  size_of_initialized_data = 0;
  size_of_uninitialized_data = 0;
  address_of_entry_point = 0;
  base_of_code = 0;
  base_of_data = 0;
  section_alignment = 0;
  file_alignment = 0;
  win32_version_value = 0;
  size_of_image = 0;
  size_of_headers = 0;
  check_sum = 0;
  loader_flags = 0;
  number_of_rva_and_sizes = 0;
  number_of_directories = 0;
  magic = 0;
  major_operating_system_version = 0;
  minor_operating_system_version = 0;
  major_image_version = 0;
  minor_image_version = 0;
  major_subsystem_version = 0;
  minor_subsystem_version = 0;
  subsystem = 0;
  dll_characteristics = 0;
  major_linker_version = 0;
  minor_linker_version = 0;
}

-- what the headers say before the optional header; zeros for what that says. The stub follows the DOS header, 64 bytes
abbrev pub without_fields : HeaderView → Headers
without_fields h = record {
  optional = no_optional_fields;
  dos_stub = record { offset = 64; length = length h.dos_stub };
  optional_offset = 0;
  directories_offset = 0;
  dos = dos_fields h.dos_header;
  coff = coff_fields h.coff_header;
  signature = h.signature;
  directories = all_directories [];
}

-- the headers with what an optional header at this offset says
abbrev pub with_fields : Headers → ℕ → OptionalHeaderView → Headers
with_fields headers start o = record headers {
  optional = optional_fields o;
  optional_offset = start;
  directories_offset = directories_at start o;
  directories = all_directories o.data_directories;
}

-- what all headers say; the optional header follows the PE signature and the COFF header, 24 bytes
abbrev pub headers_by : HeaderView → Option OptionalHeaderView → Headers
headers_by h None = without_fields h
headers_by h (Some o) = with_fields (without_fields h) (h.dos_header.pe_pointer + 24) o

abbrev pub headers_of : HeaderView → Headers
headers_of h = headers_by h h.optional_header

-- the headers of these bytes in this mode, or their first refusal
abbrev pub headers_at : List ℕ → ℕ → Result Headers Refusal
headers_at b mode = header_at b (mode_of_number mode) >>= λ h. Ok (headers_of h)

-- ---- what a call returns of the overlay

-- the range of the overlay of a file, if it has one; an image as loaded has none
abbrev pub overlay_at : List ℕ → Image → List SectionTable → Option Range
overlay_at b image sections =
    if resolves image.mode then option_map range_of (overlay_range (length b) image.size_of_headers sections) else None

-- ---- what calls return of the Rich header

-- a Rich header as callers get it: its entries follow its first four words
abbrev pub rich_reported : Rich → RichHeader
rich_reported h = record {
  entries = record { offset = length h.before + 16; length = length h.entries };
  count = length h.entries / 8;
  key = h.key;
  checksum = rich_checksum h;
  key_is_checksum = if h.key == rich_checksum h then 1 else 0;
  spare = 0;
}

-- the Rich header in the bytes before the PE header, whose offset the DOS header has
abbrev pub rich_at : List ℕ → Result (Option RichHeader) Refusal
rich_at b = record_at b 0 64 (dos_header b 0) >>= λ dos. Ok (option_map rich_reported (rich_header (take dos.pe_pointer b)))

-- the entry at offset p of some entries that are XORed with this key
abbrev pub rich_entry_at : ℕ → List ℕ → ℕ → RichEntry
rich_entry_at key entries p = rich_entry (record { key = key; before = []; entries = drop p entries }) 0

-- ---- what calls return of the COFF string table, and of section names in it

-- the range of the string table of a file, if it has one; its COFF header follows the PE signature, 4 bytes
abbrev pub strings_in : List ℕ → Result (Option Range) Refusal
strings_in b =
    record_at b 0 64 (dos_header b 0) >>= λ dos.
    record_at b (dos.pe_pointer + 4) 20 (coff_header b (dos.pe_pointer + 4)) >>= λ coff.
    strings_of b coff >>= λ table. Ok (option_map (λ t. record { offset = strings_offset coff; length = length t }) table)

-- the same of an image: in one as loaded there is none
abbrev pub strings_at : List ℕ → Image → Result (Option Range) Refusal
strings_at b image = if resolves image.mode then strings_in b else Ok None

-- the range of the string that the name of a section leads to in the string table at a range
abbrev pub long_name_at : List ℕ → Range → SectionTable → Result (Option Range) Refusal
long_name_at b table section =
    bytes_at b table >>= λ strings.
    Ok (option_map (λ name. record { offset = table.offset + or_zero (string_offset section); length = length name }) (long_section_name section strings))

-- the range of a name as an entry of a list, which is empty without one
abbrev pub reported_name : Result (Option Range) Refusal → Result (Option Range) Refusal
reported_name given = given >>= λ name. Ok (Some (or_no_bytes name))

-- that of a section, if there is one
abbrev pub long_name_or_none : List ℕ → Range → Option SectionTable → Result (Option Range) Refusal
long_name_or_none b table None = Ok None
long_name_or_none b table (Some section) = reported_name (long_name_at b table section)

-- that of the section with an index
abbrev pub long_name_by_index : List ℕ → Range → List SectionTable → ℕ → Result (Option Range) Refusal
long_name_by_index b table sections i = long_name_or_none b table (slice_get sections i)

-- ---- what calls return of TE images. (This project's profile.)

-- what a header says, its RVAs reduced, and by how much
abbrev pub te_image_of : TeHeader → TeImage
te_image_of h = record {
  image_base = h.image_base;
  entry_point = h.entry_point;
  base_of_code = h.base_of_code;
  reloc_dir = h.reloc_dir;
  debug_dir = h.debug_dir;
  rva_offset = rva_offset h;
  signature = h.signature;
  machine = h.machine;
  stripped_size = h.stripped_size;
  number_of_sections = h.number_of_sections;
  subsystem = h.subsystem;
  spare = 0;
}

-- the header of these bytes, or its first refusal
abbrev pub te_image_at : List ℕ → Result TeImage Refusal
te_image_at b = te_header_of b >>= λ h. Ok (te_image_of h)

-- the section header at an offset, its RVA and its raw pointer reduced
abbrev pub te_section : ℕ → List ℕ → ℕ → SectionTable
te_section fixup b p = reduced_section fixup (section_table b p)

-- reading the section headers of a TE image into a room: they follow the 40 bytes of the header
abbrev pub PutsTeSections : List ℕ → TeImage → ℕ → List SectionTable → List SectionTable → Type 0
PutsTeSections b te number old new =
    PutsIf (nat_le te.number_of_sections (length old)) number old new (rows_at (te_section te.rva_offset) 40 b 40 te.number_of_sections)

-- ---- debug data: RVAs are file offsets, whatever the sections are

-- the range of the table of debug entries, if there is one
unfoldable pub te_debug_range : List ℕ → TeImage → Result (Option Range) Refusal
te_debug_range b te =
    if is_absent te.debug_dir then Ok None
    else directory_range te_options b te.debug_dir [] 0 >>= λ r. Ok (Some (range_of r))
