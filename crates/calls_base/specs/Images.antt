-- What calls return of an image.
use Rattle.std.specs.Prelude.{◌≡◌, ℕ, ◌+◌, ◌*◌, ◌==◌, ◌&&◌, List, [], ◌∷◌, ◌++◌, drop, length, map, nat_le, nat_lt, slice_index_or, Bool, true, false, Option, Some, None, Result, Ok, Err, if◌then◌else◌}
use Rattle.pe_core.specs.Directories.{present, absent_directory}
use Rattle.pe_core.specs.Header.{OptionalHeaderView, HeaderView, directories_offset, header_at}
use Rattle.pe_core.specs.Refusals.{Refusal, ◌>>=◌}
use Rattle.pe_core.specs.SectionMap.{section_map}
use Rattle.pe_core.specs.Sections.{sections_at, sections_offset}
use Rattle.pe_core.specs.declared.data_directories.DataDirectory.{DataDirectory}
use Rattle.pe_core.specs.declared.section_table.SectionTable.{SectionTable}
use Rattle.calls_base.specs.declared.image.Image.{Image}
use Rattle.calls_base.specs.HandsOut.{result_number}
use Rattle.calls_base.specs.Modes.{mode_of_number, options_of}
use Rattle.calls_base.specs.declared.results.TheConstants.{DONE, ROOM}
use Rattle.pe_core.specs.declared.optional_header.TheConstants.{MAGIC_64}

-- a directory, or zeros where it is absent
abbrev pub or_absent : Option DataDirectory → DataDirectory
or_absent None = absent_directory
or_absent (Some d) = d

-- the directory is absent
abbrev pub is_absent : DataDirectory → Bool
is_absent d = d.virtual_address == 0 && d.size == 0

-- the sixteen directories of a header that keeps these: zeros for those that it does not keep
abbrev pub all_directories : List DataDirectory → List DataDirectory
all_directories kept =
    map (λ i. or_absent (present kept i)) (0 ∷ 1 ∷ 2 ∷ 3 ∷ 4 ∷ 5 ∷ 6 ∷ 7 ∷ 8 ∷ 9 ∷ 10 ∷ 11 ∷ 12 ∷ 13 ∷ 14 ∷ 15 ∷ [])

-- the file offset of the data directories of an optional header at this offset
abbrev pub directories_at : ℕ → OptionalHeaderView → ℕ
directories_at start o = start + directories_offset (o.standard_fields.magic == MAGIC_64)

-- the file offset of the certificate table's directory, the fifth, in an optional header at this offset, if that keeps
-- it; else 0
abbrev pub certificate_entry : ℕ → OptionalHeaderView → ℕ
certificate_entry start o = if nat_lt 4 (length o.data_directories) then directories_at start o + 8 * 4 else 0

-- what the headers say before the optional header; zeros for what that says. With it goes the mode in which
-- they were read
abbrev pub without_optional : ℕ → HeaderView → Image
without_optional mode h = record {
  base = 0;
  sections_offset = sections_offset h;
  checksum_offset = 0;
  certificate_entry_offset = 0;
  entry = 0;
  file_alignment = 0;
  mode = mode;
  section_alignment = 0;
  size_of_image = 0;
  size_of_headers = 0;
  checksum = 0;
  time_date_stamp = h.coff_header.time_date_stamp;
  number_of_directories = 0;
  directories = all_directories [];
  machine = h.coff_header.machine;
  width = 0;
  number_of_sections = h.coff_header.number_of_sections;
  characteristics = h.coff_header.characteristics;
  subsystem = 0;
  dll_characteristics = 0;
}

-- the image with what an optional header at this offset says; its checksum stands 64 bytes after its start
abbrev pub with_optional : Image → ℕ → OptionalHeaderView → Image
with_optional image start o = record image {
  base = o.windows_fields.image_base;
  checksum_offset = start + 64;
  certificate_entry_offset = certificate_entry start o;
  entry = o.standard_fields.address_of_entry_point;
  file_alignment = o.windows_fields.file_alignment;
  section_alignment = o.windows_fields.section_alignment;
  size_of_image = o.windows_fields.size_of_image;
  size_of_headers = o.windows_fields.size_of_headers;
  checksum = o.windows_fields.check_sum;
  number_of_directories = length o.data_directories;
  directories = all_directories o.data_directories;
  width = if o.standard_fields.magic == MAGIC_64 then 64 else 32;
  subsystem = o.windows_fields.subsystem;
  dll_characteristics = o.windows_fields.dll_characteristics;
}

-- what all headers say; the optional header follows the PE signature and the COFF header, 24 bytes
abbrev pub image_info_by : ℕ → HeaderView → Option OptionalHeaderView → Image
image_info_by mode h None = without_optional mode h
image_info_by mode h (Some o) = with_optional (without_optional mode h) (h.dos_header.pe_pointer + 24) o

-- the image of these headers, read in this mode
abbrev pub image_info_of : ℕ → HeaderView → Image
image_info_of mode h = image_info_by mode h h.optional_header

-- the directory with this index: zeros where it is absent
abbrev pub directory : Image → ℕ → DataDirectory
directory image i = slice_index_or image.directories i absent_directory

-- the directories that calls read, by their indices
abbrev pub export_directory : Image → DataDirectory
export_directory image = directory image 0

abbrev pub import_directory : Image → DataDirectory
import_directory image = directory image 1

abbrev pub resource_directory : Image → DataDirectory
resource_directory image = directory image 2

abbrev pub exception_directory : Image → DataDirectory
exception_directory image = directory image 3

abbrev pub debug_directory : Image → DataDirectory
debug_directory image = directory image 6

-- the section map of an image, in the mode in which it is read
abbrev pub map_of_image : Image → List SectionTable → ℕ → Option ℕ
map_of_image image sections = section_map (options_of image.mode) sections image.file_alignment

-- the same by the sections that may map an RVA, which are all sections of the image or fewer
abbrev pub map_by : Image → (ℕ → List SectionTable) → ℕ → Option ℕ
map_by image may_map x = map_of_image image (may_map x) x

-- those that may map the RVA of the directory with this index
abbrev pub for_directory : (ℕ → List SectionTable) → Image → ℕ → List SectionTable
for_directory may_map image i = may_map (directory image i).virtual_address

-- the image of these bytes in this mode, or the first refusal of its headers
abbrev pub image_at : List ℕ → ℕ → Result Image Refusal
image_at b mode = header_at b (mode_of_number mode) >>= λ h. Ok (image_info_of mode h)

-- the section headers are at the start of the room and the rest is unchanged; or they are refused and all is unchanged
abbrev pub PutsRows : ℕ → List SectionTable → List SectionTable → Result (List SectionTable) Refusal → Type 0
PutsRows number old new (Ok sections) = (number ≡ DONE) × (new ≡ sections ++ drop (length sections) old)
PutsRows number old new (Err refusal) = (number ≡ result_number refusal) × (new ≡ old)

-- ROOM where the room is too small, and it is unchanged
abbrev pub PutsIf : Bool → ℕ → List SectionTable → List SectionTable → Result (List SectionTable) Refusal → Type 0
PutsIf false number old new sections = (number ≡ ROOM) × (new ≡ old)
PutsIf true number old new sections = PutsRows number old new sections

-- what reading so many section headers from an offset on into a room returns
abbrev pub PutsSectionsAt : List ℕ → ℕ → ℕ → ℕ → List SectionTable → List SectionTable → Type 0
PutsSectionsAt b offset count number old new = PutsIf (nat_le count (length old)) number old new (sections_at b offset count)

-- what reading the sections of an image into a room returns
abbrev pub PutsSections : List ℕ → Image → ℕ → List SectionTable → List SectionTable → Type 0
PutsSections b image number old new = PutsSectionsAt b image.sections_offset image.number_of_sections number old new
