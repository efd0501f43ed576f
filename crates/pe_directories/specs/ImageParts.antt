-- Parts of an image, by their RVAs and virtual addresses.
use Rattle.std.specs.Prelude.{◌≡◌, ◌==◌, ℕ, ◌-◌, List, drop, Bool, Result, Ok, Err, nat_le, if◌then◌else◌, Option, Some}
use Rattle.pe_core.specs.Bytes.{range, record_at}
use Rattle.pe_core.specs.Header.{OptionalHeaderView}
use Rattle.pe_core.specs.Refusals.{◌>>=◌}
use Rattle.pe_core.specs.SectionMap.{SectionMapView, map_view, section_map, mapped}
use Rattle.pe_core.specs.declared.byte_range.ByteRange.{ByteRange}
use Rattle.pe_core.specs.declared.data_directories.DataDirectory.{DataDirectory}
use Rattle.pe_core.specs.declared.optional_header.TheConstants.{MAGIC_64}
use Rattle.pe_core.specs.declared.options.ParseOptions.{ParseOptions}
use Rattle.pe_core.specs.declared.section_table.SectionTable.{SectionTable}
use Rattle.pe_directories.specs.DirectoryRefusals.{DirectoryRefusal, VaBelowBase, of_image}
use Rattle.pe_directories.specs.declared.image_bytes.ImageBytes.{ImageBytes}

-- what the definitions need of an image: its bytes, its section headers, the file alignment, the image base, whether virtual
-- addresses have 8 bytes, and whether RVAs are mapped
pub record ImageView : Type 0 where
  pub bytes : List ℕ
  pub sections : List SectionTable
  pub file_alignment : ℕ
  pub image_base : ℕ
  pub is_64 : Bool
  pub opts : ParseOptions

-- this image, without the addresses of its bytes in memory
abbrev pub image_view : ImageBytes → ImageView
image_view i = record {
  bytes = i.bytes.now;
  sections = i.sections.now;
  file_alignment = i.file_alignment;
  image_base = i.image_base;
  is_64 = i.is_64;
  opts = i.opts;
}

-- the image with these bytes and section headers, and what its optional header and the options say
abbrev pub image_with : List ℕ → OptionalHeaderView → List SectionTable → ParseOptions → ImageView
image_with b h headers o = record {
  bytes = b;
  sections = headers;
  file_alignment = h.windows_fields.file_alignment;
  image_base = h.windows_fields.image_base;
  is_64 = h.standard_fields.magic == MAGIC_64;
  opts = o;
}

-- this is the section map of the image
abbrev pub IsMapOf : ImageView → SectionMapView → Type 0
IsMapOf i m = m ≡ map_view i.opts i.sections i.file_alignment

-- the offset of an RVA in the bytes
abbrev pub offset_of_rva : ImageView → ℕ → Result ℕ DirectoryRefusal
offset_of_rva i rva = of_image (mapped (section_map i.opts i.sections i.file_alignment rva))

-- the offset of a record of this size at an RVA, all bytes of which are there
abbrev pub record_of : ImageView → ℕ → ℕ → Result ℕ DirectoryRefusal
record_of i rva size = offset_of_rva i rva >>= λ p. of_image (record_at i.bytes p size p)

-- the offset of a virtual address, which less the image base is an RVA
unfoldable pub offset_of_va : ImageView → ℕ → Result ℕ DirectoryRefusal
offset_of_va i va =
    if nat_le i.image_base va then offset_of_rva i (va - i.image_base)
    else Err VaBelowBase

-- the bytes from a virtual address on
abbrev pub table_at_va : ImageView → ℕ → Result (List ℕ) DirectoryRefusal
table_at_va i va = offset_of_va i va >>= λ p. Ok (drop p i.bytes)

-- the size of a virtual address in bytes
abbrev pub size_of_va : Bool → ℕ
size_of_va is_64 = if is_64 then 8 else 4

-- the range of a directory: from its RVA on, as many bytes as its size says
abbrev pub range_of : ImageView → DataDirectory → Result ByteRange DirectoryRefusal
range_of i d = record_of i d.virtual_address d.size >>= λ p. Ok (record { offset = p; length = d.size })

-- the bytes of a directory
abbrev pub table_of : ImageView → DataDirectory → Result (List ℕ) DirectoryRefusal
table_of i d = record_of i d.virtual_address d.size >>= λ p. Ok (range i.bytes p d.size)

-- the same, as what a walk through its entries has left at first
abbrev pub walk_table : ImageView → DataDirectory → Result (Option (List ℕ)) DirectoryRefusal
walk_table i d = table_of i d >>= λ table. Ok (Some table)
