-- What calls return of the directories that pe_directories reads.
use Rattle.std.specs.Prelude.{ℕ, ◌+◌, ◌-◌, ◌==◌, ◌&&◌, List, length, Option, Some, None, Result, Ok, Err, if◌then◌else◌}
use Rattle.pe_core.specs.declared.data_directories.DataDirectory.{DataDirectory}
use Rattle.pe_core.specs.declared.section_table.SectionTable.{SectionTable}
use Rattle.pe_core.specs.Refusals.{◌>>=◌}
use Rattle.pe_directories.specs.DirectoryRefusals.{DirectoryRefusal, Image, of_image}
use Rattle.pe_directories.specs.ImageParts.{ImageView, offset_of_va, range_of}
use Rattle.pe_directories.specs.Tls.{tls_directory}
use Rattle.pe_directories.specs.VaTables.{first_va}
use Rattle.pe_directories.specs.Walks.{First}
use Rattle.pe_directories.specs.declared.tls.TlsDirectory.{TlsDirectory}
use Rattle.calls_base.specs.Images.{directory, is_absent}
use Rattle.calls_base.specs.Modes.{options_of}
use Rattle.calls_base.specs.Ranges.{bytes_at, no_bytes, range_of as reported}
use Rattle.calls_base.specs.declared.image.Image as images
use Rattle.calls_base.specs.declared.ranges.Range.{Range}

-- the image as pe_directories takes it, in the mode in which it is read
abbrev pub image_parts : List ℕ → images.Image → List SectionTable → ImageView
image_parts b image sections = record {
  bytes = b;
  sections = sections;
  file_alignment = image.file_alignment;
  image_base = image.base;
  is_64 = image.width == 64;
  opts = options_of image.mode;
}

-- the file offset of a virtual address, by the sections that may map its RVA
abbrev pub va_offset : List ℕ → images.Image → (ℕ → List SectionTable) → ℕ → Result ℕ DirectoryRefusal
va_offset b image may_map va = offset_of_va (image_parts b image (may_map (va - image.base))) va

-- what a directory is read as, if it is not absent
abbrev pub if_present : {Y : Type 0} → DataDirectory → Result Y DirectoryRefusal → Result (Option Y) DirectoryRefusal
if_present d value = if is_absent d then Ok None else (value >>= λ y. Ok (Some y))

-- the bytes of the directory with this index as a range, if it is not absent: a walk through its entries
abbrev pub table_at : ℕ → List ℕ → images.Image → List SectionTable → Result (Option Range) DirectoryRefusal
table_at i b image sections =
    if_present (directory image i) (range_of (image_parts b image sections) (directory image i) >>= λ r. Ok (reported r))

-- ---- walks by what stands first in what is left

-- what stands first in what is left, or why there is none of it
abbrev pub first_of : {X S : Type 0} → (S → First X S) → Result S DirectoryRefusal → First X S
first_of first (Ok left) = first left
first_of first (Err refusal) = Some (Err refusal)

-- what stands first in the bytes of a range, or why the range has no bytes
abbrev pub first_in : {X : Type 0} → (List ℕ → First X (List ℕ)) → List ℕ → Range → First X (List ℕ)
first_in first b r = first_of first (of_image (bytes_at b r))

-- what stands first, where an item is read further and may be refused by that
abbrev pub read_first : {X Y S : Type 0} → (X → Result Y DirectoryRefusal) → First X S → First Y S
read_first read None = None
read_first read (Some (Ok x)) = Some (read x.0 >>= λ y. Ok (y, x.1))
read_first read (Some (Err refusal)) = Some (Err refusal)

-- what a step returns: the item as callers get it
abbrev pub step_of : {X Y S : Type 0} → (X → Y) → First X S → Result (Option Y) DirectoryRefusal
step_of report None = Ok None
step_of report (Some (Ok x)) = Ok (Some (report x.0))
step_of report (Some (Err refusal)) = Err refusal

-- the last n bytes of a range
abbrev pub range_left : Range → ℕ → Range
range_left r n = record { offset = r.offset + (r.length - n); length = n }

-- the walk after a step: what is left, which stays where no item stands first, and is nothing after a refusal
abbrev pub left_after : {X : Type 0} → Range → First X (List ℕ) → Range
left_after r None = r
left_after r (Some (Ok x)) = range_left r (length x.1)
left_after r (Some (Err refusal)) = no_bytes

-- ---- TLS

-- the TLS directory of an image, if it has one
abbrev pub tls_at : List ℕ → images.Image → List SectionTable → Result (Option TlsDirectory) DirectoryRefusal
tls_at b image sections = if_present (directory image 9) (tls_directory (image_parts b image sections) (directory image 9))

-- the callbacks of a TLS directory, if it has a table of them: from its first number to the end of the bytes
abbrev pub callbacks_at : List ℕ → images.Image → (ℕ → List SectionTable) → TlsDirectory → Result (Option Range) DirectoryRefusal
callbacks_at b image may_map tls =
    if tls.address_of_callbacks == 0 then Ok None
    else (va_offset b image may_map tls.address_of_callbacks >>= λ p. Ok (Some (record { offset = p; length = length b - p })))

-- the number that stands first in a table of virtual addresses; the range without bytes at offset 0 is that of a walk that is
-- over, another one without bytes that of a table which is truncated
abbrev pub first_va_in : images.Image → List ℕ → Range → First ℕ (List ℕ)
first_va_in image b r = if r.offset == 0 && r.length == 0 then None else first_in (first_va (image.width == 64)) b r

-- ---- base relocations
