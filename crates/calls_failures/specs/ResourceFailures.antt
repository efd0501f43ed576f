-- The numbers of the failure of a leaf of a resource tree. A step reads on from the first entry that a walk has left: that of a
-- language, else of a name, else of a type. What it reads is refused at one place alone, and the numbers are of that place: an entry
-- of the wrong kind by the offset in its data, what is truncated by its offset in the file and how many bytes it needs.
use Rattle.std.specs.Prelude.{ℕ, ◌+◌, ◌-◌, ◌*◌, ◌^◌, ◌&&◌, Bool, true, min, List, Option, Some, None, if◌then◌else◌}
use Rattle.pe_core.specs.Bytes.{holds, le}
use Rattle.pe_core.specs.declared.byte_range.ByteRange.{ByteRange}
use Rattle.pe_resource.specs.Directories.{count, directory_of}
use Rattle.pe_resource.specs.LeafPositions.{first_below, first_in, has_range}
use Rattle.pe_resource.specs.ResourceEntries.{directory_offset, has_name, is_directory, name_offset}
use Rattle.pe_resource.specs.declared.entry.ResourceEntry.{ResourceEntry}
use Rattle.pe_resource.specs.declared.leaf_position.LeafPosition.{LeafPosition}
use Rattle.calls_base.specs.FailureNumbers.{needed_at, no_numbers, numbers}
use Rattle.calls_base.specs.Ranges.{bytes_there}
use Rattle.calls_directories.specs.ResourceLeaves.{position_of}
use Rattle.calls_base.specs.declared.numbers.ErrorNumbers.{ErrorNumbers}
use Rattle.calls_directories.specs.declared.resources.leaves.ResourceLeaves.{ResourceLeaves}

-- n bytes are needed at offset p of data that start at this offset of the file
abbrev pub needed_of : ℕ → ℕ → ℕ → ErrorNumbers
needed_of start p n = needed_at (min (p + start) (2 ^ 64 - 1)) n

-- ---- a directory that is refused: by the entry that leads to none or to one without entries, or by what is truncated

unfoldable pub directory_refused_at : ℕ → List ℕ → ResourceEntry → ErrorNumbers
directory_refused_at start d e =
    let p = directory_offset e in
    let size = 8 * count (directory_of d p) in
    if is_directory e then (if holds d p 16 then (if holds d (p + 16) size then numbers p 0 0 else needed_of start (p + 16) size) else needed_of start p 16)
    else numbers p 0 0

-- ---- a leaf that is refused

-- the UTF-16 code units of an entry's name follow their number, 2 bytes
abbrev pub name_holds : List ℕ → ResourceEntry → Bool
name_holds d e =
    if has_name e then holds d (name_offset e) 2 && holds d (name_offset e + 2) (2 * le d (name_offset e) 2)
    else true

abbrev pub name_refused_at : ℕ → List ℕ → ResourceEntry → ErrorNumbers
name_refused_at start d e =
    let p = name_offset e in
    if holds d p 2 then needed_of start (p + 2) (2 * le d p 2)
    else needed_of start p 2

-- the first truncated name of a type, a name and a language
abbrev pub names_refused_at : ℕ → List ℕ → ResourceEntry → ResourceEntry → ResourceEntry → ErrorNumbers
names_refused_at start d t n l =
    if name_holds d t then (if name_holds d n then name_refused_at start d l else name_refused_at start d n)
    else name_refused_at start d t

-- by the language, which leads to a directory, or whose data entry, 16 bytes, is truncated; or by a name
unfoldable pub leaf_refused_at : ℕ → List ℕ → ResourceEntry → ResourceEntry → ResourceEntry → ErrorNumbers
leaf_refused_at start d t n l =
    if is_directory l then numbers (directory_offset l) 0 0
    else if holds d l.offset_to_data_or_directory 16 then names_refused_at start d t n l
    else needed_of start l.offset_to_data_or_directory 16

-- ---- where a step is refused

-- of the first leaf of a name, by its first language
abbrev pub at_language : ℕ → List ℕ → ResourceEntry → ResourceEntry → Option (ResourceEntry × ByteRange) → ErrorNumbers
at_language start d t n None = directory_refused_at start d n
at_language start d t n (Some l) = leaf_refused_at start d t n l.0

abbrev pub of_name : ℕ → List ℕ → ResourceEntry → ResourceEntry → ErrorNumbers
of_name start d t n = at_language start d t n (first_below d n)

-- of the first leaf of a type, by its first name
abbrev pub at_name : ℕ → List ℕ → ResourceEntry → Option (ResourceEntry × ByteRange) → ErrorNumbers
at_name start d t None = directory_refused_at start d t
at_name start d t (Some n) = of_name start d t n.0

-- of the first entry that is left, if one is
abbrev pub by_types : ℕ → List ℕ → Option (ResourceEntry × ByteRange) → ErrorNumbers
by_types start d None = no_numbers
by_types start d (Some t) = at_name start d t.0 (first_below d t.0)

abbrev pub by_names : ℕ → List ℕ → LeafPosition → Option (ResourceEntry × ByteRange) → ErrorNumbers
by_names start d p None = by_types start d (first_in d p.types)
by_names start d p (Some n) = of_name start d p.resource_type n.0

abbrev pub by_languages : ℕ → List ℕ → LeafPosition → Option (ResourceEntry × ByteRange) → ErrorNumbers
by_languages start d p None = by_names start d p (first_in d p.names)
by_languages start d p (Some l) = leaf_refused_at start d p.resource_type p.name l.0

-- the first of the ranges of a position that is not in the data
abbrev pub range_outside : List ℕ → LeafPosition → Option ByteRange
range_outside d p =
    if has_range d p.types then (if has_range d p.names then (if has_range d p.languages then None else Some p.languages) else Some p.names)
    else Some p.types

abbrev pub step_refused_at : ℕ → List ℕ → LeafPosition → Option ByteRange → ErrorNumbers
step_refused_at start d p None = by_languages start d p (first_in d p.languages)
step_refused_at start d p (Some r) = needed_of start r.offset r.length

-- of the leaf that a walk is at; or the data are not inside the bytes
unfoldable pub leaf_numbers : List ℕ → ResourceLeaves → ErrorNumbers
leaf_numbers b w =
    if holds b w.tree.offset w.tree.length then step_refused_at w.tree.offset (bytes_there b w.tree) (position_of w) (range_outside (bytes_there b w.tree) (position_of w))
    else needed_at w.tree.offset w.tree.length
