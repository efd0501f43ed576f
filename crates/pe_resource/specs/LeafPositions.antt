-- Positions of walks over the leaves of a resource tree: where the entries are that a walk has left, as ranges of the data.
use Rattle.std.specs.Prelude.{◌≡◌, ℕ, ◌+◌, ◌-◌, ◌*◌, ◌&&◌, Bool, List, [], ◌∷◌, length, Option, Some, None, Result, Ok, Err, nat_le, if◌then◌else◌}
use Rattle.std.specs.Option.{option_map}
use Rattle.pe_core.specs.Bytes.{holds}
use Rattle.pe_core.specs.Offsets.{bytes_in, IsWithin, StandAt, empty_range}
use Rattle.pe_core.specs.Refusals.{Refusal, Short, outcome, ◌>>=◌}
use Rattle.pe_core.specs.declared.byte_range.ByteRange.{ByteRange}
use Rattle.pe_core.specs.declared.data_directories.DataDirectory.{DataDirectory}
use Rattle.pe_core.specs.declared.options.ParseOptions.{ParseOptions}
use Rattle.pe_core.specs.declared.section_table.SectionTable.{SectionTable}
use Rattle.pe_resource.specs.Contents.{file_range, map_of}
use Rattle.pe_resource.specs.Directories.{count, directory_of}
use Rattle.pe_resource.specs.Leaves.{TreeRefusal, Image, leaves_from, table_below, tree_leaves}
use Rattle.pe_resource.specs.ResourceEntries.{directory_offset, entries, entry_at}
use Rattle.pe_resource.specs.Resources.{FirstDirectoryView, first_directory}
use Rattle.pe_resource.specs.declared.entry.ResourceEntry.{ResourceEntry}
use Rattle.pe_resource.specs.declared.leaf_position.LeafPosition.{LeafPosition}
use Rattle.pe_resource.specs.declared.leaves.ResourceLeaf.{ResourceLeaf}
use Rattle.pe_resource.specs.declared.resource.FirstDirectory.{FirstDirectory}

-- the range lies in b, as a test
abbrev pub has_range : List ℕ → ByteRange → Bool
has_range b r = holds b r.offset r.length

-- the three ranges of a position lie in the data, as a test
abbrev pub has_position : List ℕ → LeafPosition → Bool
has_position b p = has_range b p.types && (has_range b p.names && has_range b p.languages)

-- `Short` unless they do
abbrev pub position_test : List ℕ → LeafPosition → Result (Unit {0}) Refusal
position_test b p = outcome ((has_range b p.types, Short) ∷ (has_range b p.names, Short) ∷ (has_range b p.languages, Short) ∷ []) tt

-- the three ranges lie in the data, as a statement
pub record IsPosition (b : List ℕ) (p : LeafPosition) : Type 0 where
  pub types : IsWithin b p.types
  pub names : IsWithin b p.names
  pub languages : IsWithin b p.languages

-- an entry that is not looked at
abbrev pub no_entry : ResourceEntry
no_entry = record { name_or_id = 0; offset_to_data_or_directory = 0 }

-- the position at the end of any walk
abbrev pub no_position : LeafPosition
no_position = record { types = empty_range; resource_type = no_entry; names = empty_range; name = no_entry; languages = empty_range }

-- the leaves left at a position of the data
abbrev pub leaves_after : List ℕ → LeafPosition → List (Result ResourceLeaf TreeRefusal)
leaves_after b p =
    leaves_from b p.resource_type p.name (entries (bytes_in b p.languages)) (entries (bytes_in b p.names)) (entries (bytes_in b p.types))

-- the items left at any position: one that is not in the data is refused, once
abbrev pub leaves_at : List ℕ → LeafPosition → List (Result ResourceLeaf TreeRefusal)
leaves_at b p = if has_position b p then leaves_after b p else Err (Image Short) ∷ []

-- the data of a first directory, and the leaves of its tree
abbrev pub tree_of_first : FirstDirectoryView → List ℕ × List (Result ResourceLeaf TreeRefusal)
tree_of_first d = (d.bytes, tree_leaves d.bytes d.entries)

-- the same of the resources of an image; `None` without a first directory
abbrev pub tree_at : ParseOptions → List ℕ → DataDirectory → List SectionTable → ℕ → Result (Option (List ℕ × List (Result ResourceLeaf TreeRefusal))) Refusal
tree_at o f d sections alignment = first_directory o f d sections alignment >>= λ first. Ok (option_map tree_of_first first)

-- what a range of the file, the data, and a position in it stand for
abbrev pub tree_view : List ℕ → ByteRange × LeafPosition → List ℕ × List (Result ResourceLeaf TreeRefusal)
tree_view f x = (bytes_in f x.0, leaves_at (bytes_in f x.0) x.1)

-- a first directory was read of the data at this range of the file, and its entries, whole ones, follow it there
pub record IsPlaced (f : List ℕ) (range : Result ByteRange Refusal) (d : FirstDirectory) : Type 0 where
  pub range_of_data : range ≡ Ok d.range
  pub within : IsWithin f d.range
  pub bytes_of_data : d.bytes.now ≡ bytes_in f d.range
  pub entries_of_first : StandAt d.bytes.now 16 d.table.now
  pub whole : 8 * length (entries d.table.now) ≡ length d.table.now

-- ---- the position before the first leaf

-- no name and no language is open; the types are the entries of the first directory, 16 bytes, which they follow
abbrev pub first_position : FirstDirectoryView → LeafPosition
first_position d = record no_position { types = record { offset = 16; length = 8 * length d.entries } }

abbrev pub start_in : Result ByteRange Refusal → Option FirstDirectoryView → Result (Option (ByteRange × LeafPosition)) Refusal
start_in r None = Ok None
start_in r (Some d) = r >>= λ bytes. Ok (Some (bytes, first_position d))

-- the range of the data in the file, and that position; `None` without a first directory
abbrev pub leaf_start : ParseOptions → List ℕ → DataDirectory → List SectionTable → ℕ → Result (Option (ByteRange × LeafPosition)) Refusal
leaf_start o f d sections alignment =
    first_directory o f d sections alignment >>= start_in (file_range f d.size (map_of o sections alignment d.virtual_address))

-- ---- the position after a leaf

-- the first entry of a table, and the range of those after it
abbrev pub split_table : List ℕ → ByteRange → ResourceEntry × ByteRange
split_table b r = (entry_at (bytes_in b r) 0, record { offset = r.offset + 8; length = r.length - 8 })

-- the same, if the table has an entry
abbrev pub first_in : List ℕ → ByteRange → Option (ResourceEntry × ByteRange)
first_in b r = if nat_le 8 r.length then Some (split_table b r) else None

-- the range of the entries of the directory that an entry leads to, which follow its 16 bytes
abbrev pub range_below : List ℕ → ResourceEntry → ByteRange
range_below b e = record { offset = directory_offset e + 16; length = 8 * count (directory_of b (directory_offset e)) }

-- the first of these entries and the others, if the directory is not refused
abbrev pub first_of_table : (ResourceEntry × ByteRange) → Result (List ℕ) TreeRefusal → Option (ResourceEntry × ByteRange)
first_of_table found (Ok table) = Some found
first_of_table found (Err refusal) = None

abbrev pub first_below : List ℕ → ResourceEntry → Option (ResourceEntry × ByteRange)
first_below b e = first_of_table (split_table b (range_below b e)) (table_below b e)

-- the range of the others; of no entries without a first
abbrev pub others : Option (ResourceEntry × ByteRange) → ByteRange
others None = empty_range
others (Some x) = x.1

-- the position after the first leaf of a name, by the names after it: its other languages are left
abbrev pub in_name : List ℕ → ByteRange → ResourceEntry → ResourceEntry × ByteRange → LeafPosition
in_name b types t name = record { types = types; resource_type = t; names = name.1; name = name.0; languages = others (first_below b name.0) }

-- the position after the first leaf of a type, by its first name; after a type without one no name and no language is left
abbrev pub in_type : List ℕ → ByteRange → ResourceEntry → Option (ResourceEntry × ByteRange) → LeafPosition
in_type b types t None = record no_position { types = types; resource_type = t }
in_type b types t (Some name) = in_name b types t name

-- with no language and no name left the next leaf is of the first type that is left, if there is one
abbrev pub after_types : List ℕ → LeafPosition → Option (ResourceEntry × ByteRange) → LeafPosition
after_types b p None = p
after_types b p (Some x) = in_type b x.1 x.0 (first_below b x.0)

-- with no language left it is of the first name that is left, if there is one
abbrev pub after_names : List ℕ → LeafPosition → Option (ResourceEntry × ByteRange) → LeafPosition
after_names b p None = after_types b p (first_in b p.types)
after_names b p (Some x) = in_name b p.types p.resource_type x

-- else it is that of the first language that is left
abbrev pub after_languages : List ℕ → LeafPosition → Option (ResourceEntry × ByteRange) → LeafPosition
after_languages b p None = after_names b p (first_in b p.names)
after_languages b p (Some x) = record p { languages = x.1 }

-- the position after the next leaf; without one it stays, and one that is not in the data comes to the end
abbrev pub position_after : List ℕ → LeafPosition → LeafPosition
position_after b p = if has_position b p then after_languages b p (first_in b p.languages) else no_position
