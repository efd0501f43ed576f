-- The leaves of a resource tree: all of them, in the order of the entries of types, of names in each, of languages in each.
-- (PE format: the resource section, whose three levels are type, name and language. That other shapes cost one item each is
-- this project's profile.)
use Rattle.std.specs.Prelude.{◌≡◌, ℕ, ◌+◌, ◌*◌, List, [], ◌∷◌, ◌++◌, map, Option, Some, None, Result, Ok, Err, nat_le, if◌then◌else◌}
use Rattle.std.specs.List.{flat_map}
use Rattle.pe_core.specs.Bytes.{le, range, holds, record_at}
use Rattle.pe_core.specs.Refusals.{Refusal, Short, outcome, kind_of, ◌>>=◌}
use Rattle.pe_core.specs.declared.data_directories.DataDirectory.{DataDirectory}
use Rattle.pe_core.specs.declared.options.ParseOptions.{ParseOptions}
use Rattle.pe_core.specs.declared.section_table.SectionTable.{SectionTable}
use Rattle.pe_resource.specs.declared.entry.ResourceEntry.{ResourceEntry}
use Rattle.pe_resource.specs.declared.leaves.ResourceLeaf.{ResourceLeaf}
use Rattle.pe_resource.specs.declared.leaves.ResourceLeaves.{ResourceLeaves}
use Rattle.pe_resource.specs.declared.tree_error.ResourceTreeError.{ResourceTreeError}
use Rattle.pe_resource.specs.declared.tree_error.ResourceTreeError.TheVariants as errors
use Rattle.pe_resource.specs.Contents.{data_entry_at, file_bytes, version_of_content}
use Rattle.pe_resource.specs.Directories.{directory_of, count}
use Rattle.pe_resource.specs.ResourceEntries.{entries, has_name, name_offset, has_id, is_directory, directory_offset}
use Rattle.pe_resource.specs.Resources.{FirstDirectoryView, first_directory}
use Rattle.pe_resource.specs.VersionFields.{VersionView}

-- ---- errors

-- the kinds of errors
pub data TreeRefusal : Type 0 where
  Image : Refusal → TreeRefusal
  NotDirectory : TreeRefusal
  NotData : TreeRefusal
  NoEntries : TreeRefusal

-- the kind of an error
abbrev pub tree_kind_of : ResourceTreeError → TreeRefusal
tree_kind_of (errors.Image error) = Image (kind_of error)
tree_kind_of (errors.NotDirectory offset) = NotDirectory
tree_kind_of (errors.NotData offset) = NotData
tree_kind_of (errors.NoEntries offset) = NoEntries

-- the result of a call: its value, or the kind of its error
abbrev pub tree_answer : {X : Type 0} → Result X ResourceTreeError → Result X TreeRefusal
tree_answer (Ok x) = Ok x
tree_answer (Err e) = Err (tree_kind_of e)

-- the call returned the defined value, seen by view, or an error of the defined kind
abbrev pub TreeReturns : {X Y : Type 0} → (X → Y) → Result X ResourceTreeError → Result Y TreeRefusal → Type 0
TreeReturns view (Ok x) defined = defined ≡ Ok (view x)
TreeReturns view (Err e) defined = defined ≡ Err (tree_kind_of e)

-- ---- one entry

-- the bytes of the entries of the directory that an entry leads to, of which there is one at least
unfoldable pub table_below : List ℕ → ResourceEntry → Result (List ℕ) TreeRefusal
table_below b e =
    if is_directory e then
    outcome (
    (holds b (directory_offset e) 16, Image Short)
    ∷ (holds b (directory_offset e + 16) (8 * count (directory_of b (directory_offset e))), Image Short)
    ∷ (nat_le 1 (count (directory_of b (directory_offset e))), NoEntries) ∷ []
    ) (range b (directory_offset e + 16) (8 * count (directory_of b (directory_offset e))))
    else Err NotDirectory

-- the leaf of these entries of a type, a name and a language: the last leads to its data entry
unfoldable pub leaf_of : List ℕ → ResourceEntry → ResourceEntry → ResourceEntry → Result ResourceLeaf TreeRefusal
leaf_of b t n l =
    if is_directory l then Err NotData
    else outcome ((holds b l.offset_to_data_or_directory 16, Image Short) ∷ []) (record {
      resource_type = t;
      name = n;
      language = l;
      data_entry = data_entry_at b l.offset_to_data_or_directory;
    })

-- ---- the tree

-- what the entries of a directory have, or the one refusal of a directory that is not read
abbrev pub in_table : {X : Type 0} → Result (List ℕ) TreeRefusal → (List ResourceEntry → List (Result X TreeRefusal)) → List (Result X TreeRefusal)
in_table (Ok table) f = f (entries table)
in_table (Err r) f = Err r ∷ []

-- the leaves of a name of a type: one of each language
unfoldable pub leaves_of_name : List ℕ → ResourceEntry → ResourceEntry → List (Result ResourceLeaf TreeRefusal)
leaves_of_name b t n = in_table (table_below b n) (λ ls. map (leaf_of b t n) ls)

-- the leaves of a type: those of each name
unfoldable pub leaves_of_type : List ℕ → ResourceEntry → List (Result ResourceLeaf TreeRefusal)
leaves_of_type b t = in_table (table_below b t) (λ ns. flat_map (leaves_of_name b t) ns)

-- the leaves of a tree: those of each type, which are the entries of the first directory
abbrev pub tree_leaves : List ℕ → List ResourceEntry → List (Result ResourceLeaf TreeRefusal)
tree_leaves b ts = flat_map (leaves_of_type b) ts

-- ---- walks

-- the leaves left in the middle of a walk: those of the languages left of a name, the names left of its type, the types left
abbrev pub leaves_from : List ℕ → ResourceEntry → ResourceEntry → List ResourceEntry → List ResourceEntry → List ResourceEntry → List (Result ResourceLeaf TreeRefusal)
leaves_from b t n ls ns ts = map (leaf_of b t n) ls ++ (flat_map (leaves_of_name b t) ns ++ tree_leaves b ts)

-- the items that a walk has left
abbrev pub leaves_left : ResourceLeaves → List (Result ResourceLeaf TreeRefusal)
leaves_left s =
    leaves_from s.data_bytes.now s.resource_type s.name (entries s.languages.now) (entries s.names.now) (entries s.types.now)

-- what callers see of a walk: the data of the resource directory, and the items left
abbrev pub walk_view : ResourceLeaves → List ℕ × List (Result ResourceLeaf TreeRefusal)
walk_view s = (s.data_bytes.now, leaves_left s)

-- the walk over the tree of a first directory; nothing without one
abbrev pub tree_of : Option FirstDirectoryView → List ℕ × List (Result ResourceLeaf TreeRefusal)
tree_of None = ([], [])
tree_of (Some d) = (d.bytes, tree_leaves d.bytes d.entries)

-- the walk over the resources of an image, or the refusal of its first directory
abbrev pub resource_tree : ParseOptions → List ℕ → DataDirectory → List SectionTable → ℕ → Result (List ℕ × List (Result ResourceLeaf TreeRefusal)) Refusal
resource_tree o f d sections alignment = first_directory o f d sections alignment >>= λ first. Ok (tree_of first)

-- ---- what a leaf leads to

-- the UTF-16 code units of an entry's name, after their number of 2 bytes; `None` if the entry has an id
unfoldable pub name_units : List ℕ → ResourceEntry → Result (Option (List ℕ)) Refusal
name_units b e =
    if has_name e then
    (record_at b (name_offset e) 2 (le b (name_offset e) 2) >>= λ n.
    record_at b (name_offset e + 2) (2 * n) (Some (range b (name_offset e + 2) (2 * n))))
    else Ok None

-- the content of a leaf, if it has this type
abbrev pub content_of_type : (ℕ → Option ℕ) → List ℕ → ℕ → ResourceLeaf → Result (Option (List ℕ)) Refusal
content_of_type map_rva f id x =
    if has_id id x.resource_type then (file_bytes f x.data_entry.size (map_rva x.data_entry.offset_to_data) >>= λ c. Ok (Some c))
    else Ok None

-- the version information of a leaf of the type RT_VERSION
abbrev pub leaf_version : (ℕ → Option ℕ) → List ℕ → ResourceLeaf → Result (Option VersionView) Refusal
leaf_version map_rva f x = content_of_type map_rva f 16 x >>= version_of_content
