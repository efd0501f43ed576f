-- What calls return of the leaves of a resource tree.
use Rattle.std.specs.Prelude.{◌≡◌, ℕ, ◌+◌, ◌%◌, ◌^◌, List, [], ◌∷◌, length, map, Option, Some, None, Result, Ok, Err, if◌then◌else◌}
use Rattle.std.specs.Option.{option_map}
use Rattle.pe_core.specs.Refusals.{Refusal, ◌>>=◌}
use Rattle.pe_core.specs.declared.byte_range.ByteRange.{ByteRange}
use Rattle.pe_core.specs.declared.section_table.SectionTable.{SectionTable}
use Rattle.pe_resource.specs.Contents.{file_range}
use Rattle.pe_resource.specs.LeafPositions.{leaf_start, leaves_at, no_position, position_after, tree_at}
use Rattle.pe_resource.specs.Leaves.{TreeRefusal, Image, name_units}
use Rattle.pe_resource.specs.ResourceEntries.{name_offset}
use Rattle.pe_resource.specs.declared.content.ResourceDataEntry.{ResourceDataEntry}
use Rattle.pe_resource.specs.declared.entry.ResourceEntry.{ResourceEntry}
use Rattle.pe_resource.specs.declared.leaf_position.LeafPosition.{LeafPosition}
use Rattle.pe_resource.specs.declared.leaves.ResourceLeaf as trees
use Rattle.calls_base.specs.HandsOut.{result_number}
use Rattle.calls_base.specs.Images.{is_absent, map_of_image, resource_directory}
use Rattle.calls_base.specs.Modes.{options_of}
use Rattle.calls_base.specs.Ranges.{IsRange, bytes_at, no_bytes, range_of}
use Rattle.calls_base.specs.declared.image.Image as images
use Rattle.calls_base.specs.declared.ranges.Range.{Range}
use Rattle.calls_directories.specs.declared.resources.leaves.ResourceLeaf.{ResourceLeaf}
use Rattle.calls_directories.specs.declared.resources.leaves.ResourceLeaves.{ResourceLeaves}
use Rattle.calls_directories.specs.declared.resources.leaves.ResourceName.{ResourceName}
use Rattle.calls_base.specs.declared.results.TheConstants.{DONE, NOTHING}

-- ---- a leaf

-- what names a type, a resource or a language: an id, or the name of an entry of data that start at this offset of the file;
-- the units of a name follow their number, 2 bytes
abbrev pub name_reported : ℕ → ResourceEntry → Option (List ℕ) → ResourceName
name_reported start e None = record { name = no_bytes; id = e.name_or_id % 2 ^ 16; has_name = 0 }
name_reported start e (Some units) = record { name = record { offset = start + (name_offset e + 2); length = length units }; id = 0; has_name = 1 }

abbrev pub name_in : ℕ → List ℕ → ResourceEntry → Result ResourceName Refusal
name_in start d e = name_units d e >>= λ units. Ok (name_reported start e units)

-- the range of a content, or the empty one; and 0, or the number of what refuses it
abbrev pub content_reported : Result ByteRange Refusal → Range × ℕ
content_reported (Ok r) = (range_of r, 0)
content_reported (Err refusal) = (no_bytes, result_number refusal)

-- a leaf by its names, the entry of its content, and where that is
abbrev pub leaf_of_names : ResourceName → ResourceName → ResourceName → ResourceDataEntry → Range × ℕ → ResourceLeaf
leaf_of_names t n l e content = record {
  resource_type = t;
  name = n;
  language = l;
  content = content.0;
  content_result = content.1;
  rva = e.offset_to_data;
  size = e.size;
  code_page = e.code_page;
}

-- where the content of a leaf is in the file; `offset` maps an RVA to its file offset
abbrev pub content_of : List ℕ → (ℕ → Option ℕ) → ResourceDataEntry → Range × ℕ
content_of b offset e = content_reported (file_range b e.size (offset e.offset_to_data))

-- a leaf as callers get it; it is refused where one of its names is
abbrev pub leaf_reported : List ℕ → (ℕ → Option ℕ) → ℕ → List ℕ → trees.ResourceLeaf → Result ResourceLeaf Refusal
leaf_reported b offset start d x =
    name_in start d x.resource_type >>= λ t.
    name_in start d x.name >>= λ n.
    name_in start d x.language >>= λ l.
    Ok (leaf_of_names t n l x.data_entry (content_of b offset x.data_entry))

-- the name that is reported of an entry with these units, if it has a name, is that: its range is the units
abbrev pub IsNameOf : List ℕ → ResourceName → Option (List ℕ) → Type 0
IsNameOf b n None = n.has_name ≡ 0
IsNameOf b n (Some units) = (n.has_name ≡ 1) × IsRange b n.name units

-- ---- walks

-- a refusal of pe_core as one of a tree
abbrev pub of_file : {X : Type 0} → Result X Refusal → Result X TreeRefusal
of_file (Ok x) = Ok x
of_file (Err refusal) = Err (Image refusal)

-- an item of a tree as callers get it
abbrev pub item_reported : List ℕ → (ℕ → Option ℕ) → ℕ → List ℕ → Result trees.ResourceLeaf TreeRefusal → Result ResourceLeaf TreeRefusal
item_reported b offset start d (Ok x) = of_file (leaf_reported b offset start d x)
item_reported b offset start d (Err refusal) = Err refusal

-- the position of a walk in its data
abbrev pub position_of : ResourceLeaves → LeafPosition
position_of w = record {
  types = record { offset = w.types.offset; length = w.types.length };
  resource_type = w.resource_type;
  names = record { offset = w.names.offset; length = w.names.length };
  name = w.name;
  languages = record { offset = w.languages.offset; length = w.languages.length };
}

-- the items that a walk over these data has left
abbrev pub items_in : List ℕ → (ℕ → Option ℕ) → ResourceLeaves → Result (List ℕ) Refusal → List (Result ResourceLeaf TreeRefusal)
items_in b offset w (Ok d) = map (item_reported b offset w.tree.offset d) (leaves_at d (position_of w))
items_in b offset w (Err refusal) = Err (Image refusal) ∷ []

-- the items that a walk has left; one refusal alone where its data are not inside the bytes
abbrev pub items_left : List ℕ → (ℕ → Option ℕ) → ResourceLeaves → List (Result ResourceLeaf TreeRefusal)
items_left b offset w = items_in b offset w (bytes_at b w.tree)

-- what a step returns where these items are left
abbrev pub first_item : {X R : Type 0} → List (Result X R) → Result (Option X) R
first_item [] = Ok None
first_item (Ok x ∷ more) = Ok (Some x)
first_item (Err refusal ∷ more) = Err refusal

-- what it leaves of them: nothing after a refusal
abbrev pub after_item : {X R : Type 0} → List (Result X R) → List (Result X R)
after_item [] = []
after_item (Ok x ∷ more) = more
after_item (Err refusal ∷ more) = []

-- the walk at a position of the data at a range
abbrev pub walk_at : Range → LeafPosition → ResourceLeaves
walk_at tree p = record {
  tree = tree;
  types = range_of p.types;
  names = range_of p.names;
  languages = range_of p.languages;
  resource_type = p.resource_type;
  name = p.name;
}

-- a walk that is over
abbrev pub no_leaves : ResourceLeaves
no_leaves = walk_at no_bytes no_position

-- the walk after a step that returns this: at the position after the leaf, or over
abbrev pub walk_after : ResourceLeaves → Result (List ℕ) Refusal → Result (Option ResourceLeaf) TreeRefusal → ResourceLeaves
walk_after w (Ok d) (Ok (Some leaf)) = walk_at w.tree (position_after d (position_of w))
walk_after w (Ok d) (Ok None) = no_leaves
walk_after w (Ok d) (Err refusal) = no_leaves
walk_after w (Err refusal) answer = no_leaves

abbrev pub leaves_walk : List ℕ → (ℕ → Option ℕ) → ResourceLeaves → ResourceLeaves
leaves_walk b offset w = walk_after w (bytes_at b w.tree) (first_item (items_left b offset w))

-- a step: what it returns, the items that it leaves, and the walk after it
abbrev pub StepsLeaves : List ℕ → (ℕ → Option ℕ) → ResourceLeaves → Result (Option ResourceLeaf) TreeRefusal → ResourceLeaves → Type 0
StepsLeaves b offset old answer new =
    (answer ≡ first_item (items_left b offset old))
    × (items_left b offset new ≡ after_item (items_left b offset old))
    × (new ≡ leaves_walk b offset old)

-- the walk before the first leaf of an image's resources; `None` where the directory is absent, or has no first directory
abbrev pub leaves_start : List ℕ → images.Image → List SectionTable → Result (Option ResourceLeaves) Refusal
leaves_start b image sections =
    if is_absent (resource_directory image) then Ok None
    else (leaf_start (options_of image.mode) b (resource_directory image) sections image.file_alignment >>= λ found. Ok (option_map (λ x. walk_at (range_of x.0) x.1) found))

-- the tree of an image that has resources: its data, and the items of its leaves. `None` where the directory is absent, and in
-- permissive mode where its data are shorter than a directory
abbrev pub image_tree : List ℕ → images.Image → List SectionTable → Result (Option (List ℕ × List (Result trees.ResourceLeaf TreeRefusal))) Refusal
image_tree b image sections =
    if is_absent (resource_directory image) then Ok None
    else tree_at (options_of image.mode) b (resource_directory image) sections image.file_alignment

-- the walk is at the first leaf of this tree: its data are at the RVA of the directory, as many bytes as that says
pub record StartsTree (b : List ℕ) (image : images.Image) (sections : List SectionTable) (tree : List ℕ × List (Result trees.ResourceLeaf TreeRefusal)) (w : ResourceLeaves) : Type 0 where
  pub place : file_range b (resource_directory image).size (map_of_image image sections (resource_directory image).virtual_address) ≡ Ok (record { offset = w.tree.offset; length = w.tree.length })
  pub bytes_of_tree : bytes_at b w.tree ≡ Ok tree.0
  pub leaves : leaves_at tree.0 (position_of w) ≡ tree.1

-- what a call that starts a walk returns
abbrev pub StartsLeaves : List ℕ → images.Image → List SectionTable → ℕ → ResourceLeaves → ResourceLeaves → Result (Option (List ℕ × List (Result trees.ResourceLeaf TreeRefusal))) Refusal → Type 0
StartsLeaves b image sections number old new (Ok (Some tree)) = (number ≡ DONE) × StartsTree b image sections tree new
StartsLeaves b image sections number old new (Ok None) = (number ≡ NOTHING) × (new ≡ old)
StartsLeaves b image sections number old new (Err refusal) = (number ≡ result_number refusal) × (new ≡ old)
