-- Walks over the leaves of resource trees, and the names that they report.
use Rattle.std.proofs.Common.{◌≡◌, ℕ, ◌+◌, ◌*◌, ◌≤◌, Bool, true, List, [], ◌∷◌, length, map, Option, Some, None, Result, Ok, Err, refl, sym, ap, subst, ◌∙◌, arith}
use Rattle.calls_directories.proofs.Cited.{nat_tests, places, same_lists, length_range, holds, le, range, SectionTable, leaves_at}
use Rattle.calls_directories.proofs.Cited.{TreeRefusal, name_units, ResourceEntry, there, bytes_at, IsOver, ReturnsItems}
use Rattle.calls_directories.proofs.Cited.{read_items, Range}
use Rattle.pe_resource.proofs.LeafPositions.{last_position}
use Rattle.pe_resource.specs.ResourceEntries.{has_name, name_offset}
use Rattle.pe_resource.specs.declared.leaf_position.LeafPosition.{LeafPosition}
use Rattle.pe_resource.specs.declared.leaves.ResourceLeaf as trees
use Rattle.calls_directories.specs.ResourceLeaves.{IsNameOf, StartsTree, StepsLeaves, after_item, first_item, item_reported, items_left, leaf_reported, leaves_walk, name_reported, no_leaves, position_of}
use Rattle.calls_base.specs.declared.image.Image as images
use Rattle.calls_directories.specs.declared.resources.leaves.ResourceLeaf.{ResourceLeaf}
use Rattle.calls_directories.specs.declared.resources.leaves.ResourceLeaves.{ResourceLeaves}

-- a walk that is over has no items
pub over_has_none : (b : List ℕ) (offset : ℕ → Option ℕ) → items_left b offset no_leaves ≡ []
over_has_none b offset =
    let inside : holds b 0 0 ≡ true = grind (arith, nat_tests) in
    rw inside (rw (last_position []) refl)

-- the items of a walk with these data, by where it is in them
items_at : (b : List ℕ) (offset : ℕ → Option ℕ) (v : ResourceLeaves) (tree : Range) (d : List ℕ) (p : LeafPosition) → bytes_at b tree ≡ Ok d → v.tree ≡ tree → position_of v ≡ p →
    items_left b offset v ≡ map (item_reported b offset tree.offset d) (leaves_at d p)
items_at b offset v tree d p there same at = grind (arith, there)

-- what a step leaves that returned a leaf
pub after_leaf : (b : List ℕ) (offset : ℕ → Option ℕ) (v w : ResourceLeaves) (d : List ℕ) (p q : LeafPosition) (x : trees.ResourceLeaf) (y : ResourceLeaf) →
    bytes_at b w.tree ≡ Ok d → v.tree ≡ w.tree → position_of v ≡ p → q ≡ position_of w →
    ◌≡◌ {A = List (Result trees.ResourceLeaf TreeRefusal)} (leaves_at d q) (Ok x ∷ leaves_at d p) →
    leaf_reported b offset w.tree.offset d x ≡ Ok y → items_left b offset v ≡ after_item (items_left b offset w)
after_leaf b offset v w d p q x y there same at from first reported =
    items_at b offset v w.tree d p there same at
    ∙ sym (ap after_item (items_at b offset w w.tree d q there refl (sym from) ∙ ap (map (item_reported b offset w.tree.offset d)) first) ∙ rw reported refl)

-- ---- the walk after a step

pub ends_over : (b : List ℕ) (offset : ℕ → Option ℕ) (w : ResourceLeaves) → first_item (items_left b offset w) ≡ Ok None → leaves_walk b offset w ≡ no_leaves
ends_over b offset w e = grind arith

-- ---- whole walks

over_at : (b : List ℕ) (offset : ℕ → Option ℕ) (w : ResourceLeaves) → w ≡ no_leaves → IsOver (StepsLeaves b offset) w
over_at b offset w e =
    subst (λ (v : ResourceLeaves). IsOver (StepsLeaves b offset) v) (sym e) (grind (arith, over_has_none, ends_over))

by_items : (b : List ℕ) (offset : ℕ → Option ℕ) (w : ResourceLeaves) (items : List (Result ResourceLeaf TreeRefusal)) → items_left b offset w ≡ items →
    ReturnsItems (StepsLeaves b offset) w (read_items (λ (x : ResourceLeaf). Ok x) items)
by_items b offset w [] e = grind (arith, over_at, ends_over)
by_items b offset w (Ok x ∷ items) e = λ answer next s. (s.0 ∙ ap first_item e, by_items b offset next items (s.1 ∙ ap after_item e))
by_items b offset w (Err r ∷ items) e = (
  refl,
  λ answer next s.
      let refusal : first_item (items_left b offset w) ≡ Err r = ap first_item e in
      (s.0 ∙ refusal, over_at b offset next (s.2 ∙ (grind arith))),
)

pub leaves_in_turn : (b : List ℕ) (offset : ℕ → Option ℕ) (w : ResourceLeaves) →
    ReturnsItems (StepsLeaves b offset) w (read_items (λ (x : ResourceLeaf). Ok x) (items_left b offset w))
leaves_in_turn b offset w = by_items b offset w (items_left b offset w) refl

pub leaves_of_tree : (b : List ℕ) (image : images.Image) (sections : List SectionTable) (offset : ℕ → Option ℕ) (tree : List ℕ × List (Result trees.ResourceLeaf TreeRefusal)) (w : ResourceLeaves) → StartsTree b image sections tree w →
    ReturnsItems (StepsLeaves b offset) w (read_items (λ (x : ResourceLeaf). Ok x) (map (item_reported b offset w.tree.offset tree.0) tree.1))
leaves_of_tree b image sections offset tree w h = grind (arith, by_items, items_at)

-- ---- names

part_of_range : (b : List ℕ) (t n m k : ℕ) → t + n ≤ length b → m + k ≤ n → range (range b t n) m k ≡ range b (t + m) k
part_of_range b t n m k h i = same_lists _ _ (grind (arith, places)) (λ j d lt. grind (arith, places))

-- the units of a name are in the data, after their number
units_there : (d : List ℕ) (e : ResourceEntry) (units : List ℕ) (named first second : Bool) → has_name e ≡ named → holds d (name_offset e) 2 ≡ first →
    holds d (name_offset e + 2) (2 * le d (name_offset e) 2) ≡ second → name_units d e ≡ Ok (Some units) →
    (name_offset e + 2 + 2 * le d (name_offset e) 2 ≤ length d) × (units ≡ range d (name_offset e + 2) (2 * le d (name_offset e) 2))
unfolding name_units
units_there d e units named first second n f s is = grind (arith, nat_tests)

pub names_are_theirs : (b : List ℕ) (tree : Range) (d : List ℕ) (e : ResourceEntry) (units : Option (List ℕ)) → bytes_at b tree ≡ Ok d → name_units d e ≡ Ok units → IsNameOf b (name_reported tree.offset e units) units
names_are_theirs b tree d e None at is = refl
names_are_theirs b tree d e (Some units) at is =
    let p : ℕ = name_offset e + 2 in
    let n : ℕ = 2 * le d (name_offset e) 2 in
    let in_b = there b tree d (holds b tree.offset tree.length) refl at in
    let in_d = units_there d e units (has_name e) (holds d (name_offset e) 2) (holds d p n) refl refl refl is in
    let size : length d ≡ tree.length = ap length in_b.1 ∙ length_range b tree.offset tree.length in_b.0 in
    let fits : p + n ≤ tree.length = (let inside : p + n ≤ length d = in_d.0 in omega (arith, size)) in
    let count : length units ≡ n = ap length in_d.1 ∙ length_range d p n in_d.0 in
    let here : range b (tree.offset + p) n ≡ units = sym (part_of_range b tree.offset tree.length p n in_b.0 fits) ∙ ap (λ (x : List ℕ). range x p n) (sym in_b.1) ∙ sym in_d.1 in
    (refl, record { inside = (let whole : tree.offset + tree.length ≤ length b = in_b.0 in omega (arith, count, fits)); same = rw count here })
