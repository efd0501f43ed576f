-- Leaves as values and as records: their number, one of them, and parts of their list.
use Rattle.std.proofs.Common.{◌≡◌, ℕ, zero, suc, ◌<◌, List, [], ◌∷◌, length, take, drop, get_or, map, refl, ap, sym, ◌∙◌, arith}
use Rattle.pe_edit.proofs.Cited.{length-map, take-map, Bor, ResourceRecord, leaf_view, leaf_views, no_leaf, record_leaf, Leaf}
use Rattle.pe_edit.specs.declared.leaf.Resource.{Resource}
use Rattle.pe_edit.specs.declared.leaves.Leaves.{Leaves}
use Rattle.pe_edit.specs.declared.leaves.Leaves.TheVariants as lists

pub count_of_values : (s : Leaves) (xs : Bor (List Resource)) → s ≡ lists.Values xs → length (leaf_views s) ≡ length xs.now
count_of_values s xs e = ap (λ (l : Leaves). length (leaf_views l)) e ∙ length-map xs.now leaf_view

pub count_of_records : (s : Leaves) (rs : Bor (List ResourceRecord)) (d : Bor (List ℕ)) → s ≡ lists.Records rs d → length (leaf_views s) ≡ length rs.now
count_of_records s rs d e = ap (λ (l : Leaves). length (leaf_views l)) e ∙ length-map rs.now (record_leaf d.now)

-- the element with an index, as mapped
pub mapped_at : {X : Type 0} (f : X → Leaf) (xs : List X) (i : ℕ) (x : X) → i < length xs → f (get_or xs i x) ≡ get_or (map f xs) i no_leaf
mapped_at f [] i x h = absurd (omega (arith, h))
mapped_at f (y ∷ xs) zero x h = refl
mapped_at f (y ∷ xs) (suc i) x h = mapped_at f xs i x (omega (arith, h))

pub record_mapped : (rs : List ResourceRecord) (d : List ℕ) (i : ℕ) (r : ResourceRecord) (x : Leaf) → i < length rs → x ≡ record_leaf d (get_or rs i r) → x ≡ get_or (map (record_leaf d) rs) i no_leaf
record_mapped rs d i r x h e = e ∙ mapped_at (record_leaf d) rs i r h

pub views_of : (s t : Leaves) (i : ℕ) (x : Leaf) → s ≡ t → x ≡ get_or (leaf_views t) i no_leaf → x ≡ get_or (leaf_views s) i no_leaf
views_of s t i x e f = f ∙ ap (λ (l : Leaves). get_or (leaf_views l) i no_leaf) (sym e)

drop_mapped : {X : Type 0} (f : X → Leaf) (n : ℕ) (xs : List X) → map f (drop n xs) ≡ drop n (map f xs)
drop_mapped f zero xs = refl
drop_mapped f (suc n) [] = refl
drop_mapped f (suc n) (x ∷ xs) = drop_mapped f n xs

pub values_after : (s : Leaves) (xs ys : Bor (List Resource)) (n : ℕ) → s ≡ lists.Values xs → ys.now ≡ drop n xs.now → leaf_views (lists.Values ys) ≡ drop n (leaf_views s)
values_after s xs ys n e f = grind (arith, drop_mapped)

pub records_after : (s : Leaves) (rs ts : Bor (List ResourceRecord)) (d : Bor (List ℕ)) (n : ℕ) → s ≡ lists.Records rs d → ts.now ≡ drop n rs.now → leaf_views (lists.Records ts d) ≡ drop n (leaf_views s)
records_after s rs ts d n e f = grind (arith, drop_mapped)

pub values_first : (s : Leaves) (xs ys : Bor (List Resource)) (n : ℕ) → s ≡ lists.Values xs → ys.now ≡ take n xs.now → leaf_views (lists.Values ys) ≡ take n (leaf_views s)
values_first s xs ys n e f = grind (arith, take-map)

pub records_first : (s : Leaves) (rs ts : Bor (List ResourceRecord)) (d : Bor (List ℕ)) (n : ℕ) → s ≡ lists.Records rs d → ts.now ≡ take n rs.now → leaf_views (lists.Records ts d) ≡ take n (leaf_views s)
records_first s rs ts d n e f = grind (arith, take-map)
