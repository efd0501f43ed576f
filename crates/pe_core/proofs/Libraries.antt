-- Sorted names, each once.
use Rattle.std.proofs.Common.{◌≡◌, ℕ, Bool, true, false, cond, List, [], ◌∷◌, ◌<◌, ◌+◌, map, length, get_or, refl, ap, subst, ◌∙◌, arith}
use Rattle.std.specs.Borrow.{Bor}
use Rattle.std.specs.Cmp.Lexicographic.{slice_cmp, texts_ties}
use Rattle.std.specs.List.{Contains, dedup, dedup_from}
use Rattle.std.specs.List.Retain.{DiffersFromLast, IsFiltered}
use Rattle.std.specs.List.Sorted.{IsPermutation, IsSorted}
use Rattle.std.specs.Ordering.{nat_cmp}
use Rattle.std.specs.Str.{bytes_eq}
use Rattle.std.proofs.lemmas.Cmp.{nat_list_cmp_total, nat_list_eq_equiv}
use Rattle.std.proofs.lemmas.List.{get_or-map, length-map}
use Rattle.std.proofs.lemmas.List.Elements.{All-contains_itself, All-weaker}
use Rattle.std.proofs.lemmas.List.Filters.{dedup_is}
use Rattle.std.proofs.lemmas.List.Kept.{Contains-dedup, Contains-from_dedup, IsStrictlySortedBy-dedup}
use Rattle.std.proofs.lemmas.List.Sorted.{Contains-permutation, IsPermutation-map, IsPermutation-sym}
use Rattle.std.proofs.lemmas.Slice.Eq.{bytes_eq-Decides}
use Rattle.pe_core.specs.Imports.{AreLibraries}

now : Bor (List ℕ) → List ℕ
now s = s.now

same : Bor (List ℕ) → Bor (List ℕ) → Bool
same x y = bytes_eq x.now y.now

map_cond : (b : Bool) (xs ys : List (Bor (List ℕ))) (us vs : List (List ℕ)) → map now xs ≡ us → map now ys ≡ vs → map now (cond b xs ys) ≡ cond b us vs
map_cond true xs ys us vs e f = e
map_cond false xs ys us vs e f = f

map_dedup_from : (k : Bor (List ℕ)) (xs : List (Bor (List ℕ))) → map now (dedup_from same k xs) ≡ dedup_from bytes_eq (now k) (map now xs)
unfolding now same
map_dedup_from k [] = refl
map_dedup_from k (x ∷ xs) = map_cond (bytes_eq x.now k.now) _ _ _ _ (map_dedup_from k xs) (ap (λ l. k.now ∷ l) (map_dedup_from x xs))

map_dedup : (xs : List (Bor (List ℕ))) → map now (dedup same xs) ≡ dedup bytes_eq (map now xs)
unfolding now same
map_dedup [] = refl
map_dedup (x ∷ xs) = map_dedup_from x xs

sorted_names : (xs : List (Bor (List ℕ))) → IsSorted (λ x y. slice_cmp nat_cmp x.now y.now) xs → IsSorted (slice_cmp nat_cmp) (map now xs)
unfolding now
sorted_names xs s = λ k d low high.
    let e : Bor (List ℕ) = record { ref_ptr = (0, 0); now = d } in
    let high' : k + 1 < length xs = omega (arith, high, length-map xs now) in
    let first : get_or (map now xs) k d ≡ (get_or xs k e).now = get_or-map now xs k e d (omega (arith, high')) in
    let second : get_or (map now xs) (k + 1) d ≡ (get_or xs (k + 1) e).now = get_or-map now xs (k + 1) e d high' in
    rw (first, second) (s k e low high')

exact : (x y : List ℕ) → bytes_eq x y ≡ true → x ≡ y
exact x y e = (bytes_eq-Decides x y).0 e

pub libraries_are : (names : List (List ℕ)) (xs ys zs : List (Bor (List ℕ))) → map (λ s. s.now) xs ≡ names → IsPermutation xs ys → IsSorted (λ x y. slice_cmp nat_cmp x.now y.now) ys
    → IsFiltered (DiffersFromLast (λ x y. bytes_eq x.now y.now)) [] ys zs → AreLibraries names (map (λ s. s.now) zs)
unfolding now same
libraries_are names xs ys zs are permuted sorted kept =
    let listed : map now zs ≡ dedup bytes_eq (map now ys) = ap (map now) (dedup_is same ys zs kept) ∙ map_dedup ys in
    let there : IsPermutation names (map now ys) = subst (λ l. IsPermutation l (map now ys)) are (IsPermutation-map now xs ys permuted) in
    let once : List (List ℕ) = dedup bytes_eq (map now ys) in
    rw listed (record {
      in_order = IsStrictlySortedBy-dedup nat_list_cmp_total texts_ties (map now ys) (sorted_names ys sorted);
      named = All-weaker (Contains once) (Contains names) (λ x h. Contains-permutation (map now ys) names x (IsPermutation-sym names (map now ys) there) (Contains-from_dedup bytes_eq (map now ys) x h)) once (All-contains_itself once);
      whole = All-weaker (Contains names) (Contains once) (λ x h. Contains-dedup nat_list_eq_equiv exact (map now ys) x (Contains-permutation names (map now ys) x there h)) names (All-contains_itself names);
    })
