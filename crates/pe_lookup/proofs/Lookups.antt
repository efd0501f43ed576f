-- Lookup in tables of address ranges.
use Rattle.std.proofs.Common.{◌≡◌, ℕ, zero, suc, ◌+◌, ◌-◌, ◌<◌, ◌≤◌, Bool, true, false, cond, ◌&&◌, inl, inr, nat_le, nat_lt, List, [], ◌∷◌, length, Option, Some, None, get_or, refl, ap, sym, ◌∙◌, subst, arith}
use Rattle.std.proofs.lemmas.Bool.{cases_lt}
use Rattle.std.proofs.lemmas.List.{get_or_default}
use Rattle.std.proofs.lemmas.Bool.Decides.{nat_tests}
use Rattle.std.specs.List.{find, list_all}
use Rattle.std.specs.Option.{is_none}
use Rattle.std.specs.List.Sorted.{IsNonDecreasingBy}
use Rattle.pe_core.proofs.Equality.{both}
use Rattle.pe_lookup.specs.AddressRanges.{has_address, FirstAscend, AreAscending, IsCountUpTo, IsOverlap, Overlaps, rise_from}

-- ---- the first element that passes

-- no element passes
pub found_none : {X : Type 0} (p : X → Bool) (xs : List X) → ((k : ℕ) (d : X) → k < length xs → p (get_or xs k d) ≡ false) → find p xs ≡ None
found_none p [] none = refl
found_none p (x ∷ xs) none =
    let first : p x ≡ false = none 0 x (omega arith) in
    rw first (found_none p xs (λ k d h. none (suc k) d (omega (arith, h))))

-- one passes, and none before it does
pub found_at : {X : Type 0} (p : X → Bool) (xs : List X) (i : ℕ) (d : X) → i < length xs → ((k : ℕ) → k < i → p (get_or xs k d) ≡ false) → p (get_or xs i d) ≡ true → find p xs ≡ Some (get_or xs i d)
found_at p [] i d lt none this = absurd (omega (arith, lt))
found_at p (x ∷ xs) zero d lt none this = let first : p x ≡ true = this in rw first refl
found_at p (x ∷ xs) (suc i) d lt none this =
    let first : p x ≡ false = none 0 (omega arith) in
    rw first (found_at p xs i d (omega (arith, lt)) (λ k h. none (suc k) (omega (arith, h))) this)

all_by : {X : Type 0} (q : X → Bool) (y x : X) (t : Bool) (rest : Option X) → q y ≡ true → (rest ≡ Some x → q x ≡ true) → cond t (Some y) rest ≡ Some x → q x ≡ true
all_by {X} q y x true rest h more e = let same : y ≡ x = cc e in subst (λ (z : X). q z ≡ true) same h
all_by q y x false rest h more e = more e

-- what is found passes each test that all pass
pub found_of_all : {X : Type 0} (p q : X → Bool) (xs : List X) (x : X) → list_all q xs ≡ true → find p xs ≡ Some x → q x ≡ true
found_of_all p q [] x all e = absurd (cc e)
found_of_all p q (y ∷ ys) x all e =
    let both = both (q y) (list_all q ys) all in
    all_by q y x (p y) (find p ys) both.0 (found_of_all p q ys x both.1) e

-- ---- one range

pub has_it : (s n a : ℕ) → s ≤ a → a < s + n → nat_le s a && nat_lt a (s + n) ≡ true
has_it s n a le lt = grind (arith, nat_tests)

pub ends_before : (s n a : ℕ) → s + n ≤ a → nat_le s a && nat_lt a (s + n) ≡ false
ends_before s n a le = grind (arith, nat_tests)

pub starts_after : (s n a : ℕ) → a < s → nat_le s a && nat_lt a (s + n) ≡ false
starts_after s n a late = grind (arith, nat_tests)

pub is_within : (s n a : ℕ) → nat_le s a && nat_lt a (s + n) ≡ true → (s ≤ a) × (a < s + n)
is_within s n a has = (grind (arith, nat_tests), grind (arith, nat_tests))

-- ---- ranges in ascending order

module _ {X : Type 0} (start size : X → ℕ) (xs : List X) where
  pub starts_rise : AreAscending start size xs → IsNonDecreasingBy start xs
  starts_rise up i j d le lt =
      elim (cases_lt i j) [
        | inl less ↦ let ends = up i j d less lt in omega (arith, ends)
        | inr more ↦ let same : i ≡ j = omega (arith, more, le) in rw same (omega arith)
      ]

  earlier : (a i k : ℕ) (d : X) → AreAscending start size xs → k < i → i < length xs → start (get_or xs i d) ≤ a → has_address start size a (get_or xs k d) ≡ false
  earlier a i k d up less lt le =
      let ends = up k i d less lt in
      ends_before (start (get_or xs k d)) (size (get_or xs k d)) a (omega (arith, ends, le))

  -- all start after the address
  pub none_starts : (a n : ℕ) → IsCountUpTo start a xs n → n ≡ 0 → find (has_address start size a) xs ≡ None
  none_starts a n count none =
      found_none (has_address start size a) xs (λ k d lt. starts_after (start (get_or xs k d)) (size (get_or xs k d)) a (count.after k d (omega arith) lt))

  at : (i : ℕ) (x d : X) → i < length xs → x ≡ get_or xs i x → get_or xs i d ≡ x
  at i x d lt is = get_or_default xs i d x lt ∙ sym is

  -- the last that starts at or before the address
  pub last_starts : (a n : ℕ) (x : X) → IsCountUpTo start a xs n → (n ≡ 0 → ⊥) → x ≡ get_or xs (n - 1) x → start x ≤ a
  last_starts a n x count some is =
      subst (λ (y : X). start y ≤ a) (sym is) (count.before (n - 1) x (omega (arith, some)))

  -- it has the address
  pub range_found : (a n : ℕ) (x : X) → AreAscending start size xs → IsCountUpTo start a xs n → (n ≡ 0 → ⊥) → x ≡ get_or xs (n - 1) x → a < start x + size x → find (has_address start size a) xs ≡ Some x
  range_found a n x up count some is within =
      let le = last_starts a n x count some is in
      let lt : n - 1 < length xs = omega (arith, some, count.within) in
      let has : has_address start size a (get_or xs (n - 1) x) ≡ true = subst (λ (y : X). has_address start size a y ≡ true) is (has_it (start x) (size x) a le within) in
      let before : start (get_or xs (n - 1) x) ≤ a = subst (λ (y : X). start y ≤ a) is le in
      found_at (has_address start size a) xs (n - 1) x lt (λ k less. earlier a (n - 1) k x up less lt before) has
      ∙ ap (λ (y : X). Some y) (sym is)

  -- any range that has it is the first
  pub near_found : (a k : ℕ) (x : X) → AreAscending start size xs → k < length xs → x ≡ get_or xs k x → has_address start size a x ≡ true → find (has_address start size a) xs ≡ Some x
  near_found a k x up lt is has =
      let this : has_address start size a (get_or xs k x) ≡ true = subst (λ (y : X). has_address start size a y ≡ true) is has in
      let before : start (get_or xs k x) ≤ a = subst (λ (y : X). start y ≤ a) is (is_within (start x) (size x) a has).0 in
      found_at (has_address start size a) xs k x lt (λ i less. earlier a k i x up less lt before) this
      ∙ ap (λ (y : X). Some y) (sym is)

  -- it ends at or before it
  pub range_missed : (a n : ℕ) (x : X) → AreAscending start size xs → IsCountUpTo start a xs n → (n ≡ 0 → ⊥) → x ≡ get_or xs (n - 1) x → start x + size x ≤ a → find (has_address start size a) xs ≡ None
  range_missed a n x up count some is ends =
      let le = last_starts a n x count some is in
      let lt : n - 1 < length xs = omega (arith, some, count.within) in
      found_none (has_address start size a) xs (λ k d within.
      elim (cases_lt k (n - 1)) [
        | inl less ↦ earlier a (n - 1) k d up less lt (subst (λ (y : X). start y ≤ a) (sym (at (n - 1) x d lt is)) le)
        | inr more ↦ elim (cases_lt (n - 1) k) [
          | inl less ↦ starts_after (start (get_or xs k d)) (size (get_or xs k d)) a (count.after k d (omega (arith, less)) within)
          | inr least ↦
              let same : k ≡ n - 1 = omega (arith, more, least) in
              rw (same, at (n - 1) x d lt is) (ends_before (start x) (size x) a ends)
        ]
      ])

  -- ---- the test of the order

  -- where the range before an index ends; 0 before the first
  abbrev pub EndsAt : ℕ → ℕ → Type 0
  EndsAt i end = (i ≡ 0 → end ≡ 0) × ((d : X) → 0 < i → end ≡ start (get_or xs (i - 1) d) + size (get_or xs (i - 1) d))

  -- where the test finds nothing
  pub ascends : (overlap : Option ℕ) → Overlaps start size xs overlap → is_none overlap ≡ true → AreAscending start size xs
  ascends None up none = up
  ascends (Some i) up none = absurd (cc none)

  up_to_end : (i j end : ℕ) (d : X) → j < i → FirstAscend start size xs i → EndsAt i end → start (get_or xs j d) + size (get_or xs j d) ≤ end
  up_to_end i j end d less up ends =
      let is = ends.1 d (omega (arith, less)) in
      elim (cases_lt j (i - 1)) [
        | inl before ↦ let le = up j (i - 1) d before (omega (arith, less)) in omega (arith, le, is)
        | inr more ↦ let same : j ≡ i - 1 = omega (arith, more, less) in rw same (omega (arith, is))
      ]

  -- one range more
  pub one_more : (i end : ℕ) (x : X) → i < length xs → x ≡ get_or xs i x → FirstAscend start size xs i → EndsAt i end → end ≤ start x → FirstAscend start size xs (i + 1) × EndsAt (i + 1) (start x + size x)
  one_more i end x lt is up ends le = (
    λ j k d less within.
        elim (cases_lt k i) [
          | inl below ↦ up j k d less below
          | inr more ↦
              let same : k ≡ i = omega (arith, more, within) in
              let last = up_to_end i j end d (omega (arith, less, within)) up ends in
              rw (same, at i x d lt is) (omega (arith, last, le))
        ],
    (
      λ none. absurd (omega (arith, none)),
      λ d more. let same : i + 1 - 1 ≡ i = omega arith in rw (same, at i x d lt is) refl,
    ),
  )

-- ---- the test of the order, as a definition

module _ {X : Type 0} (start size : X → ℕ) where
  -- ascending ranges pass it
  passed_from : (end : ℕ) (xs : List X) → ((d : X) → 0 < length xs → end ≤ start (get_or xs 0 d)) → AreAscending start size xs → rise_from start size end xs ≡ true
  unfolding rise_from
  passed_from end [] first up = refl
  passed_from end (x ∷ xs) first up =
      let le : end ≤ start x = first x (omega arith) in
      let here : nat_le end (start x) ≡ true = grind (arith, nat_tests) in
      let rest : rise_from start size (start x + size x) xs ≡ true = passed_from (start x + size x) xs (λ d some. up 0 1 d (omega arith) (omega (arith, some))) (λ j k d less within. up (suc j) (suc k) d (omega (arith, less)) (omega (arith, within))) in
      rw (here, rest) refl

  -- ranges that pass it start at or after the address
  starts_from : (end k : ℕ) (xs : List X) (d : X) → rise_from start size end xs ≡ true → k < length xs → end ≤ start (get_or xs k d)
  unfolding rise_from
  starts_from end k [] d t lt = absurd (omega (arith, lt))
  starts_from end zero (x ∷ xs) d t lt =
      let tests = both (nat_le end (start x)) (rise_from start size (start x + size x) xs) t in
      let here = tests.0 in
      grind (arith, nat_tests)
  starts_from end (suc k) (x ∷ xs) d t lt =
      let tests = both (nat_le end (start x)) (rise_from start size (start x + size x) xs) t in
      let here = tests.0 in
      let le : end ≤ start x = grind (arith, nat_tests) in
      let more = starts_from (start x + size x) k xs d tests.1 (omega (arith, lt)) in
      omega (arith, le, more)

  -- they ascend
  ascends_from : (end : ℕ) (xs : List X) → rise_from start size end xs ≡ true → AreAscending start size xs
  unfolding rise_from
  ascends_from end [] t j k d less lt = absurd (omega (arith, lt))
  ascends_from end (x ∷ xs) t j zero d less lt = absurd (omega (arith, less))
  ascends_from end (x ∷ xs) t zero (suc k) d less lt =
      let tests = both (nat_le end (start x)) (rise_from start size (start x + size x) xs) t in
      starts_from (start x + size x) k xs d tests.1 (omega (arith, lt))
  ascends_from end (x ∷ xs) t (suc j) (suc k) d less lt =
      let tests = both (nat_le end (start x)) (rise_from start size (start x + size x) xs) t in
      ascends_from (start x + size x) xs tests.1 j k d (omega (arith, less)) (omega (arith, lt))

  pub test_passed : (xs : List X) → AreAscending start size xs → rise_from start size 0 xs ≡ true
  test_passed xs up = passed_from 0 xs (λ d some. omega arith) up

  pub test_ascends : (xs : List X) → rise_from start size 0 xs ≡ true → AreAscending start size xs
  test_ascends xs t = ascends_from 0 xs t

  failed_by : (xs : List X) (i : ℕ) (t : Bool) → IsOverlap start size xs i → rise_from start size 0 xs ≡ t → false ≡ t
  failed_by xs i false overlap is = refl
  failed_by [] i true overlap is = absurd (omega (arith, overlap.within))
  failed_by (x ∷ xs) i true overlap is =
      let le = test_ascends (x ∷ xs) is (i - 1) i x (omega (arith, overlap.after)) overlap.within in
      let lt = overlap.overlaps x in
      absurd (omega (arith, le, lt))

  -- the search for an overlap decides it
  pub decided : (xs : List X) (overlap : Option ℕ) → Overlaps start size xs overlap → is_none overlap ≡ rise_from start size 0 xs
  decided xs None up = sym (test_passed xs up)
  decided xs (Some i) overlap = failed_by xs i (rise_from start size 0 xs) overlap refl
