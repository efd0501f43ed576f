-- The loops over records.
use Rattle.std.proofs.Common.{◌≡◌, ℕ, ◌+◌, ◌<◌, ◌≤◌, ◌&&◌, Bool, true, false, List, length, drop, get_or, Some, None, ap, subst, sym, ◌∙◌, arith}
use Rattle.pe_edit.proofs.Cited.{list_all, nat_le, nat_tests, drop_all, drop_more, ResourceRecord, names_length, record_fits}
use Rattle.pe_edit.proofs.Cited.{sum_within, total}

fit_at : (d : List ℕ) (rs : List ResourceRecord) (i : ℕ) (r : ResourceRecord) → i < length rs → list_all (record_fits d) (drop i rs) ≡ (record_fits d (get_or rs i r) && list_all (record_fits d) (drop (i + 1) rs))
fit_at d rs i r h = ap (list_all (record_fits d)) (drop_more rs i r h)

pub more_fit : (d : List ℕ) (rs : List ResourceRecord) (i : ℕ) (r : ResourceRecord) → i < length rs → record_fits d (get_or rs i r) ≡ true → list_all (record_fits d) (drop i rs) ≡ list_all (record_fits d) rs → list_all (record_fits d) (drop (i + 1) rs) ≡ list_all (record_fits d) rs
more_fit d rs i r h e f = sym (fit_at d rs i r h ∙ ap (λ (t : Bool). t && list_all (record_fits d) (drop (i + 1) rs)) e) ∙ f

pub one_unfit : (d : List ℕ) (rs : List ResourceRecord) (i : ℕ) (r : ResourceRecord) → i < length rs → record_fits d (get_or rs i r) ≡ false → list_all (record_fits d) (drop i rs) ≡ list_all (record_fits d) rs → list_all (record_fits d) rs ≡ false
one_unfit d rs i r h e f = sym f ∙ fit_at d rs i r h ∙ ap (λ (t : Bool). t && list_all (record_fits d) (drop (i + 1) rs)) e

pub all_fit : (d : List ℕ) (rs : List ResourceRecord) (i : ℕ) → length rs ≤ i → list_all (record_fits d) (drop i rs) ≡ list_all (record_fits d) rs → list_all (record_fits d) rs ≡ true
all_fit d rs i h f = sym f ∙ ap (list_all (record_fits d)) (drop_all i rs h)

-- ---- sums up to a bound

total_at : {X : Type 0} (f : X → ℕ) (xs : List X) (i : ℕ) (x : X) → i < length xs → total f (drop i xs) ≡ f (get_or xs i x) + total f (drop (i + 1) xs)
unfolding total
total_at f xs i x h = ap (total f) (drop_more xs i x h)

-- the numbers up to one are added to where the sum started
pub record Added {X : Type 0} (f : X → ℕ) (most : ℕ) (xs : List X) (start sum i : ℕ) : Type 0 where
  pub small : sum ≤ most
  pub same : sum + total f (drop i xs) ≡ start + total f xs

pub one_added : {X : Type 0} (f : X → ℕ) (most : ℕ) (xs : List X) (start sum next i : ℕ) (x : X) → i < length xs → Some next ≡ sum_within most sum (f (get_or xs i x)) → Added f most xs start sum i → Added f most xs start next (i + 1)
one_added f most xs start sum next i x h e a = grind (arith, total_at, nat_tests)

pub one_too_many : {X : Type 0} (f : X → ℕ) (most : ℕ) (xs : List X) (start sum i : ℕ) (x : X) → i < length xs → None ≡ sum_within most sum (f (get_or xs i x)) → Added f most xs start sum i → nat_le (start + total f xs) most ≡ false
one_too_many f most xs start sum i x h e a = grind (arith, total_at, nat_tests)

pub sum_is : {X : Type 0} (f : X → ℕ) (most : ℕ) (xs : List X) (start sum i : ℕ) → length xs ≤ i → Added f most xs start sum i → sum ≡ start + total f xs
unfolding total
sum_is f most xs start sum i h a = omega (arith, ap (total f) (drop_all i xs h), a.same)

pub all_within : {X : Type 0} (f : X → ℕ) (most : ℕ) (xs : List X) (start sum i : ℕ) → length xs ≤ i → Added f most xs start sum i → nat_le (start + total f xs) most ≡ true
all_within f most xs start sum i h a =
    let small : start + total f xs ≤ most = omega (arith, a.small, sum_is f most xs start sum i h a) in
    grind (arith, nat_tests, small)

-- of a sum that starts at 0

pub too_many : {X : Type 0} (f : X → ℕ) (most : ℕ) (xs : List X) (sum i : ℕ) (x : X) → i < length xs → None ≡ sum_within most sum (f (get_or xs i x)) → Added f most xs 0 sum i → nat_le (total f xs) most ≡ false
too_many f most xs sum i x h e a = let same : 0 + total f xs ≡ total f xs = omega arith in subst (λ (n : ℕ). nat_le n most ≡ false) same (one_too_many f most xs 0 sum i x h e a)

pub few_enough : {X : Type 0} (f : X → ℕ) (most : ℕ) (xs : List X) (sum i : ℕ) → length xs ≤ i → Added f most xs 0 sum i → nat_le (total f xs) most ≡ true
few_enough f most xs sum i h a = let same : 0 + total f xs ≡ total f xs = omega arith in subst (λ (n : ℕ). nat_le n most ≡ true) same (all_within f most xs 0 sum i h a)

-- ---- the names

abbrev pub NamesAdded : List ResourceRecord → ℕ → ℕ → Type 0
NamesAdded rs sum i = Added names_length 16777216 rs 0 sum i

pub more_names : (rs : List ResourceRecord) (sum next i : ℕ) (r : ResourceRecord) → i < length rs → Some next ≡ sum_within 16777216 sum (names_length (get_or rs i r)) → NamesAdded rs sum i → NamesAdded rs next (i + 1)
more_names rs sum next i r h e a = one_added names_length 16777216 rs 0 sum next i r h e a

pub one_too_long : (rs : List ResourceRecord) (sum i : ℕ) (r : ResourceRecord) → i < length rs → None ≡ sum_within 16777216 sum (names_length (get_or rs i r)) → NamesAdded rs sum i → nat_le (total names_length rs) 16777216 ≡ false
one_too_long rs sum i r h e a = too_many names_length 16777216 rs sum i r h e a

pub all_names : (rs : List ResourceRecord) (sum i : ℕ) → length rs ≤ i → NamesAdded rs sum i → nat_le (total names_length rs) 16777216 ≡ true
all_names rs sum i h a = few_enough names_length 16777216 rs sum i h a
