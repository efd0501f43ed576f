-- The units of two bytes.
use Rattle.std.proofs.Common.{◌≡◌, ℕ, zero, suc, ◌+◌, ◌*◌, ◌/◌, ◌<◌, ◌≤◌, ◌≢◌, List, [], ◌∷◌, ◌++◌, length, add-zero, append_assoc, drop, get_or, refl, ap, sym, ◌∙◌, arith}
use Rattle.pe_resource.proofs.Cited.{nat_tests, same_lists, get_or_default, append-nil, le, units, before_zero}

pub units_count : (b : List ℕ) → length (units b) ≡ length b / 2
units_count [] = refl
units_count (x ∷ []) = refl
units_count (x ∷ y ∷ b) = let e = units_count b in omega arith

unit_is : (b : List ℕ) (i : ℕ) → 2 * i + 1 < length b → get_or (units b) i 0 ≡ get_or b (2 * i) 0 + 256 * get_or b (2 * i + 1) 0
unit_is [] i h = absurd (omega arith)
unit_is (x ∷ []) i h = absurd (omega arith)
unit_is (x ∷ y ∷ b) zero h = refl
unit_is (x ∷ y ∷ b) (suc i) h =
    let e : 2 * suc i ≡ suc (suc (2 * i)) = omega arith in
    let f : suc (suc (2 * i)) + 1 ≡ suc (suc (2 * i + 1)) = omega arith in
    rw e (rw f (unit_is b i (omega arith)))

pub unit_at : (b : List ℕ) (i : ℕ) → i < length b / 2 → get_or (units b) i 0 ≡ le b (2 * i) 2
unfolding le
unit_at b i h = unit_is b i (omega arith) ∙ simp add-zero (omega arith)

-- lists of one length with the same elements are one
pub same_from_each : (b name : List ℕ) → length b / 2 ≡ length name → ((k : ℕ) → k < length name → get_or (units b) k 0 ≡ get_or name k 0) → units b ≡ name
same_from_each b name l e =
    same_lists (units b) name (units_count b ∙ l)
    (λ k d h. let below : k < length name = omega (arith, units_count b) in get_or_default (units b) k d 0 h ∙ e k below ∙ get_or_default name k 0 d below)

front_is : (b : List ℕ) → 2 ≤ length b → units b ≡ le b 0 2 ∷ units (drop 2 b)
unfolding le
front_is b h = grind arith

-- the list up to the first zero, by the unit at the front
pub front_more : (b : List ℕ) → 2 ≤ length b → le b 0 2 ≢ 0 → before_zero (units b) ≡ le b 0 2 ∷ before_zero (units (drop 2 b))
front_more b h ne = grind (arith, nat_tests, front_is)

pub front_zero : (b : List ℕ) → 2 ≤ length b → le b 0 2 ≡ 0 → before_zero (units b) ≡ []
front_zero b h z = grind (arith, nat_tests, front_is)

pub front_short : (b : List ℕ) → length b < 2 → before_zero (units b) ≡ []
front_short b h = grind arith

-- the units so far and those before the first zero of the rest: at a zero, and after one more
pub stops_here : (us rest all : List ℕ) → us ++ before_zero (units rest) ≡ all → 2 ≤ length rest → le rest 0 2 ≡ 0 → us ≡ all
stops_here us rest all e h z = sym (append-nil us) ∙ ap (λ (r : List ℕ). us ++ r) (sym (front_zero rest h z)) ∙ e

pub goes_on : (us vs rest left all : List ℕ) (u : ℕ) → us ++ before_zero (units rest) ≡ all → 2 ≤ length rest → u ≡ le rest 0 2 → u ≢ 0 → vs ≡ us ++ u ∷ [] → left ≡ drop 2 rest → vs ++ before_zero (units left) ≡ all
goes_on us vs rest left all u e h is ne v l = grind (arith, front_more, append_assoc)
