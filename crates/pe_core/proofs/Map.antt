-- The first section that covers an address.
use Rattle.std.proofs.Common.{◌≡◌, ℕ, ◌+◌, ◌-◌, ◌*◌, ◌/◌, ◌%◌, ◌^◌, ◌<◌, ◌≤◌, arith, Bool, true, false, cond, List, [], ◌∷◌, Option, Some, None, Result, Ok, Err, refl, ap, length, ◌∙◌}
use Rattle.std.specs.Prelude.{filter, if◌then◌else◌}
use Rattle.std.specs.Option.{option_map}
use Rattle.std.specs.List.{find, position, position_or_len, slice_get}
use Rattle.std.specs.Int.{is_power_of_two}
use Rattle.std.proofs.lemmas.Bool.{eqb-true}
use Rattle.std.proofs.lemmas.Nat.{ones_le_self}
use Rattle.std.proofs.lemmas.List.Folds.{find_at}
use Rattle.std.proofs.lemmas.List.Quantifiers.{position-Some}
use Rattle.std.proofs.lemmas.List.Sums.{position_or_len_is}
use Rattle.std.proofs.lemmas.Option.{slice_get_past, slice_get-get_or}
use Rattle.std.proofs.Math.ListN.{get_or}
use Rattle.pe_core.specs.Refusals.{Refusal}
use Rattle.pe_core.proofs.Reaches.{outside, reach_by_raw}
use Rattle.pe_core.specs.SectionMap.{first, covers, may_cover, offset_by, mapped, reach, raw_start}
use Rattle.pe_core.specs.declared.section_table.SectionTable.{SectionTable}
use Rattle.pe_core.proofs.Comparisons.{is_past, not_below}

pub positive : (n : ℕ) → is_power_of_two n ≡ true → 0 < n
positive n e = omega (arith, ones_le_self n, eqb-true _ _ e)

first_of_cond : {X : Type 0} (b : Bool) (x : X) (xs : List X) (o : Option X) → o ≡ first xs → cond b (Some x) o ≡ first (cond b (x ∷ xs) xs)
first_of_cond true x xs o e = refl
first_of_cond false x xs o e = e

pub find_first : {X : Type 0} (p : X → Bool) (xs : List X) → find p xs ≡ first (filter p xs)
find_first p [] = refl
find_first p (x ∷ xs) = first_of_cond (p x) x (filter p xs) (find p xs) (find_first p xs)

pub same_some : {X : Type 0} (x y : X) → Some x ≡ Some y → x ≡ y
same_some x y e = cc

found_of_cond : {X : Type 0} (p : X → Bool) (b : Bool) (x y : X) (o : Option X) → p x ≡ b → (o ≡ Some y → p y ≡ true) → cond b (Some x) o ≡ Some y → p y ≡ true
found_of_cond p true x y o e h f = rw (← same_some x y f) e
found_of_cond p false x y o e h f = h f

pub found_passes : {X : Type 0} (p : X → Bool) (xs : List X) (y : X) → find p xs ≡ Some y → p y ≡ true
found_passes p [] y e = absurd cc
found_passes p (x ∷ xs) y e = found_of_cond p (p x) x y (find p xs) refl (found_passes p xs y) e

-- a section that covers the address passes the cheap test
cheap : (alignment address low : ℕ) (s : SectionTable) → low ≡ address % 2 ^ 32 → s.size_of_raw_data ≤ (low + (2 ^ 32 - s.virtual_address % 2 ^ 32)) % 2 ^ 32 / 4096 * 4096 → covers alignment address s ≡ false
cheap alignment address low s bits e =
    let small : reach alignment s ≤ (s.size_of_raw_data + 4095) / 4096 * 4096 = reach_by_raw alignment s in
    outside s.virtual_address address (reach alignment s) (λ i j. omega arith)

passes : (alignment address low : ℕ) (s : SectionTable) → low ≡ address % 2 ^ 32 → may_cover low s ≡ false → covers alignment address s ≡ false
passes alignment address low s bits e = cheap alignment address low s bits (not_below _ _ e)

-- where no element of a list passes p, none passes q, if all that pass q pass p
none_of_cond : {X : Type 0} (b c : Bool) (x : X) (o r : Option X) → (b ≡ false → c ≡ false) → (o ≡ None → r ≡ None) → cond b (Some x) o ≡ None → cond c (Some x) r ≡ None
none_of_cond true c x o r h k e = absurd cc
none_of_cond false true x o r h k e = let t : true ≡ false = h refl in absurd cc
none_of_cond false false x o r h k e = k e

none_passes : {X : Type 0} (p q : X → Bool) (xs : List X) → ((x : X) → p x ≡ false → q x ≡ false) → find p xs ≡ None → find q xs ≡ None
none_passes p q [] h e = refl
none_passes p q (x ∷ xs) h e = none_of_cond (p x) (q x) x (find p xs) (find q xs) (h x) (none_passes p q xs h) e

-- where no section passes the cheap test, none covers the address
pub no_candidate : (alignment address low : ℕ) (xs : List SectionTable) → low ≡ address % 2 ^ 32 → position (may_cover low) xs ≡ None → find (covers alignment address) xs ≡ None
no_candidate alignment address low xs bits e =
    let past : length xs ≤ position_or_len (may_cover low) xs = is_past _ _ e in
    let none : find (may_cover low) xs ≡ None = find_at (may_cover low) xs ∙ slice_get_past xs _ past in
    none_passes (may_cover low) (covers alignment address) xs (λ x fails. passes alignment address low x bits fails) none

-- where the first section that passes it covers the address, it is the first that does
candidate_covers : (alignment address low i : ℕ) (xs : List SectionTable) (d : SectionTable) → low ≡ address % 2 ^ 32 → position (may_cover low) xs ≡ Some i → covers alignment address (get_or xs i d) ≡ true → find (covers alignment address) xs ≡ Some (get_or xs i d)
candidate_covers alignment address low i xs d bits e found =
    let here : (i < length xs) × (may_cover low (get_or xs i d) ≡ true) × ((k : ℕ) → k < i → may_cover low (get_or xs k d) ≡ false) = position-Some (may_cover low) xs i d e in
    let at : position_or_len (covers alignment address) xs ≡ i = position_or_len_is (covers alignment address) xs i d (omega (arith, here.0)) (λ k l. passes alignment address low _ bits (here.2 k l)) (λ _. found) in
    find_at (covers alignment address) xs ∙ ap (slice_get xs) at ∙ slice_get-get_or xs i d here.0

offset_if : (t : Bool) (n o : ℕ) → (if t then Some n else None) ≡ Some o → (t ≡ true) × (Some n ≡ Some o)
offset_if true n o e = (refl, e)
offset_if false n o e = absurd cc

-- where the first section that passes it has an offset for the address, that is the offset
pub candidate_offset : (alignment address low i o : ℕ) (xs : List SectionTable) (d : SectionTable) → low ≡ address % 2 ^ 32 → position (may_cover low) xs ≡ Some i → offset_by alignment address (get_or xs i d) ≡ Some o → option_map (λ s. address - s.virtual_address + raw_start s) (find (covers alignment address) xs) ≡ Some o
candidate_offset alignment address low i o xs d bits e found =
    let both : (covers alignment address (get_or xs i d) ≡ true) × (Some (address - (get_or xs i d).virtual_address + raw_start (get_or xs i d)) ≡ Some o) = offset_if _ _ o found in
    rw (candidate_covers alignment address low i xs d bits e both.0) both.1

value_or_zero : Result ℕ Refusal → ℕ
value_or_zero (Ok p) = p
value_or_zero (Err refusal) = 0

-- an RVA that is not refused has this offset
pub offset_is : (offset : Option ℕ) (p : ℕ) → mapped offset ≡ Ok p → offset ≡ Some p
unfolding value_or_zero
offset_is None p e = absurd cc
offset_is (Some q) p e = ap (λ (x : ℕ). Some x) (ap value_or_zero e)
