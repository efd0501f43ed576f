-- Sections that rise or fall in the file don't clash.
use Rattle.std.proofs.Common.{◌≡◌, ◌≢◌, ◌&&◌, Bool, true, false, List, [], ◌∷◌, refl, ap, sym, ◌∙◌, arith, ◌+◌, ◌<◌, length, get_or, drop, ℕ, ◌-◌, take, length-drop, rules}
use Rattle.pe_image.proofs.Cited.{take_all, ◌==◌, not, min, max, nat_le, nat_lt, list_all, nat_tests, or_right, and_true, raw_end}
use Rattle.pe_image.proofs.Cited.{SharesRawByte, SectionTable, clash, clash_free, same_section, before_by, ends_before, in_order}
use Rattle.pe_image.proofs.Cited.{is_next}
use Rattle.std.specs.Str.{bytes_eq}
use Rattle.pe_core.proofs.FieldEquality.{sections_equal}
use Rattle.pe_image.proofs.Rows.{and_assoc, and_left, and_right, rest_at}

regroup : (a b c d e f g h i j : Bool) → (a && (b && (c && (d && (e && (f && (g && (h && (i && j))))))))) ≡ (a && b && c && d && e && f && g && h && i && j)
regroup a b c d e f g h i j = simp and_assoc refl

same : (s t : SectionTable) → same_section s t ≡ true → s ≡ t
same s t e = (sections_equal s t).0 (regroup (bytes_eq s.name t.name) (s.virtual_size == t.virtual_size) (s.virtual_address == t.virtual_address) (s.size_of_raw_data == t.size_of_raw_data) (s.pointer_to_raw_data == t.pointer_to_raw_data) (s.pointer_to_relocations == t.pointer_to_relocations) (s.pointer_to_linenumbers == t.pointer_to_linenumbers) (s.number_of_relocations == t.number_of_relocations) (s.number_of_linenumbers == t.number_of_linenumbers) (s.characteristics == t.characteristics) ∙ e)

same_itself : (s : SectionTable) → same_section s s ≡ true
same_itself s = sym (regroup (bytes_eq s.name s.name) (s.virtual_size == s.virtual_size) (s.virtual_address == s.virtual_address) (s.size_of_raw_data == s.size_of_raw_data) (s.pointer_to_raw_data == s.pointer_to_raw_data) (s.pointer_to_relocations == s.pointer_to_relocations) (s.pointer_to_linenumbers == s.pointer_to_linenumbers) (s.number_of_relocations == s.number_of_relocations) (s.number_of_linenumbers == s.number_of_linenumbers) (s.characteristics == s.characteristics)) ∙ (sections_equal s s).1 refl

pub by_cases : {P : Type 0} (b : Bool) → (b ≡ true → P) → (b ≡ false → P) → P
by_cases b f g = grind arith

-- a section equals another, or ends before it
equal_or_apart : {P : Type 0} (s t : SectionTable) → ends_before s t ≡ true → (s ≡ t → P) → (nat_le (raw_end s) t.pointer_to_raw_data ≡ true → P) → P
equal_or_apart s t h f g = grind (arith, by_cases, same)

equal_is_free : (s t : SectionTable) → s ≡ t → not (clash s t) ≡ true
equal_is_free s t e = grind (arith, same_itself)

apart_is_free : (s t : SectionTable) → nat_lt (max s.pointer_to_raw_data t.pointer_to_raw_data) (min (raw_end s) (raw_end t)) ≡ false → not (clash s t) ≡ true
apart_is_free s t k = grind (arith, same)

free : (falls : Bool) (s t : SectionTable) → before_by falls s t ≡ true → not (clash s t) ≡ true
free false s t h = equal_or_apart s t h (equal_is_free s t) (λ k. apart_is_free s t (grind (arith, nat_tests)))
free true s t h = equal_or_apart t s h (λ e. equal_is_free s t (sym e)) (λ k. apart_is_free s t (grind (arith, nat_tests)))

before_too : (s t u : SectionTable) → ends_before s t ≡ true → ends_before t u ≡ true → ends_before s u ≡ true
before_too s t u h k =
    equal_or_apart s t h
    (λ e. rw e k)
    (λ before. equal_or_apart t u k
    (λ f. rw (← f) h)
    (λ after. or_right (same_section s u) _ (grind (arith, nat_tests))))

all_so : {X : Type 0} (p q : X → Bool) → ((x : X) → p x ≡ true → q x ≡ true) → (xs : List X) → list_all p xs ≡ true → list_all q xs ≡ true
all_so p q f [] h = refl
all_so p q f (x ∷ xs) h = and_true (q x) (list_all q xs) (f x (and_left _ _ h)) (all_so p q f xs (and_right _ _ h))

before_all : (falls : Bool) (s : SectionTable) (after : List SectionTable) → in_order falls (s ∷ after) ≡ true → list_all (before_by falls s) after ≡ true
before_all falls s [] h = refl
before_all falls s (t ∷ after) h =
    let here : before_by falls s t ≡ true = and_left _ _ h in
    and_true (before_by falls s t) (list_all (before_by falls s) after) here
    (all_so (before_by falls t) (before_by falls s) (λ u e. grind (arith, before_too)) after (before_all falls t after (and_right _ _ h)))

pub ordered_is_free : (falls : Bool) (sections : List SectionTable) → in_order falls sections ≡ true → clash_free sections ≡ true
ordered_is_free falls [] h = refl
ordered_is_free falls (s ∷ after) h =
    and_true (list_all (λ t. not (clash s t)) after) (clash_free after)
    (all_so (before_by falls s) (λ t. not (clash s t)) (λ t e. free falls s t e) after (before_all falls s after h))
    (ordered_is_free falls after (and_right _ _ h))

-- ---- sections that are equal to the next one

pub passed_over : (s : SectionTable) (after : List SectionTable) → is_next s after ≡ true → clash_free after ≡ clash_free (s ∷ after)
passed_over s after h = search (rules, arith, same, equal_is_free)

pub next_passed_over : (sections : List SectionTable) (i : ℕ) (d : SectionTable) → i < length sections → clash_free (drop i sections) ≡ clash_free sections → is_next (get_or sections i d) (take (length sections - (i + 1)) (drop (i + 1) sections)) ≡ true → clash_free (drop (i + 1) sections) ≡ clash_free sections
next_passed_over sections i d h e n = grind (arith, length-drop, take_all, passed_over, rest_at)

-- ---- what a clash is

-- unequal sections clash exactly where some byte of the file belongs to both
pub clash_shares : (s t : SectionTable) → clash s t ≡ true → SharesRawByte s t
clash_shares s t h =
    (max s.pointer_to_raw_data t.pointer_to_raw_data, ((grind (arith, nat_tests), grind (arith, nat_tests)), (grind (arith, nat_tests), grind (arith, nat_tests))))

pub clash_unequal : (s t : SectionTable) → clash s t ≡ true → s ≢ t
clash_unequal s t h = grind (arith, and_right, same_itself)

pub shares_clash : (s t : SectionTable) → SharesRawByte s t → s ≢ t → clash s t ≡ true
shares_clash s t (q, ((a, b), (c, d))) unequal =
    let shared : nat_lt (max s.pointer_to_raw_data t.pointer_to_raw_data) (min (raw_end s) (raw_end t)) ≡ true = grind (arith, nat_tests) in
    and_true _ _ shared (by_cases (same_section s t) (λ e. absurd (unequal (same s t e))) (λ e. ap not e))
