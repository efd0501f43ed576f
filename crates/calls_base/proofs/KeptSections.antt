-- The sections that a walk keeps: RVAs by these first, and which of them change no offset.
use Rattle.std.proofs.Common.{◌≡◌, ℕ, zero, suc, ◌+◌, ◌-◌, ◌<◌, ◌++◌, Bool, true, List, [], ◌∷◌, length, take, drop, filter, Option, Some, None, refl, ap, sym, ◌∙◌, arith}
use Rattle.calls_base.proofs.Cited.{◌==◌, nat_lt, slice_index_or, is_power_of_two, option_map, nat_tests, covers, first, offset_of}
use Rattle.calls_base.proofs.Cited.{raw_start, SectionTable, numbered, map_of_image, ChangeNothing, HasAll, IsAlone, keeps_sections}
use Rattle.calls_base.proofs.Cited.{map_kept, IsWindowOf, is_searched, map_of, Image, KeptSections, Window, View, both}
use Rattle.std.proofs.Math.Path.{fun_ext}
use Rattle.calls_base.proofs.NearMaps.{all_sections}

-- ---- sections before others

-- the first of two results that is one
or_else : {X : Type 0} → Option X → Option X → Option X
or_else None o = o
or_else (Some x) o = Some x

first_by_test : {X : Type 0} (p : X → Bool) (x : X) (xs ys : List X) (b : Bool) → p x ≡ b → first (filter p (xs ++ ys)) ≡ or_else (first (filter p xs)) (first (filter p ys))
    → first (filter p (x ∷ xs ++ ys)) ≡ or_else (first (filter p (x ∷ xs))) (first (filter p ys))
unfolding or_else
first_by_test p x xs ys b e more = grind arith

first_or_else : {X : Type 0} (p : X → Bool) (xs ys : List X) → first (filter p (xs ++ ys)) ≡ or_else (first (filter p xs)) (first (filter p ys))
unfolding or_else
first_or_else p [] ys = refl
first_or_else p (x ∷ xs) ys = first_by_test p x xs ys (p x) refl (first_or_else p xs ys)

map_or_else : {X Y : Type 0} (f : X → Y) (o q : Option X) → option_map f (or_else o q) ≡ or_else (option_map f o) (option_map f q)
unfolding or_else
map_or_else f o q = grind arith

by_section : ℕ → SectionTable → ℕ
by_section x s = x - s.virtual_address + raw_start s

offset_or_else : (resolve : Bool) (alignment x : ℕ) (s t : List SectionTable) → offset_of resolve alignment (s ++ t) x ≡ or_else (offset_of resolve alignment s x) (offset_of resolve alignment t x)
unfolding offset_of or_else
offset_or_else resolve alignment x s t = grind (arith, by_section, first_or_else, map_or_else)

kept_or_else : (v : View) (k : KeptSections) (x : ℕ) →
    map_kept v k x ≡ or_else (or_else (map_of_image v.image.now (numbered v.sections.now k.first) x) (map_of_image v.image.now (numbered v.sections.now k.second) x)) (map_of v x)
kept_or_else v k x = grind (arith, or_else, offset_or_else)

pub by_first : (v : View) (k : KeptSections) (x p : ℕ) → map_of_image v.image.now (numbered v.sections.now k.first) x ≡ Some p → map_kept v k x ≡ Some p
unfolding or_else
by_first v k x p e = kept_or_else v k x ∙ ap (λ (o : Option ℕ). or_else (or_else o (map_of_image v.image.now (numbered v.sections.now k.second) x)) (map_of v x)) e

pub by_second : (v : View) (k : KeptSections) (x p : ℕ) → map_of_image v.image.now (numbered v.sections.now k.first) x ≡ None → map_of_image v.image.now (numbered v.sections.now k.second) x ≡ Some p → map_kept v k x ≡ Some p
unfolding or_else
by_second v k x p none e = grind (arith, kept_or_else, or_else)

pub by_others : (v : View) (k : KeptSections) (x : ℕ) → map_of_image v.image.now (numbered v.sections.now k.first) x ≡ None → map_of_image v.image.now (numbered v.sections.now k.second) x ≡ None → map_kept v k x ≡ map_of v x
unfolding or_else
by_others v k x none no_other = grind (arith, kept_or_else, or_else)

pub by_none : (v : View) (k : KeptSections) (x : ℕ) → k.first ≡ 0 → k.second ≡ 0 → map_kept v k x ≡ map_of v x
by_none v k x none no_other = grind arith

-- ---- a section that changes nothing

-- what one section maps it covers
covered : (alignment x p : ℕ) (s : SectionTable) → is_power_of_two alignment ≡ true → offset_of true alignment (s ∷ []) x ≡ Some p → (covers alignment x s ≡ true) × (p ≡ x - s.virtual_address + raw_start s)
unfolding offset_of
covered alignment x p s aligned e = grind arith

in_all : (alignment x p : ℕ) (f : ℕ → Option ℕ) (s : SectionTable) (rva : ℕ) (w : Window) → IsWindowOf f rva w → HasAll alignment s w →
    (covers alignment x s ≡ true) × (p ≡ x - s.virtual_address + raw_start s) → f x ≡ Some p
in_all alignment x p f s rva w h all e = grind (arith, nat_tests)

take_one : (sections : List SectionTable) (i : ℕ) (none : SectionTable) → i < length sections → take 1 (drop i sections) ≡ slice_index_or sections i none ∷ []
take_one [] i none h = absurd (omega (arith, h))
take_one (s ∷ ss) zero none h = refl
take_one (s ∷ ss) (suc i) none h = take_one ss i none (omega (arith, h))

numbered_at : (sections : List SectionTable) (i n : ℕ) (none : SectionTable) → n ≡ i + 1 → i < length sections → numbered sections n ≡ slice_index_or sections i none ∷ []
numbered_at sections i n none e h = grind (arith, nat_tests, take_one)

pub alone : (image : Image) (sections : List SectionTable) (i rva : ℕ) (none : SectionTable) (w : Window) → is_searched image ≡ true
    → IsWindowOf (map_of_image image sections) rva w → HasAll image.file_alignment (slice_index_or sections i none) w → i < length sections → IsAlone image sections (i + 1)
alone image sections i rva none w searched h all inside = grind (arith, both, in_all, covered, numbered_at)

-- ---- one more is kept

pub one_more : (v : View) (old : KeptSections) (n : ℕ) → keeps_sections v ≡ true → IsAlone v.image.now v.sections.now n → ChangeNothing v old → ChangeNothing v record { first = n; second = old.first }
one_more v old n keeps is_alone h x = by_number (map_of_image v.image.now (numbered v.sections.now n) x) refl where
  new : KeptSections
  new = record { first = n; second = old.first }

  no_index : (length v.index.now == 0) ≡ true
  no_index = (both (nat_lt 32 (length v.sections.now)) (length v.index.now == 0) keeps).1

  by_old : (o : Option ℕ) → map_of_image v.image.now (numbered v.sections.now n) x ≡ None → map_of_image v.image.now (numbered v.sections.now old.first) x ≡ o → map_kept v new x ≡ map_of v x
  by_old (Some q) none_n e = by_second v new x q none_n e ∙ sym (by_first v old x q e) ∙ h x
  by_old None none_n e = by_others v new x none_n e

  by_number : (o : Option ℕ) → map_of_image v.image.now (numbered v.sections.now n) x ≡ o → map_kept v new x ≡ map_of v x
  by_number (Some p) e = by_first v new x p e ∙ sym (ap (λ (s : List SectionTable). map_of_image v.image.now s x) (all_sections v.sections.now v.index.now x (sym no_index)) ∙ is_alone.maps x p e)
  by_number None e = by_old (map_of_image v.image.now (numbered v.sections.now old.first) x) e refl

-- what changes no offset is the map of the view
pub same_map : (v : View) (k : KeptSections) → ChangeNothing v k → map_kept v k ≡ map_of v
same_map v k h = fun_ext h

-- sections past the last are none
none_numbered : (sections : List SectionTable) (n : ℕ) → length sections < n → numbered sections n ≡ []
none_numbered sections n h = grind (arith, nat_tests)

pub none_past_the_last : (v : View) (k : KeptSections) → length v.sections.now < k.first → length v.sections.now < k.second → ChangeNothing v k
none_past_the_last v k past past_too = grind (arith, none_numbered)

resolved_none : (resolve : Bool) (alignment x : ℕ) → resolve ≡ true → is_power_of_two alignment ≡ true → offset_of resolve alignment [] x ≡ None
unfolding offset_of
resolved_none resolve alignment x on e = grind arith

-- none maps no RVA
pub none_alone : (image : Image) (sections : List SectionTable) (n : ℕ) → is_searched image ≡ true → length sections < n → IsAlone image sections n
none_alone image sections n searched past = grind (arith, both, none_numbered, resolved_none)
