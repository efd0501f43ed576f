-- A key's units are a plain name's exactly where its text is the name.
use Rattle.std.proofs.Common.{◌≡◌, ℕ, zero, suc, get_or, ◌<◌, ◌+◌, ◌-◌, ◌*◌, ◌%◌, ◌==◌, ◌&&◌, Bool, true, false, not, List, [], ◌∷◌, ◌++◌, map, length, take, drop, take_all, ◌≤◌, Option, Some, None, is_some, unwrap_or, if◌then◌else◌, ◌↔◌, refl, ap, sym, ◌∙◌, subst, arith, IsTrue}
use Rattle.pe_resource.proofs.Cited.{false≢true, nat_tests, places, range, bytes_eq-Decides, list_all, list_any, nat_lt, encode_utf8_all}
use Rattle.pe_resource.proofs.Cited.{units, before_zero, key_length, text, is_name, is_plain, IsPlain, ArePlain}
use Rattle.pe_core.proofs.Equality.{both}
use Rattle.std.proofs.lemmas.Str.{encode_ascii, encodes_same}
use Rattle.std.specs.Char.Utf16.{utf16_chars, lone_unit_char, is_high_surrogate, is_low_surrogate, has_unpaired_surrogate, utf16_lossy_chars}

-- ---- characters below 128

abbrev is_small : ℕ → Bool
is_small c = nat_lt c 128

small_from_plain : (name : List ℕ) → IsPlain name → list_all is_small name ≡ true
small_from_plain [] h = refl
small_from_plain (c ∷ cs) h =
    let p = both (is_plain c) (list_all is_plain cs) h in
    let head : is_small c ≡ true = (both (nat_lt 0 c) (nat_lt c 128) p.0).1 in
    rw head (small_from_plain cs p.1)

small_lone : (u : ℕ) → is_small u ≡ true → lone_unit_char u ≡ Some u
small_lone u h = grind (arith, nat_tests)

small_not_high : (u : ℕ) (b : Bool) → is_small u ≡ true → (is_high_surrogate u && b) ≡ false
small_not_high u b h = grind (arith, nat_tests)

-- small units are their characters
chars_small : (us : List ℕ) → list_all is_small us ≡ true → utf16_chars us ≡ map (λ c. Some c) us
unfolding utf16_chars
chars_small [] h = refl
chars_small (u ∷ []) h = grind (arith, small_lone, both)
chars_small (u ∷ v ∷ us) h =
    let p = both (is_small u) (list_all is_small (v ∷ us)) h in
    let test = small_not_high u (is_low_surrogate v) p.0 in
    rw test (ap (λ (o : Option ℕ). o ∷ utf16_chars (v ∷ us)) (small_lone u p.0) ∙ ap (λ (os : List (Option ℕ)). Some u ∷ os) (chars_small (v ∷ us) p.1))

no_gap : (us : List ℕ) → list_any (λ o. not (is_some o)) (map (λ c. Some c) us) ≡ false
no_gap [] = refl
no_gap (u ∷ us) = no_gap us

whole : (us : List ℕ) → map (λ o. unwrap_or o 0xFFFD) (map (λ c. Some c) us) ≡ us
whole [] = refl
whole (u ∷ us) = ap (λ (l : List ℕ). u ∷ l) (whole us)

encodes_small : (cs : List ℕ) → list_all is_small cs ≡ true → encode_utf8_all cs ≡ cs
encodes_small [] h = refl
encodes_small (c ∷ cs) h =
    let p = both (is_small c) (list_all is_small cs) h in
    ap (λ (l : List ℕ). l ++ encode_utf8_all cs) (encode_ascii c (grind (arith, nat_tests, p.0))) ∙ ap (λ (l : List ℕ). c ∷ l) (encodes_small cs p.1)

lone_small : (u : ℕ) → is_small (unwrap_or (lone_unit_char u) 0xFFFD) ≡ true → unwrap_or (lone_unit_char u) 0xFFFD ≡ u
lone_small u h = grind arith

pair_at : (t : Bool) (u v : ℕ) (us : List ℕ) → (is_high_surrogate u && is_low_surrogate v) ≡ t → list_all is_small (utf16_lossy_chars (u ∷ v ∷ us)) ≡ true → (list_all is_small (utf16_lossy_chars (v ∷ us)) ≡ true → utf16_lossy_chars (v ∷ us) ≡ v ∷ us) → utf16_lossy_chars (u ∷ v ∷ us) ≡ u ∷ v ∷ us
unfolding utf16_chars
pair_at t u v us e h later = grind (arith, both, nat_tests, lone_small)

lossy_small : (us : List ℕ) → list_all is_small (utf16_lossy_chars us) ≡ true → utf16_lossy_chars us ≡ us
unfolding utf16_chars
lossy_small [] h = refl
lossy_small (u ∷ []) h = ap (λ (c : ℕ). c ∷ []) (lone_small u (both (is_small (unwrap_or (lone_unit_char u) 0xFFFD)) true h).0)
lossy_small (u ∷ v ∷ us) h = pair_at (is_high_surrogate u && is_low_surrogate v) u v us refl h (lossy_small (v ∷ us))

-- ---- the text of units

abbrev text_of_units : List ℕ → Option (List ℕ)
text_of_units us = if has_unpaired_surrogate us then None else Some (encode_utf8_all (utf16_lossy_chars us))

name_at_units : (name : List ℕ) → IsPlain name → is_name name (text_of_units name) ≡ true
name_at_units name h = grind (arith, small_from_plain, chars_small, no_gap, whole, encodes_small, bytes_eq-Decides)

units_at : (t : Bool) (us name : List ℕ) → IsPlain name → is_name name (if◌then◌else◌ {A = Option (List ℕ)} t None (Some (encode_utf8_all (utf16_lossy_chars us)))) ≡ true → us ≡ name
units_at t us name plain h = grind (arith, false≢true, small_from_plain, bytes_eq-Decides, encodes_same, encodes_small, lossy_small)

-- ---- the units of a key

front_at : (t : Bool) (x y : ℕ) (b : List ℕ) → units (take (2 * length (before_zero (units b))) b) ≡ before_zero (units b) → units (take (2 * length (if t then [] else (x + 256 * y) ∷ before_zero (units b))) (x ∷ y ∷ b)) ≡ (if t then [] else (x + 256 * y) ∷ before_zero (units b))
front_at true x y b later = refl
front_at false x y b later =
    let n : 2 * suc (length (before_zero (units b))) ≡ suc (suc (2 * length (before_zero (units b)))) = omega arith in
    rw n (ap (λ (l : List ℕ). (x + 256 * y) ∷ l) later)

units_front : (b : List ℕ) → units (take (2 * length (before_zero (units b))) b) ≡ before_zero (units b)
units_front [] = refl
units_front (x ∷ []) = refl
units_front (x ∷ y ∷ b) = front_at (x + 256 * y == 0) x y b (units_front b)

pub same_test : (r s : Bool) → (r ≡ true → s ≡ true) → (s ≡ true → r ≡ true) → r ≡ s
same_test r s f g = grind (arith, false≢true)

-- the bytes of a key have no zero unit
before_twice_at : (t : Bool) (u : ℕ) (us : List ℕ) → (u == 0) ≡ t → before_zero (before_zero us) ≡ before_zero us → before_zero (if t then [] else u ∷ before_zero us) ≡ (if t then [] else u ∷ before_zero us)
before_twice_at t u us test later = grind arith

before_twice : (us : List ℕ) → before_zero (before_zero us) ≡ before_zero us
before_twice [] = refl
before_twice (u ∷ us) = before_twice_at (u == 0) u us refl (before_twice us)

pub whole_key : (b : List ℕ) (p n : ℕ) → n ≡ key_length b p → p + n ≤ length b → key_length (range b p n) 0 ≡ length (range b p n)
whole_key b p n is fits =
    let size : length (range b p n) ≡ n = grind (arith, places) in
    let cut : p + n - p ≡ key_length b p = omega (arith, is) in
    let same : units (range b p n) ≡ before_zero (units (drop p b)) = ap (λ (m : ℕ). units (take m (drop p b))) cut ∙ units_front (drop p b) in
    ap (λ (us : List ℕ). 2 * length (before_zero us)) same ∙ ap (λ (us : List ℕ). 2 * length us) (before_twice (units (drop p b))) ∙ sym is ∙ sym size

pub name_whole : (key name bytes : List ℕ) (r : Bool) → key_length key 0 ≡ length key → IsPlain name → bytes ≡ name → (IsTrue r ↔ (units key ≡ bytes)) → r ≡ is_name name (text key)
unfolding text
name_whole key name bytes r size plain named reported =
    let test : (length key % 2 == 1) ≡ false = grind (arith, nat_tests, size) in
    let same : units key ≡ before_zero (units key) = ap units (sym (take_all (length key) key (omega arith)) ∙ ap (λ (n : ℕ). take n key) (sym size)) ∙ units_front key in
    rw test (same_test r (is_name name (text_of_units (before_zero (units key))))
    (λ h. subst (λ (us : List ℕ). is_name name (text_of_units us) ≡ true) (sym named ∙ sym (reported.0 h) ∙ same) (name_at_units name plain))
    (λ h. reported.1 (same ∙ units_at (has_unpaired_surrogate (before_zero (units key))) (before_zero (units key)) name plain h ∙ sym named)))

pub plain_at : {X : Type 0} (f : X → List ℕ) (xs : List X) (i : ℕ) (d : X) → ArePlain (map f xs) → i < length xs → IsPlain (f (get_or xs i d))
plain_at f [] i d h lt = absurd (omega arith)
plain_at f (x ∷ xs) zero d h lt = (both (list_all is_plain (f x)) (list_all (list_all is_plain) (map f xs)) h).0
plain_at f (x ∷ xs) (suc i) d h lt = plain_at f xs i d (both (list_all is_plain (f x)) (list_all (list_all is_plain) (map f xs)) h).1 (omega arith)
