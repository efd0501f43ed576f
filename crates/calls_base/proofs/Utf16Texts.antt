-- Texts in UTF-16 character by character, and texts that are written one after the other.
use Rattle.std.proofs.Common.{◌≡◌, ℕ, ◌+◌, ◌/◌, ◌<◌, ◌≤◌, true, List, [], ◌∷◌, ◌++◌, length, drop, get_or, Option, Some, None, append_assoc, length-append, length-drop, map, min, take, nat_lt, ◌-◌, sym, ap, ◌∙◌, arith}
use Rattle.calls_base.proofs.Cited.{nat_tests, places, same_lists, utf16_chars_lone, utf16_chars_pair, unwrap_or, encode_utf8_all, le}
use Rattle.calls_base.proofs.Cited.{splice, truncated_text, ended, second_of, utf16_text}
use Rattle.std.specs.Char.{encode_utf8}
use Rattle.std.specs.Char.Utf16.{is_high_surrogate, is_low_surrogate, lone_unit_char, surrogate_pair_char, utf16_chars, utf16_lossy_chars}
use Rattle.pe_core.proofs.NumberBytes.{le-same}
use Rattle.pe_core.proofs.Splices.{length-splice, splice-splice}
use Rattle.pe_resource.proofs.Units.{unit_at}
use Rattle.pe_resource.specs.VersionStrings.{units}
use Rattle.pe_edit.proofs.Units.{front}

-- ---- code units

second_unit : (b : List ℕ) → 4 ≤ length b → get_or (units (drop 2 b)) 0 0 ≡ le b 2 2
second_unit b h =
    let two : 1 < length b / 2 = omega (arith, h) in
    let some : 2 ≤ length b = omega (arith, h) in
    ap (λ (us : List ℕ). get_or us 1 0) (sym (front b some)) ∙ unit_at b 1 two

no_second : (b : List ℕ) → length b < 4 → get_or (units (drop 2 b)) 0 0 ≡ 0
no_second b h = grind arith

-- ---- the first character

abbrev AreAPair : List ℕ → Type 0
AreAPair b = (0xD800 ≤ le b 0 2) × (le b 0 2 < 0xDC00) × (0xDC00 ≤ get_or (units (drop 2 b)) 0 0) × (get_or (units (drop 2 b)) 0 0 < 0xE000)

has_second : (b : List ℕ) (v : ℕ) → 0xD800 ≤ le b 0 2 → le b 0 2 < 0xDC00 → 4 ≤ length b → 0xDC00 ≤ le b 2 2 → le b 2 2 < 0xE000 → second_of b ≡ Some (le b 2 2)
has_second b v high below long low least = grind (arith, nat_tests)

abbrev lossy : List (Option ℕ) → List ℕ
lossy cs = map (λ o. unwrap_or o 0xFFFD) cs

pub first_alone : (b : List ℕ) → 2 ≤ length b → second_of b ≡ None → utf16_lossy_chars (units b) ≡ unwrap_or (lone_unit_char (le b 0 2)) 0xFFFD ∷ utf16_lossy_chars (units (drop 2 b))
first_alone b h e = grind (arith, front, utf16_chars_lone, nat_tests, second_unit, has_second, no_second)

pub second_there : (b : List ℕ) (v : ℕ) → second_of b ≡ Some v → (is_high_surrogate (le b 0 2) ≡ true) × (4 ≤ length b) × (is_low_surrogate (le b 2 2) ≡ true) × (v ≡ le b 2 2)
second_there b v e = grind (arith, nat_tests)

drop_four : (b : List ℕ) → drop 2 (drop 2 b) ≡ drop 4 b
drop_four b = grind arith

same_second : (b : List ℕ) → 4 ≤ length b → le (drop 2 b) 0 2 ≡ le b 2 2
same_second b h = le-same (drop 2 b) b 0 2 2 (λ k lt. grind (arith, places))

pub first_pair : (b : List ℕ) (v : ℕ) → second_of b ≡ Some v → utf16_lossy_chars (units b) ≡ surrogate_pair_char (le b 0 2) v ∷ utf16_lossy_chars (units (drop 4 b))
first_pair b v e = grind (arith, second_there, nat_tests, utf16_chars_pair, length-drop, same_second, front, drop_four)

-- ---- the text in UTF-8

-- a text goes on with the bytes of its first character
pub more_text : (b : List ℕ) (c n : ℕ) → utf16_lossy_chars (units b) ≡ c ∷ utf16_lossy_chars (units (drop n b)) → utf16_text b ≡ encode_utf8 c ++ utf16_text (drop n b)
unfolding utf16_text
more_text b c n e = ap encode_utf8_all e

pub more_length : (b : List ℕ) (c n : ℕ) → utf16_lossy_chars (units b) ≡ c ∷ utf16_lossy_chars (units (drop n b)) → length (utf16_text b) ≡ length (encode_utf8 c) + length (utf16_text (drop n b))
more_length b c n e = ap length (more_text b c n e) ∙ length-append (encode_utf8 c) (utf16_text (drop n b))

pub no_text : (b : List ℕ) → length b < 2 → utf16_text b ≡ []
unfolding utf16_text utf16_chars
no_text b h = grind arith

-- ---- what is written

-- a text and its zero, one after the other
pub text_and_zero : (old text : List ℕ) → splice (splice old 0 text) (length text) (0 ∷ []) ≡ splice old 0 (ended text)
text_and_zero old text =
    let start : length text ≡ 0 + length text = omega arith in
    ap (λ (k : ℕ). splice (splice old 0 text) k (0 ∷ [])) start ∙ splice-splice old 0 text (0 ∷ []) (omega arith)

-- the bytes of a character, and then the rest of the text
pub one_more : (room all : List ℕ) (at : ℕ) (e more : List ℕ) → splice room at (ended (e ++ more)) ≡ all → at ≤ length room → splice (splice room at e) (at + length e) (ended more) ≡ all
one_more room all at e more h fits = splice-splice room at e (ended more) fits ∙ ap (splice room at) (sym (append_assoc e more (0 ∷ []))) ∙ h

-- the same of the first character of a text, and there is room for what is left
pub next_character : (room all rest : List ℕ) (at c n : ℕ) → utf16_lossy_chars (units rest) ≡ c ∷ utf16_lossy_chars (units (drop n rest)) → splice room at (ended (utf16_text rest)) ≡ all → at + length (utf16_text rest) < length room →
    (splice (splice room at (encode_utf8 c)) (at + length (encode_utf8 c)) (ended (utf16_text (drop n rest))) ≡ all)
    × (at + length (encode_utf8 c) + length (utf16_text (drop n rest)) < length (splice room at (encode_utf8 c)))
    × (at + length (encode_utf8 c) ≤ length room)
next_character room all rest at c n e h fits = grind (arith, more_length, length-splice, more_text, one_more)

-- ---- whether there is room

pub has_room : (text old : List ℕ) → length text < length old → nat_lt (length text) (length old) ≡ true
has_room text old h = grind (arith, nat_tests)

-- a text that is cut where the room ends
pub cut_is : (old text : List ℕ) (count : ℕ) → 0 < length old → count ≡ min (length text) (length old - 1) → splice old 0 (ended (take count text)) ≡ truncated_text old text
cut_is old text count some e = grind (arith, nat_tests, same_lists, places)
