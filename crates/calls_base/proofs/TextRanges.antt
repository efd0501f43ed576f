-- A text stands where it is read.
use Rattle.std.proofs.Common.{◌≡◌, ℕ, ◌+◌, ◌-◌, ◌<◌, ◌≤◌, List, length, take, drop, Option, Some, refl, length-drop, length-take-le, arith}
use Rattle.calls_base.proofs.Cited.{◌==◌, position, slice_range, option_and_then, places, same_lists, position-Some, IsRange}
use Rattle.pe_core.specs.Text.{text_at, text_of, text_to_zero}

front_is_range : (b : List ℕ) (p n : ℕ) → n ≤ length (drop p b) → slice_range b p (p + length (take n (drop p b))) ≡ take n (drop p b)
front_is_range b p n h = rw (length-take-le n (drop p b) h) (same_lists _ _ (grind (arith, places)) (λ j d lt. grind (arith, places)))

front_is_inside : (b : List ℕ) (p n : ℕ) → n < length (drop p b) → p + length (take n (drop p b)) ≤ length b
front_is_inside b p n h = let long : length (drop p b) ≡ length b - p = length-drop p b in omega (arith, long, length-take-le n (drop p b) (omega arith))

text_by : (b : List ℕ) (p : ℕ) (name : List ℕ) (at : Option ℕ) → position (λ c. c == 0) (drop p b) ≡ at → option_and_then (λ n. text_of (take n (drop p b))) at ≡ Some name → IsRange b (record { offset = p; length = length name }) name
text_by b p name at found e = grind (arith, position-Some, front_is_inside, front_is_range)

pub text_stands : (b : List ℕ) (p : ℕ) (name : List ℕ) → text_at b p ≡ Some name → IsRange b (record { offset = p; length = length name }) name
unfolding text_to_zero
text_stands b p name e = text_by b p name (position (λ c. c == 0) (drop p b)) refl e
