-- Ranges of bytes have the length that they say.
use Rattle.std.proofs.Common.{◌≡◌, ℕ, ◌+◌, ◌-◌, ◌<◌, ◌≤◌, true, List, length, get_or, drop, arith}
use Rattle.std.proofs.lemmas.Bool.Decides.{nat_tests}
use Rattle.std.proofs.lemmas.List.{places, same_lists}
use Rattle.pe_core.specs.Bytes.{holds, range}

pub length_range : (b : List ℕ) (p n : ℕ) → p + n ≤ length b → length (range b p n) ≡ n
length_range b p n h = grind (arith, places)

-- the rest of a range is a range
pub rest_of_range : (b : List ℕ) (p n k : ℕ) → p + n ≤ length b → k ≤ n → range b (p + k) (n - k) ≡ drop k (range b p n)
rest_of_range b p n k h i = same_lists _ _ (grind (arith, places)) (λ j d lt. grind (arith, places))

pub range_in_range : (b : List ℕ) (p n q m : ℕ) → p + n ≤ length b → q + m ≤ n → range b (p + q) m ≡ range (range b p n) q m
range_in_range b p n q m h i = same_lists _ _ (grind (arith, places)) (λ j d lt. grind (arith, places))

pub byte_of_range : (b : List ℕ) (p n k : ℕ) → k < n → get_or b (p + k) 0 ≡ get_or (range b p n) k 0
byte_of_range b p n k h = grind (arith, places)

pub inside_if_held : (b : List ℕ) (p n : ℕ) → holds b p n ≡ true → p + n ≤ length b
inside_if_held b p n e = grind (arith, nat_tests)

pub held_if_inside : (b : List ℕ) (p n : ℕ) → p + n ≤ length b → holds b p n ≡ true
held_if_inside b p n h = grind (arith, nat_tests)
