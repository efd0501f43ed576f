-- The units of a key.
use Rattle.std.proofs.Common.{◌≡◌, ℕ, ◌+◌, ◌*◌, ◌<◌, ◌≤◌, ◌≢◌, List, ◌∷◌, length, length-drop, add-zero, drop, get_or, ap, ◌∙◌, arith}
use Rattle.pe_resource.proofs.Cited.{nat_tests, drop_more, le, units, before_zero, key_length}

-- how many units stand before the first zero unit
abbrev front : List ℕ → ℕ
front b = length (before_zero (units b))

two_more : (b : List ℕ) (e : ℕ) → e + 1 < length b → drop e b ≡ get_or b e 0 ∷ get_or b (e + 1) 0 ∷ drop (e + 1 + 1) b
two_more b e h = drop_more b e 0 (omega arith) ∙ ap (λ (r : List ℕ). get_or b e 0 ∷ r) (drop_more b (e + 1) 0 h)

pub le_two : (b : List ℕ) (e : ℕ) → le b e 2 ≡ get_or b e 0 + 256 * get_or b (e + 1) 0
unfolding le
le_two b e = simp add-zero (omega arith)

pub key_more : (b : List ℕ) (e : ℕ) → e + 1 < length b → le b e 2 ≢ 0 → key_length b e ≡ 2 + key_length b (e + 2)
key_more b e h ne = grind (arith, le_two, nat_tests, two_more)

-- and ends at a unit that is 0
pub key_end : (b : List ℕ) (e : ℕ) → e + 1 < length b → le b e 2 ≡ 0 → key_length b e ≡ 0
key_end b e h z = grind (arith, le_two, nat_tests, two_more)

at_most_one : (xs : List ℕ) → length xs ≤ 1 → front xs ≡ 0
at_most_one xs h = grind arith

-- or at the end of the bytes
pub key_none : (b : List ℕ) (e : ℕ) → length b ≤ e + 1 → key_length b e ≡ 0
key_none b e h = let none : front (drop e b) ≡ 0 = at_most_one (drop e b) (grind (arith, length-drop {A = ℕ})) in omega (arith, none)
