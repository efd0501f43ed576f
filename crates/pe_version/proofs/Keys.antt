-- The code units of a key, one more at a time.
use Rattle.std.proofs.Common.{◌≡◌, ℕ, ◌+◌, ◌-◌, ◌<◌, ◌≤◌, ◌≢◌, ◌==◌, ◌&&◌, Bool, true, false, List, length, drop, ap, sym, ◌∙◌, arith, length-drop}
use Rattle.pe_version.proofs.Cited.{not, list_all, nat_tests, le, units}
use Rattle.pe_edit.proofs.Units.{short, units_at}

abbrev pub all_some : List ℕ → Bool
all_some us = list_all (λ u. not (u == 0)) us

unit_at : (b : List ℕ) (p : ℕ) → p + 2 ≤ length b → all_some (units (drop p b)) ≡ (not (le b p 2 == 0) && all_some (units (drop (p + 2) b)))
unit_at b p h = ap all_some (units_at b p h)

pub more_units : (b : List ℕ) (p : ℕ) → p + 2 ≤ length b → le b p 2 ≢ 0 → all_some (units (drop p b)) ≡ all_some (units b) → all_some (units (drop (p + 2) b)) ≡ all_some (units b)
more_units b p h other e = grind (arith, nat_tests, unit_at)

pub unit_is_zero : (b : List ℕ) (p : ℕ) → p + 2 ≤ length b → le b p 2 ≡ 0 → all_some (units (drop p b)) ≡ all_some (units b) → all_some (units b) ≡ false
unit_is_zero b p h is e = grind (arith, nat_tests, unit_at)

pub all_units : (b : List ℕ) (p : ℕ) → p ≤ length b → length b - p < 2 → all_some (units (drop p b)) ≡ all_some (units b) → all_some (units b) ≡ true
all_units b p h i e = sym e ∙ ap all_some (short (drop p b) (omega (arith, length-drop p b, i)))
