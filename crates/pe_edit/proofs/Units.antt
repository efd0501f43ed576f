-- The first code unit of two texts decides, or those after it.
use Rattle.std.proofs.Common.{◌≡◌, ℕ, ◌+◌, ◌-◌, ◌<◌, ◌≤◌, ◌==◌, Bool, true, false, List, [], ◌∷◌, length, drop, arith, length-drop, if◌then◌else◌}
use Rattle.pe_edit.proofs.Cited.{nat_le, nat_lt, nat_tests, drop-drop, le, units, units_before}
use Rattle.pe_core.proofs.EntryItems.{le_after}

pub front : (b : List ℕ) → 2 ≤ length b → units b ≡ le b 0 2 ∷ units (drop 2 b)
unfolding le
front b h = grind arith

pub short : (b : List ℕ) → length b < 2 → units b ≡ []
short b h = grind arith

-- the code unit at an offset, and those after it
pub units_at : (b : List ℕ) (i : ℕ) → i + 2 ≤ length b → units (drop i b) ≡ le b i 2 ∷ units (drop (i + 2) b)
units_at b i h = simp (front (drop i b) (omega (arith, h, length-drop i b)), le_after b i 0 i 2 (omega arith), drop-drop 2 i b)

units_end : (b : List ℕ) (i : ℕ) → length b < i + 2 → units (drop i b) ≡ []
units_end b i h = short (drop i b) (omega (arith, h, length-drop i b))

both_at : (b c : List ℕ) (i : ℕ) → i + 2 ≤ length b → i + 2 ≤ length c →
    units_before (units (drop i b)) (units (drop i c)) ≡ (if le b i 2 == le c i 2 then units_before (units (drop (i + 2) b)) (units (drop (i + 2) c)) else nat_lt (le b i 2) (le c i 2))
both_at b c i h j = grind (arith, units_at)

-- the first code units differ
pub units_differ : (b c : List ℕ) (i own other : ℕ) (all : Bool) → i + 2 ≤ length b → i + 2 ≤ length c → own ≡ le b i 2 → other ≡ le c i 2 → (own == other) ≡ false → units_before (units (drop i b)) (units (drop i c)) ≡ all → nat_lt own other ≡ all
units_differ b c i own other all h j e f differ k = grind (arith, both_at)

-- they are equal
pub units_equal : (b c : List ℕ) (i own other : ℕ) (all : Bool) → i + 2 ≤ length b → i + 2 ≤ length c → own ≡ le b i 2 → other ≡ le c i 2 → (own == other) ≡ true → units_before (units (drop i b)) (units (drop i c)) ≡ all →
    units_before (units (drop (i + 2) b)) (units (drop (i + 2) c)) ≡ all
units_equal b c i own other all h j e f equal k = grind (arith, both_at)

pub second_ends : (b c : List ℕ) (i : ℕ) (all : Bool) → i + 2 ≤ length b → length c < i + 2 → units_before (units (drop i b)) (units (drop i c)) ≡ all → false ≡ all
second_ends b c i all h j k = grind (arith, units_at, units_end)

-- the first text has ended: the result is whether the second has not
pub first_test : (b c : List ℕ) (i : ℕ) (all : Bool) → length b < i + 2 → i ≤ length c → units_before (units (drop i b)) (units (drop i c)) ≡ all → nat_le 2 (length c - i) ≡ all
first_test b c i all h j k = grind (arith, nat_tests, units_end, units_at)
