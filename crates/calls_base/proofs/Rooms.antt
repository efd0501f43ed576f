-- A room that is filled from its beginning.
use Rattle.std.proofs.Common.{◌≡◌, ℕ, ◌+◌, Bool, true, List, [], ◌++◌, length, take, drop, slice_set, Ok, arith}
use Rattle.calls_base.proofs.Cited.{nat_le, nat_tests, drop-set-lt, take-append-drop, drop_more_same, SectionTable, PutsIf, PutsSectionsAt}
use Rattle.pe_core.specs.Rows.{each}

pub kept_more : {X : Type 0} (xs ys : List X) (i : ℕ) (y : X) → drop i xs ≡ drop i ys → drop (i + 1) (slice_set xs i y) ≡ drop (i + 1) ys
kept_more xs ys i y e = rw (drop-set-lt (i + 1) xs i y (omega arith)) (drop_more_same xs ys i e)

pub joined : {X : Type 0} (xs front back : List X) (n : ℕ) → take n xs ≡ front → drop n xs ≡ back → xs ≡ front ++ back
joined xs front back n e f = let whole : take n xs ++ drop n xs ≡ xs = take-append-drop n xs in cc

-- no sections leave the room as it was
pub by_room : (fits : Bool) (room : List SectionTable) → fits ≡ true → PutsIf fits 0 room room (Ok [])
by_room fits room e = grind arith

pub no_sections : (b : List ℕ) (offset count : ℕ) (room : List SectionTable) → count ≡ 0 → PutsSectionsAt b offset count 0 room room
unfolding each
no_sections b offset count room e = rw e (by_room (nat_le 0 (length room)) room (grind (arith, nat_tests)))
