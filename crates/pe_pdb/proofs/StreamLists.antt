-- The starts of the lists of blocks.
use Rattle.std.proofs.Common.{◌≡◌, ℕ, suc, ◌+◌, ◌<◌, ◌++◌, List, length, drop, get_or, slice_set, refl, ap, ◌∙◌, arith}
use Rattle.std.proofs.lemmas.List.{places, same_lists, get_or-set_same, get_or-set_other}
use Rattle.pe_core.specs.Rows.{each}
use Rattle.pe_core.proofs.EntryItems.{get_or-each, length-each}
use Rattle.pe_pdb.specs.Msf.{MsfView}
use Rattle.pe_pdb.specs.Streams.{blocks_of, list_start, streams}

pub start_none : (m : MsfView) → list_start m 0 ≡ 1 + streams m
start_none m = unfold list_start in refl

pub start_next : (m : MsfView) (i : ℕ) → list_start m (i + 1) ≡ list_start m i + blocks_of m i
start_next m i =
    let one : i + 1 ≡ suc i = omega arith in
    ap (list_start m) one ∙ unfold list_start in refl

-- one more number of a room is written
pub one_more_start : (f : ℕ → ℕ) (room : List ℕ) (i x : ℕ) → i < length room → x ≡ f i → ((k : ℕ) → k < i → get_or room k 0 ≡ f k) → (k : ℕ) → k < i + 1 → get_or (slice_set room i x) k 0 ≡ f k
one_more_start f room i x lt is before k e = grind (arith, get_or-set_other, get_or-set_same)

-- a room with numbers at its start
pub room_of_starts : (f : ℕ → ℕ) (n : ℕ) (old starts rest : List ℕ) → length starts ≡ n → ((k : ℕ) → k < n → get_or starts k 0 ≡ f k) → rest ≡ drop n old → starts ++ rest ≡ each f n ++ drop n old
room_of_starts f n old starts rest len same e = grind (arith, length-each, same_lists, get_or-each, places)
