-- The entries of a table, from the front.
use Rattle.std.proofs.Common.{◌≡◌, ℕ, ◌+◌, ◌*◌, ◌/◌, ◌<◌, ◌≤◌, List, [], ◌∷◌, length, map, drop, Ok, Err, sym, arith}
use Rattle.std.specs.List.{range_with_len}
use Rattle.pe_core.specs.Rows.{ReadsAfter}
use Rattle.pe_core.proofs.EntryItems.{le_after, each_as_map, entry_items_more, entry_items_none, entry_items_cut, length-entry_items}
use Rattle.pe_core.specs.Refusals.{Short}
use Rattle.pe_records.specs.DebugDirectory.{debug_entry_at, debug_entries, whole_debug_entries, debug_entry_count}

pub whole_as_map : (f : ℕ) (b : List ℕ) → whole_debug_entries f b ≡ map (λ i. debug_entry_at f b (28 * i)) (range_with_len 0 (length b / 28))
unfolding whole_debug_entries
whole_as_map f b = sym (each_as_map (λ i. debug_entry_at f b (28 * i)) (length b / 28))

entry_after : (f : ℕ) → ReadsAfter (debug_entry_at f) 28
unfolding debug_entry_at
entry_after f b p q e =
    simp (le_after b 28 p q 4 e, le_after b 28 (p + 4) (q + 4) 4 (omega arith), le_after b 28 (p + 8) (q + 8) 2 (omega arith), le_after b 28 (p + 10) (q + 10) 2 (omega arith), le_after b 28 (p + 12) (q + 12) 4 (omega arith), le_after b 28 (p + 16) (q + 16) 4 (omega arith), le_after b 28 (p + 20) (q + 20) 4 (omega arith), le_after b 28 (p + 24) (q + 24) 4 (omega arith))

-- one entry and those after it
pub entries_more : (f : ℕ) (b : List ℕ) → 28 ≤ length b → debug_entries f b ≡ Ok (debug_entry_at f b 0) ∷ debug_entries f (drop 28 b)
unfolding debug_entries
entries_more f b h = entry_items_more (debug_entry_at f) 28 b (entry_after f) (omega arith) h

pub entries_none : (f : ℕ) (b : List ℕ) → length b ≡ 0 → debug_entries f b ≡ []
unfolding debug_entries
entries_none f b e = entry_items_none (debug_entry_at f) 28 b (omega arith) e

-- a truncated entry and nothing after it
pub entries_truncated : (f : ℕ) (b left : List ℕ) → 0 < length b → length b < 28 → length left ≡ 0 → debug_entries f b ≡ Err Short ∷ debug_entries f left
unfolding debug_entries
entries_truncated f b left some cut e = entry_items_cut (debug_entry_at f) 28 b left some cut e

pub entries_count : (f : ℕ) (b : List ℕ) → length (debug_entries f b) ≡ debug_entry_count b
unfolding debug_entries
entries_count f b = omega (arith, length-entry_items (debug_entry_at f) 28 b)
