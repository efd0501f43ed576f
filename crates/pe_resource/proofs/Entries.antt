-- Entries from the front.
use Rattle.std.proofs.Common.{◌≡◌, ℕ, ◌/◌, ◌<◌, ◌≤◌, List, [], ◌∷◌, length, map, drop, None, sym, subst, arith}
use Rattle.pe_resource.proofs.Cited.{Yields, YieldsFirstBy, entry_at, entries}
use Rattle.pe_core.proofs.EntryItems.{whole_entries_more, whole_entries_none, count_of_whole_entries}
use Rattle.pe_resource.specs.EntriesAfter.{entries_after}

-- one entry and those after it
pub entries_more : (b : List ℕ) → 8 ≤ length b → entries b ≡ entry_at b 0 ∷ entries (drop 8 b)
unfolding entries
entries_more b h = whole_entries_more entry_at 8 b entries_after (omega arith) h

pub entries_none : (b : List ℕ) → length b < 8 → entries b ≡ []
unfolding entries
entries_none b h = whole_entries_none entry_at 8 b h

pub entries_count : (b : List ℕ) → length (entries b) ≡ length b / 8
unfolding entries
entries_count b = count_of_whole_entries entry_at 8 b

pub entries_empty : entries [] ≡ []
entries_empty = entries_none [] (omega arith)

-- ---- what an iterator returns

pub list_from_yields : {S A B : Type 0} (view : A → B) (rest : S → List B) (s t u : S) (xs : List A) → Yields (YieldsFirstBy view rest) s xs t → YieldsFirstBy view rest t None u → map view xs ≡ rest s
list_from_yields {S} view rest s t u [] y end = sym (subst (λ (r : S). rest r ≡ []) (sym y) end.0)
list_from_yields {S} {A} {B} view rest s t u (x ∷ xs) y end = grind (arith, list_from_yields view rest y.0 t u xs y.2 end)
