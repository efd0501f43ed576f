use Rattle.std.proofs.Common.{◌≡◌, Bool, true, false, ℕ, List, [], ◌∷◌, ◌++◌, length, map, Option, Some, None, Result, Ok, Err, if◌then◌else◌, ◌==◌, ◌%◌, refl, ap, sym, ◌∙◌, subst}
use Rattle.std.specs.Iterator.{Yields}
use Rattle.pe_core.specs.Refusals.{Refusal, Short, kind_of}
use Rattle.pe_core.specs.declared.error.Error.{Error}
use Rattle.pe_records.specs.declared.debug.ImageDebugDirectory.{ImageDebugDirectory}
use Rattle.pe_records.specs.declared.debug.ImageDebugDirectoryIterator.{ImageDebugDirectoryIterator}
use Rattle.pe_core.specs.Rows.{whole_entries, entry_items}
use Rattle.pe_records.specs.DebugDirectory.{debug_entry_at, debug_entries, ReturnsEntry, debug_bytes_left, fixup_of, debug_item}
use Rattle.pe_records.proofs.EntriesInOrder.{entries_count}
use Rattle.pe_records.proofs.laws.debug.debug_iterators_give_the_entries.Goals as goal

-- Whole runs of an iterator of debug entries.
abbrev Next : ImageDebugDirectoryIterator → Option (Result ImageDebugDirectory Error) → ImageDebugDirectoryIterator → Type 0
Next s r t = ReturnsEntry (fixup_of s) (debug_bytes_left s) r (debug_bytes_left t) × (fixup_of t ≡ fixup_of s)

entries_from_yields : (s t u : ImageDebugDirectoryIterator) (xs : List (Result ImageDebugDirectory Error)) → Yields Next s xs t → Next t None u → map debug_item xs ≡ debug_entries (fixup_of s) (debug_bytes_left s)
entries_from_yields s t u [] y end = sym (subst (λ (r : ImageDebugDirectoryIterator). debug_entries (fixup_of r) (debug_bytes_left r) ≡ []) (sym y) end.0.0)
entries_from_yields s t u (x ∷ xs) y end =
    let j : ImageDebugDirectoryIterator = y.0 in
    ap (λ (zs : List (Result ImageDebugDirectory Refusal)). debug_item x ∷ zs) (entries_from_yields j t u xs y.2 end ∙ ap (λ (f : ℕ). debug_entries f (debug_bytes_left j)) y.1.1) ∙ sym y.1.0

-- nothing stands after an error
after_error : (xs : List ImageDebugDirectory) (whole : Bool) (r : Refusal) (ys : List (Result ImageDebugDirectory Refusal)) → map (λ e. Ok e) xs ++ (if whole then [] else Err Short ∷ []) ≡ Err r ∷ ys → ys ≡ []
after_error [] true r ys h = absurd cc
after_error [] false r ys h = cc
after_error (x ∷ xs) whole r ys h = absurd cc

left_of_refusal : (f : ℕ) (b left : List ℕ) (r : Refusal) → debug_entries f b ≡ Err r ∷ debug_entries f left → debug_entries f left ≡ []
unfolding debug_entries entry_items
left_of_refusal f b left r h = after_error (whole_entries (debug_entry_at f) 28 b) (length b % 28 == 0) r _ h

nothing_more : (f g : ℕ) (b c left : List ℕ) (r : Option (Result ImageDebugDirectory Error)) → debug_entries f b ≡ [] → c ≡ b → g ≡ f → ReturnsEntry g c r left → r ≡ None
nothing_more f g b c left None h e k y = refl
nothing_more f g b c left (Some x) h e k y = absurd cc

over_after_none : (s t u : ImageDebugDirectoryIterator) (r : Option (Result ImageDebugDirectory Error)) → Next s None t → Next t r u → r ≡ None
over_after_none s t u r h k = nothing_more (fixup_of s) (fixup_of t) (debug_bytes_left s) (debug_bytes_left t) (debug_bytes_left u) r h.0.0 h.0.1 h.1 k.0

over_after_refusal : (s t u : ImageDebugDirectoryIterator) (e : Error) (r : Option (Result ImageDebugDirectory Error)) → Next s (Some (Err e)) t → Next t r u → r ≡ None
over_after_refusal s t u e r h k = nothing_more (fixup_of s) (fixup_of t) (debug_bytes_left t) (debug_bytes_left t) (debug_bytes_left u) r (left_of_refusal (fixup_of s) (debug_bytes_left s) (debug_bytes_left t) (kind_of e) h.0) refl h.1 k.0

pub returns : goal.returns
returns c = record {
  items = λ s xs d. entries_from_yields s d.1.0 d.0 xs d.1.1 d.1.2;
  number = entries_count;
  refusal = over_after_refusal;
  none = over_after_none;
}
