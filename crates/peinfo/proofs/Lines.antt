-- The lines of the entries that are left.
use Rattle.std.proofs.Common.{◌≡◌, ℕ, List, [], ◌∷◌, ◌++◌, Result, ap, sym, ◌∙◌, append_assoc}
use Rattle.std.proofs.lemmas.List.{append-nil}
use Rattle.std.specs.List.{flat_map}
use Rattle.pe_core.specs.Refusals.{Refusal}
use Rattle.pe_records.specs.DebugDirectory.{debug_entries}
use Rattle.pe_records.specs.declared.debug.ImageDebugDirectory.{ImageDebugDirectory}
use Rattle.peinfo.specs.DebugEntries.{debug_item_line, entry_lines}

-- one line more
pub one_more : (text after all : List ℕ) (f g : ℕ) (b c : List ℕ) (item : Result ImageDebugDirectory Refusal) → text ++ entry_lines f b ≡ all → debug_entries f b ≡ item ∷ debug_entries f c → g ≡ f → after ≡ text ++ debug_item_line item → after ++ entry_lines g c ≡ all
one_more text after all f g b c item before first same is =
    ap (λ (x : List ℕ). x ++ entry_lines g c) is
    ∙ ap (λ (k : ℕ). (text ++ debug_item_line item) ++ entry_lines k c) same
    ∙ append_assoc text (debug_item_line item) (entry_lines f c)
    ∙ ap (λ (xs : List (Result ImageDebugDirectory Refusal)). text ++ flat_map debug_item_line xs) (sym first)
    ∙ before

-- no line more
pub no_more : (text all : List ℕ) (f : ℕ) (b : List ℕ) → text ++ entry_lines f b ≡ all → debug_entries f b ≡ [] → text ≡ all
no_more text all f b before none =
    sym (append-nil text) ∙ ap (λ (xs : List (Result ImageDebugDirectory Refusal)). text ++ flat_map debug_item_line xs) (sym none) ∙ before
