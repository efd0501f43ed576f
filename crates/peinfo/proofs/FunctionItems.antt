-- The lines of the functions that are left.
use Rattle.std.proofs.Common.{◌≡◌, ℕ, ◌%◌, Bool, true, false, cond, List, [], ◌∷◌, ◌++◌, Result, Ok, Err, map, refl, ap, sym, ◌∙◌, append_assoc, length}
use Rattle.std.specs.Prelude.{◌==◌}
use Rattle.std.proofs.lemmas.List.{append-nil}
use Rattle.std.specs.List.{flat_map}
use Rattle.pe_core.specs.Refusals.{Refusal, Short}
use Rattle.pe_core.specs.Rows.{entry_items}
use Rattle.pe_unwind.specs.Arm64Functions.{arm64_functions, arm64_function_items}
use Rattle.pe_unwind.specs.FunctionTable.{functions, function_items}
use Rattle.peinfo.specs.FunctionLines.{function_line, function64_line, item_line, item_lines}

-- one line more
pub one_more : {X : Type 0} (line : X → List ℕ) (text after all : List ℕ) (xs ys : List (Result X Refusal)) (item : Result X Refusal) → text ++ item_lines line xs ≡ all → xs ≡ item ∷ ys → after ≡ text ++ item_line line item → after ++ item_lines line ys ≡ all
one_more {X} line text after all xs ys item before first is =
    ap (λ (x : List ℕ). x ++ item_lines line ys) is
    ∙ append_assoc text (item_line line item) (item_lines line ys)
    ∙ ap (λ (zs : List (Result X Refusal)). text ++ item_lines line zs) (sym first)
    ∙ before

-- no line more
pub no_more : {X : Type 0} (line : X → List ℕ) (text all : List ℕ) (xs : List (Result X Refusal)) → text ++ item_lines line xs ≡ all → xs ≡ [] → text ≡ all
no_more {X} line text all xs before none =
    sym (append-nil text) ∙ ap (λ (zs : List (Result X Refusal)). text ++ item_lines line zs) (sym none) ∙ before

-- what stands after the whole entries has no line
lines_of_whole : {X : Type 0} (line : X → List ℕ) (fs : List X) (rest : List (Result X Refusal)) → item_lines line rest ≡ [] → item_lines line (map (λ f. Ok f) fs ++ rest) ≡ flat_map line fs
lines_of_whole line [] rest none = none
lines_of_whole line (f ∷ fs) rest none = ap (λ (x : List ℕ). line f ++ x) (lines_of_whole line fs rest none)

no_lines : {X : Type 0} (line : X → List ℕ) (whole : Bool) → item_lines line (cond whole [] (Err Short ∷ [])) ≡ []
no_lines line true = refl
no_lines line false = refl

pub whole_items : (b : List ℕ) → item_lines function_line (function_items b) ≡ flat_map function_line (functions b)
unfolding entry_items functions
whole_items b = lines_of_whole function_line (functions b) (cond (length b % 12 == 0) [] (Err Short ∷ [])) (no_lines function_line (length b % 12 == 0))

pub whole_items_64 : (b : List ℕ) → item_lines function64_line (arm64_function_items b) ≡ flat_map function64_line (arm64_functions b)
unfolding entry_items arm64_functions
whole_items_64 b = lines_of_whole function64_line (arm64_functions b) (cond (length b % 8 == 0) [] (Err Short ∷ [])) (no_lines function64_line (length b % 8 == 0))
