-- Functions by index are those of the table.
use Rattle.std.proofs.Common.{[], ◌≡◌, ℕ, ◌*◌, ◌/◌, ◌<◌, Bool, true, false, List, ◌∷◌, length, Ok, refl, arith}
use Rattle.calls_unwind.proofs.Cited.{nat_lt, nat_tests, FunctionIndex, outcome, arm64_function_in, bytes_at, function_in, Range}
use Rattle.std.proofs.lemmas.Option.{slice_get-get_or, slice_get_past}
use Rattle.pe_core.proofs.EntryItems.{get_or-whole_entries, count_of_whole_entries}
use Rattle.pe_core.specs.Rows.{whole_entries}
use Rattle.pe_unwind.specs.Arm64Functions.{arm64_function_at, arm64_functions}
use Rattle.pe_unwind.specs.FunctionTable.{function_at, functions}
use Rattle.calls_base.specs.Walks.{indexed}

by_test : {X : Type 0} (entry_at : List ℕ → ℕ → X) (w : ℕ) (t : List ℕ) (i : ℕ) (inside : Bool) → nat_lt i (length t / w) ≡ inside →
    outcome ((inside, FunctionIndex) ∷ []) (entry_at t (w * i)) ≡ indexed (whole_entries entry_at w t) i
by_test {X} entry_at w t i true e =
    let less : i < length t / w = grind (arith, nat_tests) in
    grind (arith, count_of_whole_entries, slice_get-get_or, get_or-whole_entries entry_at w t i (entry_at t (w * i)) less)
by_test entry_at w t i false e = grind (arith, nat_tests, count_of_whole_entries, slice_get_past)

pub functions_by_index : (b : List ℕ) (table : Range) (t : List ℕ) (i : ℕ) → bytes_at b table ≡ Ok t → function_in b table i ≡ indexed (functions t) i
unfolding functions
functions_by_index b table t i e = rw e (by_test function_at 12 t i (nat_lt i (length t / 12)) refl)

pub arm64_functions_by_index : (b : List ℕ) (table : Range) (t : List ℕ) (i : ℕ) → bytes_at b table ≡ Ok t → arm64_function_in b table i ≡ indexed (arm64_functions t) i
unfolding arm64_functions
arm64_functions_by_index b table t i e = rw e (by_test arm64_function_at 8 t i (nat_lt i (length t / 8)) refl)
