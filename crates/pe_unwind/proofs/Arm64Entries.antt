-- How many entries an ARM64 function table has.
use Rattle.std.proofs.Common.{◌≡◌, ℕ, ◌/◌, List, length}
use Rattle.pe_unwind.specs.Arm64Functions.{arm64_function_at, arm64_functions}
use Rattle.pe_core.proofs.EntryItems.{count_of_whole_entries}

-- the whole entries alone
pub whole_count : (b : List ℕ) → length (arm64_functions b) ≡ length b / 8
unfolding arm64_functions
whole_count b = count_of_whole_entries arm64_function_at 8 b
