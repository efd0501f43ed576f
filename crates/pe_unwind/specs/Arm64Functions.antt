-- The ARM64 function table. (ARM64 exception handling: .pdata records.)
use Rattle.std.specs.Prelude.{ℕ, ◌*◌, ◌+◌, ◌/◌, ◌==◌, Bool, not, List, [], ◌∷◌, Result, length, nat_lt}
use Rattle.pe_core.specs.Bytes.{le}
use Rattle.pe_core.specs.Refusals.{Refusal, FunctionIndex, outcome}
use Rattle.pe_unwind.specs.Arm64Words.{bits}
use Rattle.pe_core.specs.EntriesLeft.{items_left}
use Rattle.pe_core.specs.declared.table_entries.TableEntries.{TableEntries}
use Rattle.pe_core.specs.Rows.{whole_entries, entry_items}
use Rattle.pe_unwind.specs.declared.arm64.function.Arm64RuntimeFunction.{Arm64RuntimeFunction}

-- the entry of 8 bytes at offset p
abbrev pub arm64_function_at : List ℕ → ℕ → Arm64RuntimeFunction
arm64_function_at b p = record {
  begin_address = le b p 4;
  unwind_data = le b (p + 4) 4;
}

-- the unwind data are packed into the entry
abbrev pub is_packed : Arm64RuntimeFunction → Bool
is_packed f = not (bits f.unwind_data 0 2 == 0)

-- the whole entries of a table
unfoldable pub arm64_functions : List ℕ → List Arm64RuntimeFunction
arm64_functions b = whole_entries arm64_function_at 8 b

-- the whole entries, and one `Short` for a truncated last entry
abbrev pub arm64_function_items : List ℕ → List (Result Arm64RuntimeFunction Refusal)
arm64_function_items b = entry_items arm64_function_at 8 b

-- the items that an iterator has left
abbrev pub items_of_arm64_functions : TableEntries Arm64RuntimeFunction → List (Result Arm64RuntimeFunction Refusal)
items_of_arm64_functions s = items_left arm64_function_at 8 s

-- the entry of a table with this index
abbrev pub arm64_function_of : List ℕ → ℕ → Result Arm64RuntimeFunction Refusal
arm64_function_of t i = outcome ((nat_lt i (length t / 8), FunctionIndex) ∷ []) (arm64_function_at t (8 * i))
