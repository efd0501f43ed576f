-- The `function` and `function64` lines.
use Rattle.std.specs.Prelude.{ℕ, ◌++◌, List, [], length, Option, Some, None, Result, Ok, Err, codes}
use Rattle.std.specs.List.{flat_map}
use Rattle.pe_core.specs.Refusals.{Refusal}
use Rattle.pe_image.specs.Image.{ImageView, exceptions_on}
use Rattle.pe_unwind.specs.Arm64Functions.{arm64_functions}
use Rattle.pe_unwind.specs.ExceptionTable.{ExceptionView, table_of}
use Rattle.pe_unwind.specs.FunctionTable.{functions}
use Rattle.pe_unwind.specs.declared.arm64.function.Arm64RuntimeFunction.{Arm64RuntimeFunction}
use Rattle.pe_unwind.specs.declared.function_table.RuntimeFunction.{RuntimeFunction}
use Rattle.peinfo.specs.Hex.{hex}
use Rattle.pe_core.specs.declared.header.TheConstants.{COFF_MACHINE_ARM64}

-- the line of an x64 entry: its start, its end and its unwind RVA
unfoldable pub function_line : RuntimeFunction → List ℕ
function_line f =
    codes "function " ++ hex 8 f.begin_address ++ codes " " ++ hex 8 f.end_address ++ codes " " ++ hex 8 f.unwind_info_address ++ codes "\n"

-- the line of an ARM64 entry, whose length is in its unwind data
unfoldable pub function64_line : Arm64RuntimeFunction → List ℕ
function64_line f =
    codes "function64 " ++ hex 8 f.begin_address ++ codes " " ++ hex 8 f.unwind_data ++ codes "\n"

-- a line for each whole entry of the table: of an ARM64 table, or else of any other
abbrev pub lines_of : Option ExceptionView → Option ExceptionView → List ℕ
lines_of (Some arm64) any = flat_map function64_line (arm64_functions (table_of arm64))
lines_of None (Some exceptions) = flat_map function_line (functions (table_of exceptions))
lines_of None None = []

-- the lines of the exception data of an image
abbrev pub function_lines : ImageView → List ℕ
function_lines image = lines_of (exceptions_on COFF_MACHINE_ARM64 image) image.exception_data

-- the count of these lines
abbrev pub count_of : Option ExceptionView → Option ExceptionView → ℕ
count_of (Some arm64) any = length (arm64_functions (table_of arm64))
count_of None (Some exceptions) = length (functions (table_of exceptions))
count_of None None = 0

abbrev pub function_count : ImageView → ℕ
function_count image = count_of (exceptions_on COFF_MACHINE_ARM64 image) image.exception_data

-- the lines of an iterator's items; a truncated entry has none
abbrev pub item_line : {X : Type 0} → (X → List ℕ) → Result X Refusal → List ℕ
item_line line (Ok f) = line f
item_line line (Err refusal) = []

abbrev pub item_lines : {X : Type 0} → (X → List ℕ) → List (Result X Refusal) → List ℕ
item_lines line items = flat_map (item_line line) items
