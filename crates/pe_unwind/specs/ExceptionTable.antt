-- The exception directory of an image. (PE format: the .pdata section.)
use Rattle.std.specs.Prelude.{ℕ, ◌*◌, ◌/◌, ◌%◌, ◌==◌, List, [], ◌∷◌, length, Option, Some, None, Result, Err, if◌then◌else◌, nat_lt}
use Rattle.pe_core.specs.Bytes.{holds, range}
use Rattle.pe_core.specs.Refusals.{Refusal, Short, Unmapped, ExceptionSize, ExceptionOffset, ExceptionBounds, FunctionIndex, outcome}
use Rattle.pe_core.specs.SectionMap.{section_map}
use Rattle.pe_core.specs.declared.byte_range.ByteRange.{ByteRange}
use Rattle.pe_core.specs.declared.data_directories.DataDirectory.{DataDirectory}
use Rattle.pe_core.specs.declared.options.ParseOptions.{ParseOptions}
use Rattle.pe_core.specs.declared.section_table.SectionTable.{SectionTable}
use Rattle.pe_unwind.specs.declared.function_table.RuntimeFunction.{RuntimeFunction}
use Rattle.pe_unwind.specs.FunctionTable.{function_at}

-- what callers see of an exception directory: the bytes of the file, the table's file offset and size, and the file
-- alignment
pub record ExceptionView : Type 0 where
  pub content : List ℕ
  pub start : ℕ
  pub size : ℕ
  pub alignment : ℕ

-- the range of the function table in the file, and its bytes
abbrev pub table_range : ExceptionView → ByteRange
table_range v = record { offset = v.start; length = v.size }

abbrev pub table_of : ExceptionView → List ℕ
table_of v = range v.content v.start v.size

-- a directory of this size at a file offset; without one its RVA is unmapped
abbrev pub exception_at_offset : List ℕ → ℕ → ℕ → Option ℕ → Result ExceptionView Refusal
exception_at_offset b size alignment None = Err Unmapped
exception_at_offset b size alignment (Some p) =
    outcome ((p % 4 == 0, ExceptionOffset) ∷ (holds b p size, ExceptionBounds) ∷ []) (record { content = b; start = p; size = size; alignment = alignment })

-- the exception directory whose entries have this width
unfoldable pub exception_at : ℕ → List ℕ → DataDirectory → List SectionTable → ℕ → ParseOptions → Result ExceptionView Refusal
exception_at width b directory sections alignment opts =
    if directory.size % width == 0
    then exception_at_offset b directory.size alignment (section_map opts sections alignment directory.virtual_address)
    else Err ExceptionSize

-- the exception data whose table is this range of the file
abbrev pub exception_of_table : List ℕ → ByteRange → ℕ → Result ExceptionView Refusal
exception_of_table b table alignment =
    outcome ((holds b table.offset table.length, Short) ∷ []) (record { content = b; start = table.offset; size = table.length; alignment = alignment })

-- the entry of a table with this index
abbrev pub function_of : List ℕ → ℕ → Result RuntimeFunction Refusal
function_of t i = outcome ((nat_lt i (length t / 12), FunctionIndex) ∷ []) (function_at t (12 * i))
