-- The line of `at`: the function that covers an RVA.
use Rattle.std.specs.Prelude.{◌≡◌, ℕ, List, [], Option, Some, None, Result, Ok, Err, IsOk, Vec, codes}
use Rattle.pe_core.specs.Options.{default_options}
use Rattle.pe_core.specs.Refusals.{UnlessMemory, IfMemory, kind_of}
use Rattle.pe_core.specs.declared.error.Error.{Error}
use Rattle.pe_image.specs.Core.{sections_read}
use Rattle.pe_image.specs.Image.{ImageView, IsImage, exceptions_on}
use Rattle.pe_unwind.specs.ExceptionTable.{ExceptionView, table_of}
use Rattle.pe_unwind.specs.FunctionTable.{functions, Finds}
use Rattle.pe_unwind.specs.declared.function_table.RuntimeFunction.{RuntimeFunction}
use Rattle.peinfo.specs.FunctionLines.{function_line}
use Rattle.pe_core.specs.declared.header.TheConstants.{COFF_MACHINE_X86_64}

-- the functions of x64 exception data: none without any
abbrev pub functions_of : Option ExceptionView → List RuntimeFunction
functions_of None = []
functions_of (Some exceptions) = functions (table_of exceptions)

-- the line of a function that is found, or `none`
abbrev pub found_line : Option RuntimeFunction → List ℕ
found_line None = codes "none\n"
found_line (Some f) = function_line f

-- the line of the function that lookup finds in the image, which is read in strict mode
pub record IsFindText (b : List ℕ) (address : ℕ) (text : List ℕ) : Type 0 where
  pub image : ImageView
  pub given : IsImage b default_options (Ok image)
  pub found : Option RuntimeFunction
  pub finds : Finds (functions_of (exceptions_on COFF_MACHINE_X86_64 image)) address found
  pub shown : text ≡ found_line found

-- the refusal of the image, or `Memory`: an allocation can fail only once the headers and the section headers are read
abbrev pub IsFindRefusal : List ℕ → Error → Type 0
IsFindRefusal b e = UnlessMemory e (IsImage b default_options (Err (kind_of e))) × IfMemory e (IsOk (sections_read b default_options))

-- the result of making that text of an image
abbrev pub ReturnsFindText : {Z : Type 0} → List ℕ → ℕ → Result (Vec ℕ Z) Error → Type 0
ReturnsFindText b address (Ok text) = IsFindText b address text.items
ReturnsFindText b address (Err e) = IsFindRefusal b e
