-- The lines of `at FILE HEXRVA --chain`: the function that covers an RVA, and its unwind records up to the root of
-- their chain.
use Rattle.std.specs.Prelude.{◌≡◌, ◌⊎◌, ℕ, ◌++◌, List, [], Option, Some, None, Result, Ok, Err, IsOk, Vec, codes}
use Rattle.std.specs.List.{flat_map}
use Rattle.std.specs.Fmt.{decimal}
use Rattle.pe_core.specs.Options.{default_options}
use Rattle.pe_core.specs.Refusals.{Refusal, UnlessMemory, IfMemory, kind_of}
use Rattle.pe_core.specs.declared.error.Error.{Error}
use Rattle.pe_core.specs.declared.section_table.SectionTable.{SectionTable}
use Rattle.pe_image.specs.Core.{sections_read}
use Rattle.pe_image.specs.Image.{ImageView, IsImage, exceptions_on}
use Rattle.pe_plan.specs.Plans.{PlansFrom}
use Rattle.pe_unwind.specs.ExceptionTable.{ExceptionView}
use Rattle.pe_unwind.specs.FunctionTable.{Finds}
use Rattle.pe_unwind.specs.Links.{links_of}
use Rattle.pe_unwind.specs.UnwindRecord.{UnwindInfoView, HandlerView, Exception, Termination}
use Rattle.pe_unwind.specs.declared.function_table.RuntimeFunction.{RuntimeFunction}
use Rattle.peinfo.specs.Find.{functions_of, found_line}
use Rattle.pe_core.specs.declared.header.TheConstants.{COFF_MACHINE_X86_64}

-- a space, and a number in decimal
unfoldable pub number_text : ℕ → List ℕ
number_text n = codes " " ++ decimal n

-- the version of a record, the length of its prolog, and its frame register with the offset
unfoldable pub numbers_text : UnwindInfoView → List ℕ
numbers_text i = number_text i.version ++ number_text i.size_of_prolog ++ number_text i.frame_register.0 ++ number_text i.frame_register_offset

-- the end of its line: a word for what follows its codes, by its chained function and its handler
abbrev pub record_line_end : Option RuntimeFunction → Option HandlerView → List ℕ
record_line_end (Some f) handler = codes " chained\n"
record_line_end None (Some (Exception address bytes)) = codes " exception\n"
record_line_end None (Some (Termination address bytes)) = codes " termination\n"
record_line_end None None = codes " plain\n"

-- the line of a record
unfoldable pub record_line : UnwindInfoView → List ℕ
record_line i = codes "record" ++ numbers_text i ++ record_line_end i.chained_info i.handler

-- a line for each record
abbrev pub record_lines : List UnwindInfoView → List ℕ
record_lines records = flat_map record_line records

-- the result of the plan of a function, if lookup found one; without a function there are no records
abbrev pub PlansRecords : Option ExceptionView → List SectionTable → Option RuntimeFunction → Result (List UnwindInfoView) Refusal → Type 0
PlansRecords (Some v) sections (Some f) answer = PlansFrom (links_of v sections default_options) v.content f answer
PlansRecords (Some v) sections None answer = answer ≡ Ok []
PlansRecords None sections found answer = answer ≡ Ok []

-- the result of the plan of the function that lookup finds in the image, which is read in strict mode
pub record IsPlanned (b : List ℕ) (address : ℕ) (found : Option RuntimeFunction) (answer : Result (List UnwindInfoView) Refusal) : Type 0 where
  pub image : ImageView
  pub given : IsImage b default_options (Ok image)
  pub finds : Finds (functions_of (exceptions_on COFF_MACHINE_X86_64 image)) address found
  pub plan : PlansRecords image.exception_data image.sections found answer

-- the line of that function, and those of its records
pub record IsPlanText (b : List ℕ) (address : ℕ) (text : List ℕ) : Type 0 where
  pub found : Option RuntimeFunction
  pub records : List UnwindInfoView
  pub planned : IsPlanned b address found (Ok records)
  pub shown : text ≡ found_line found ++ record_lines records

-- the refusal of the image, or else of the plan; or `Memory`: an allocation can fail only once the headers and the
-- section headers are read
abbrev pub IsPlanRefusal : List ℕ → ℕ → Error → Type 0
IsPlanRefusal b address e =
    UnlessMemory e (IsImage b default_options (Err (kind_of e)) ⊎ ((found : Option RuntimeFunction) × IsPlanned b address found (Err (kind_of e))))
    × IfMemory e (IsOk (sections_read b default_options))

-- the result of making that text of an image
abbrev pub ReturnsPlanText : {Z : Type 0} → List ℕ → ℕ → Result (Vec ℕ Z) Error → Type 0
ReturnsPlanText b address (Ok text) = IsPlanText b address text.items
ReturnsPlanText b address (Err e) = IsPlanRefusal b address e
