-- A step of a stack walk by the records of a function of an image.
use Rattle.std.specs.Prelude.{ℕ, List, Option, Some, None, Result, Ok, Err, Bool}
use Rattle.pe_core.specs.Refusals.{Refusal}
use Rattle.pe_unwind.specs.ExceptionTable.{ExceptionView}
use Rattle.pe_unwind.specs.Links.{links_with}
use Rattle.pe_unwind.specs.UnwindRecord.{UnwindInfoView}
use Rattle.pe_unwind.specs.declared.function_table.RuntimeFunction.{RuntimeFunction}
use Rattle.pe_plan.specs.ShortPlans.{PlansShort, PlansUpTo}
use Rattle.pe_frame.specs.Jumps.{StepsInImage}
use Rattle.pe_frame.specs.declared.error.FrameError.{FrameError}
use Rattle.pe_frame.specs.declared.registers.Registers.{Registers}

-- What a step from an RVA in a function returns, by its code from there on: a step in the image by the function's short plan. None
-- where too many records are chained, and a refusal where one of them cannot be read.
abbrev pub StepsInFunction : ExceptionView → (ℕ → Option ℕ) → (ℕ → Option ℕ) → RuntimeFunction → ℕ → List ℕ → Registers → Result (Option (Result (Registers × Bool) FrameError)) Refusal → Type 0
StepsInFunction e rva_map m f rva code g (Err refusal) = PlansShort (links_with e rva_map) e.content f (Err refusal)
StepsInFunction e rva_map m f rva code g (Ok None) = PlansShort (links_with e rva_map) e.content f (Ok None)
StepsInFunction e rva_map m f rva code g (Ok (Some left)) =
    (plan : List UnwindInfoView) × PlansShort (links_with e rva_map) e.content f (Ok (Some plan))
    × StepsInImage e rva_map m plan f.begin_address rva code g left

-- The same of a function with at most n records. Private contracts alone cite this.
abbrev pub StepsUpTo : ℕ → ExceptionView → (ℕ → Option ℕ) → (ℕ → Option ℕ) → RuntimeFunction → ℕ → List ℕ → Registers → Result (Option (Result (Registers × Bool) FrameError)) Refusal → Type 0
StepsUpTo n e rva_map m f rva code g (Err refusal) = PlansUpTo n (links_with e rva_map) e.content f (Err refusal)
StepsUpTo n e rva_map m f rva code g (Ok None) = PlansUpTo n (links_with e rva_map) e.content f (Ok None)
StepsUpTo n e rva_map m f rva code g (Ok (Some left)) =
    (plan : List UnwindInfoView) × PlansUpTo n (links_with e rva_map) e.content f (Ok (Some plan))
    × StepsInImage e rva_map m plan f.begin_address rva code g left
