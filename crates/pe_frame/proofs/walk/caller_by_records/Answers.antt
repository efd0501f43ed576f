use Rattle.std.proofs.Common.{ℕ, ◌-◌, Bool, List, Option, Some, None, Result, Ok, Err, refl, subst}
use Rattle.std.specs.Option.{option_map}
use Rattle.pe_core.specs.Refusals.{kind_of}
use Rattle.pe_frame.specs.FunctionSteps.{StepsInFunction}
use Rattle.pe_frame.specs.InPlace.{changed_with}
use Rattle.pe_frame.specs.Modules.{map_of_module}
use Rattle.pe_frame.specs.declared.error.FrameError.{FrameError}
use Rattle.pe_frame.proofs.walk.caller_by_records.Goals as goal

pub returns-in-Ok-None : goal.returns-in-Ok-None
returns-in-Ok-None g c =
    let found = c.args.found.now in
    let after = c.step_in_function_in_place.new.registers in
    let Steps : Option (Result Bool FrameError) → Type 0 = λ o. StepsInFunction found.exceptions.now (map_of_module found.module.now found.exceptions.now) (g.M.Memory.word c.args.memory.now) found.function c.args.rva c.code_of_frame-code.result.now (c.args.frame.now).registers (Ok (option_map (λ left. changed_with left after) o)) in
    (Ok None, subst (λ (o : Option (Result Bool FrameError)). Steps o) c.in-Ok-None.field-0-is c.in-Ok-None.ensures, refl)

pub returns-in-Err : goal.returns-in-Err
returns-in-Err g c = (Err (kind_of c.in-Err.error), c.in-Err.ensures, refl)

pub returns : goal.returns
returns g c =
    let found = c.args.found.now in
    let m = found.module.now in
    let e = found.exceptions.now in
    let memory = g.M.Memory.word c.args.memory.now in
    let registers = (c.args.frame.now).registers in
    let after = c.step_in_function_in_place.new.registers in
    let code = c.code_of_frame-code.result.now in
    let By : Option (Result Bool FrameError) → Type 0 = λ o. StepsInFunction e (map_of_module m e) memory found.function c.args.rva code registers (Ok (option_map (λ left. changed_with left after) o)) in
    let left = subst (λ (o : Option (Result Bool FrameError)). By o) c.in-Ok-Some.field-0-is c.in-Ok-Some.ensures in
    let In : ℕ → List ℕ → Type 0 = λ a b. StepsInFunction e (map_of_module m e) memory found.function a b registers (Ok (Some (changed_with c.in-Ok-Some.left after))) in
    let at_rva = subst (λ (a : ℕ). In a code) c.requires left in
    let steps = subst (λ (b : List ℕ). In (registers.rip - m.base) b) c.code_of_frame-code.ensures at_rva in
    (Ok (Some steps.0), steps.1, (changed_with c.in-Ok-Some.left after, steps.2, c.frame_after.ensures))
