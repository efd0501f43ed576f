use Rattle.std.proofs.Common.{Bool, Option, Some, None, Result, Ok, Err, refl, subst}
use Rattle.std.specs.Option.{option_map}
use Rattle.pe_core.specs.Refusals.{kind_of}
use Rattle.pe_frame.specs.FunctionSteps.{StepsInFunction}
use Rattle.pe_frame.specs.InPlace.{changed_with}
use Rattle.pe_frame.specs.declared.error.FrameError.{FrameError}
use Rattle.pe_frame.specs.declared.registers.Registers.{Registers}
use Rattle.calls_stacks.proofs.stack.frames.step_by_any_records.Goals as goal

pub returns-in-Ok-Some : goal.returns-in-Ok-Some
returns-in-Ok-Some g c =
    let image = c.args.functions.now in
    let frame = c.args.frame.now in
    let after = c.step_in_function_in_place.new.registers in
    let In : Registers → Option (Result Bool FrameError) → Type 0 = λ u o. StepsInFunction image.exceptions.now (g.R.RvaMap.offset image.map.now) (g.M.Memory.word c.args.memory.now) frame.function frame.rva c.args.code.now u (Ok (option_map (λ (left : Result Bool FrameError). changed_with left after) o)) in
    let left = subst (λ (o : Option (Result Bool FrameError)). In c.registers_of-caller.result o) c.in-Ok-Some.field-0-is c.in-Ok-Some.ensures in
    let steps = subst (λ (u : Registers). In u (Some c.in-Ok-Some.left)) c.registers_of-caller.ensures left in
    (Ok (Some steps.0), steps.1, (changed_with c.in-Ok-Some.left after, steps.2, c.put_caller.ensures))

pub returns-in-Ok-None : goal.returns-in-Ok-None
returns-in-Ok-None g c =
    let image = c.args.functions.now in
    let frame = c.args.frame.now in
    let after = c.step_in_function_in_place.new.registers in
    let In : Option (Result Bool FrameError) → Type 0 = λ o. StepsInFunction image.exceptions.now (g.R.RvaMap.offset image.map.now) (g.M.Memory.word c.args.memory.now) frame.function frame.rva c.args.code.now c.registers_of-caller.result (Ok (option_map (λ (left : Result Bool FrameError). changed_with left after) o)) in
    (Ok None, subst In c.in-Ok-None.field-0-is c.in-Ok-None.ensures, (refl, refl))

pub returns-in-Err : goal.returns-in-Err
returns-in-Err g c =
    (Err (kind_of c.in-Err.error), c.in-Err.ensures, (c.number_of.ensures, refl))
