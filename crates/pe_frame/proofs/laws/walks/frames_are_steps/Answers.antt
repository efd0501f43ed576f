use Rattle.std.proofs.Common.{◌≡◌, ℕ, ◌-◌, Bool, true, cond, List, Option, Some, None, Result, Ok, Err, refl, subst, arith, rules, []}
use Rattle.pe_frame.proofs.Cited.{ExceptionView, UnwindInfoView, RuntimeFunction, epilog_at, StepsInImage, StepsInImageFrom, Steps}
use Rattle.pe_frame.proofs.Cited.{registers_alone, CallsByPlan, code_of_frame, end_at_0, frame_after, frame_of, FrameError, Instruction}
use Rattle.pe_frame.proofs.Cited.{Module, Registers, StackFrame, Records, map_of_module}
use Rattle.pe_frame.proofs.NoCode.{no_epilog}
use Rattle.pe_frame.proofs.Jumps.{ok_alone}
use Rattle.pe_frame.proofs.StepsOut.{registers_of_step}
use Rattle.pe_frame.proofs.laws.walks.frames_are_steps.Goals as goal

-- The frames of a walk are steps of pe_frame, each from the one before it.

-- a frame of records, unless it is the bottom
kept : (modules : List Module) (guess : Bool) (u : Registers) (t : StackFrame) (bottom : Bool) → Ok t ≡ cond bottom (Err (end_at_0 guess)) (Ok (frame_of modules Records guess u)) → u ≡ t.registers
kept modules guess u t bottom is = search (rules, arith)

registers_left : (memory : ℕ → Option ℕ) (modules : List Module) (guess : Bool) (left : Result (Registers × Bool) FrameError) (t : StackFrame) → Ok t ≡ frame_after memory modules guess left → registers_alone left ≡ Ok t.registers
registers_left memory modules guess left t is = search (rules, arith, kept)

frame_is_step : (memory : ℕ → Option ℕ) (modules : List Module) (m : Module) (e : ExceptionView) (f : RuntimeFunction) (s t : StackFrame) (plan : List UnwindInfoView) → CallsByPlan memory modules m e f s (Ok (Some plan)) (Ok t) →
    (interrupted : Bool) × StepsInImage e (map_of_module m e) memory plan f.begin_address ((s.registers).rip - m.base) (code_of_frame m e f.end_address s) s.registers (Ok (t.registers, interrupted))
frame_is_step memory modules m e f s t plan h =
    let rva = (s.registers).rip - m.base in
    let code = code_of_frame m e f.end_address s in
    let out = ok_alone h.0 t.registers (registers_left memory modules s.is_guess h.0 t h.2) in
    (out.0, subst (λ (x : Result (Registers × Bool) FrameError). StepsInImage e (map_of_module m e) memory plan f.begin_address rva code s.registers x) out.1 h.1)

call_is_step : (memory : ℕ → Option ℕ) (modules : List Module) (m : Module) (e : ExceptionView) (f : RuntimeFunction) (s t : StackFrame) (plan : List UnwindInfoView) → s.has_called ≡ true → CallsByPlan memory modules m e f s (Ok (Some plan)) (Ok t) → Steps memory plan ((s.registers).rip - m.base - f.begin_address) s.registers (Ok t.registers)
call_is_step memory modules m e f s t plan called h =
    let rva = (s.registers).rip - m.base in
    let offset = rva - f.begin_address in
    let no_code : code_of_frame m e f.end_address s ≡ [] = rw called refl in
    let none : epilog_at plan f.begin_address rva (code_of_frame m e f.end_address s) ≡ None = rw no_code (no_epilog plan f.begin_address rva) in
    let out = subst (λ (o : Option (List Instruction)). StepsInImageFrom e (map_of_module m e) o memory plan offset s.registers h.0) none h.1 in
    let steps = registers_of_step memory plan offset s.registers h.0 out in
    subst (λ (x : Result Registers FrameError). Steps memory plan offset s.registers x) (registers_left memory modules s.is_guess h.0 t h.2) steps

pub returns-clause-stopped : goal.returns-clause-stopped
returns-clause-stopped c = frame_is_step

pub returns-clause-called : goal.returns-clause-called
returns-clause-called c = call_is_step
