-- The caller of a frame that has called, by the plain record of its function.
use Rattle.std.specs.Prelude.{◌==◌}
use Rattle.std.proofs.Common.{◌≡◌, ℕ, ◌-◌, ◌<◌, Bool, true, false, List, [], Option, Some, Ok, ap, sym, ◌∙◌, subst, refl, arith}
use Rattle.std.proofs.lemmas.Bool.Decides.{nat_tests}
use Rattle.pe_unwind.specs.ExceptionTable.{ExceptionView}
use Rattle.pe_unwind.specs.declared.function_table.RuntimeFunction.{RuntimeFunction}
use Rattle.pe_frame.specs.FunctionSteps.{StepsInFunction}
use Rattle.pe_frame.specs.Jumps.{StepsInImage}
use Rattle.pe_frame.specs.Modules.{map_of_module}
use Rattle.pe_frame.specs.PlainRecords.{with_general}
use Rattle.pe_frame.specs.Walks.{CallsFound, StepsFromFrame, code_of_frame, frame_after, frame_of}
use Rattle.pe_frame.specs.declared.modules.Module.{Module}
use Rattle.pe_frame.specs.declared.registers.Registers.{Registers}
use Rattle.pe_frame.specs.declared.walk.StackFrame.{StackFrame}
use Rattle.pe_frame.specs.declared.walk.Way.TheVariants.{Records}

-- the registers of the caller, which has this instruction pointer
abbrev pub left_with : Registers → List ℕ → ℕ → Registers
left_with g general rip = record (with_general g general) { rip = rip }

after : (memory : ℕ → Option ℕ) (modules : List Module) (guess : Bool) (u : Registers) → 0 < u.rip → frame_after memory modules guess (Ok (u, false)) ≡ Ok (frame_of modules Records guess u)
after memory modules guess u some =
    let zero : (u.rip == 0) ≡ false = grind (arith, nat_tests) in
    rw zero refl

pub called : (memory : ℕ → Option ℕ) (modules : List Module) (m : Module) (e : ExceptionView) (f : RuntimeFunction) (s t : StackFrame) (rva rip : ℕ) (general : List ℕ) → s.has_called ≡ true → rva ≡ (s.registers).rip - m.base → 0 < rip →
    StepsInFunction e (map_of_module m e) memory f rva [] s.registers (Ok (Some (Ok (left_with s.registers general rip, false)))) → t ≡ frame_of modules Records s.is_guess (left_with s.registers general rip) → CallsFound memory modules m e s (Some f) (Ok t)
called memory modules m e f s t rva rip general has at some step is =
    let here = subst (λ (a : ℕ). StepsInFunction e (map_of_module m e) memory f a [] s.registers (Ok (Some (Ok (left_with s.registers general rip, false))))) at step in
    let none : [] ≡ code_of_frame m e f.end_address s = rw has refl in
    let left : StepsFromFrame memory m e f here.0 s (Ok (left_with s.registers general rip, false)) =
    subst (λ (code : List ℕ). StepsInImage e (map_of_module m e) memory here.0 f.begin_address ((s.registers).rip - m.base) code s.registers (Ok (left_with s.registers general rip, false))) none here.2 in
    (Ok (Some here.0), here.1, (Ok (left_with s.registers general rip, false), left, ap Ok is ∙ sym (after memory modules s.is_guess (left_with s.registers general rip) some)))
