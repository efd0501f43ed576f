-- A step by a plain record in a frame of a caller.
use Rattle.std.proofs.Common.{◌≡◌, ℕ, false, List, [], Option, Some, Ok, refl}
use Rattle.pe_unwind.specs.ExceptionTable.{ExceptionView}
use Rattle.pe_frame.specs.FunctionSteps.{StepsInFunction}
use Rattle.pe_frame.specs.PlainRecords.{with_general}
use Rattle.pe_frame.specs.declared.registers.Registers.{Registers}
use Rattle.calls_stacks.specs.StackFrames.{HandsOutLeftOr, StepsOf, flat_registers, registers_of}
use Rattle.calls_stacks.specs.declared.stack.frames.StackFrame.{StackFrame}

-- the registers of the caller
abbrev pub left_with : StackFrame → List ℕ → ℕ → Registers
left_with frame general rip = record (with_general (registers_of frame.registers) general) { rip = rip }

pub stepped : (e : ExceptionView) (rva_map m : ℕ → Option ℕ) (old new : StackFrame) (general : List ℕ) (rip : ℕ) →
    StepsInFunction e rva_map m old.function old.rva [] (registers_of old.registers) (Ok (Some (Ok (left_with old general rip, false)))) →
    new ≡ record old { registers = flat_registers (left_with old general rip); interrupted = 0 } → StepsOf e rva_map [] m old (HandsOutLeftOr 0 old new)
stepped e rva_map m old new general rip h is = (Ok (Some h.0), h.1, (Ok (left_with old general rip, false), h.2, (refl, is)))
