use Rattle.std.proofs.Common.{ℕ, List, ap, eqb-true, sym, subst, ◌∙◌}
use Rattle.pe_frame.proofs.FrequentCodes.{no_bytes}
use Rattle.pe_core.specs.Rows.{each}
use Rattle.calls_stacks.specs.StackFrames.{HandsOutLeftOr, StepsOf, half_xmm, registers_of}
use Rattle.calls_stacks.specs.declared.stack.frames.StackFrame.{StackFrame}
use Rattle.calls_stacks.proofs.PlainSteps.{stepped}
use Rattle.calls_stacks.proofs.stack.frames.steps_by_plain_record.Goals as goal

pub returns-in-Some-clause-step : goal.returns-in-Some-clause-step
returns-in-Some-clause-step g c is =
    let image = c.args.functions.now in
    let frame = c.args.frame.now in
    let general = c.step_by_plain_record.new.general in
    let new : StackFrame = record frame { registers = record { general = general; xmm = c.half_registers-frame.result; rip = c.in-Some.rip }; interrupted = 0 } in
    let none = no_bytes c.args.code.now (eqb-true _ _ (sym c.is_empty.ensures ∙ c.if-not-is_empty.false)) in
    let halves = c.half_registers-frame.ensures.halves ∙ ap (λ (xs : List ℕ). each (half_xmm xs) 32) c.whole_registers.ensures in
    subst (λ (b : List ℕ). StepsOf image.exceptions.now (g.R.RvaMap.offset image.map.now) b (g.M.Memory.word c.args.memory.now) frame (HandsOutLeftOr 0 frame new)) (sym none)
    (stepped image.exceptions.now (g.R.RvaMap.offset image.map.now) (g.M.Memory.word c.args.memory.now) frame new general c.in-Some.rip (c.in-Some.ensures (registers_of frame.registers))
    (ap (λ (xs : List ℕ). record frame { registers = record { general = general; xmm = xs; rip = c.in-Some.rip }; interrupted = 0 }) halves))
