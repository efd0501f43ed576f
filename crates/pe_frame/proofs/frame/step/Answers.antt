use Rattle.std.proofs.Common.{ℕ, map, subst}
use Rattle.pe_unwind.specs.UnwindRecord.{unwind_view}
use Rattle.pe_frame.specs.Steps.{Steps}
use Rattle.pe_frame.proofs.Frames.{caller_at}
use Rattle.pe_frame.proofs.frame.step.Goals as goal

pub returns-clause-undoes : goal.returns-clause-undoes
returns-clause-undoes g c p parts is frames =
    let m = g.M.Memory.word c.args.memory.now in
    let plan = map unwind_view c.args.plan.records.now in
    let steps = subst (λ (n : ℕ). Steps m plan n c.args.registers c.caller.result) c.saturating_sub-offset.ensures c.caller.ensures in
    caller_at m plan p parts _ c.args.registers c.caller.result steps is frames
