use Rattle.std.proofs.Common.{◌≡◌, ℕ, ◌+◌, suc, ◌||◌, None, map, drop, ap, subst, drop-cons, arith}
use Rattle.std.proofs.lemmas.Result.{err_from_is_err_and}
use Rattle.pe_unwind.specs.UnwindRecord.{unwind_view}
use Rattle.pe_frame.specs.Steps.{UndoesRecords}
use Rattle.pe_frame.proofs.Records.{more_undone, none_undone}
use Rattle.pe_frame.proofs.frame.undo_records.Goals as goal

pub returns-in_err-is_interrupted : goal.returns-in_err-is_interrupted
returns-in_err-is_interrupted g c =
    let p = err_from_is_err_and c.from_residual.result c.from_residual.ensures.1 in
    let at = ap (λ is. map unwind_view is) (drop-cons c.args.plan.now c.loop-info.info-index _ c.loop-info-test.true) in
    rw (p.1, p.2) (c.loop-info.invariant _ (none_undone (g.M.Memory.word c.args.memory.now) c.loop-info.limit _ _ _ c.loop-info.is_interrupted c.loop-info.registers _ at c.in_err-is_interrupted.ensures))

pub loop-info-preserved : goal.loop-info-preserved
loop-info-preserved g c answer rest =
    let m = g.M.Memory.word c.args.memory.now in
    let at = ap (λ is. map unwind_view is) (drop-cons c.args.plan.now c.loop-info.info-index _ c.loop-info-test.true) in
    let next : c.loop-info.info-index + 1 ≡ suc c.loop-info.info-index = omega arith in
    let others = subst (λ (n : ℕ). UndoesRecords m (map unwind_view (drop n c.args.plan.now)) None (c.loop-info.is_interrupted || c.in_ok-is_interrupted.field-0) c.enter.new.registers answer) next rest in
    c.loop-info.invariant answer (more_undone m c.loop-info.limit _ _ _ c.loop-info.is_interrupted _ c.loop-info.registers _ answer at c.in_ok-is_interrupted.ensures others)
