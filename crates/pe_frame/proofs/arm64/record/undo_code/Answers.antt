use Rattle.std.proofs.Common.{◌-◌, Ok, Err, sym, ◌∙◌, arith}
use Rattle.std.proofs.lemmas.Result.{err_from_is_err_and}
use Rattle.pe_frame.proofs.Arm64Nexts.{nexts_step}
use Rattle.pe_frame.proofs.arm64.record.undo_code.Goals as goal

pub loop-count-preserved : goal.loop-count-preserved
loop-count-preserved g c =
    sym (nexts_step (g.M.Memory.word c.args.memory.now) c.loop-count.count (c.loop-count.count - 1) c.args.code c.loop-count.registers (Ok c.undo_save_next.new.registers)
    (omega (arith, c.loop-count-test.true)) c.requires (sym c.in_ok-undo_save_next.ensures))
    ∙ c.loop-count.invariant

pub returns-in_err-undo_save_next : goal.returns-in_err-undo_save_next
returns-in_err-undo_save_next g c =
    let p = err_from_is_err_and c.from_residual.result c.from_residual.ensures.1 in
    rw (p.1, p.2) (sym (nexts_step (g.M.Memory.word c.args.memory.now) c.loop-count.count (c.loop-count.count - 1) c.args.code c.loop-count.registers (Err c.in_err-undo_save_next.field-0.0)
    (omega (arith, c.loop-count-test.true)) c.requires (sym c.in_err-undo_save_next.ensures))
    ∙ c.loop-count.invariant)
