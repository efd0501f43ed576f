use Rattle.std.proofs.Common.{suc, drop, Err, drop-cons}
use Rattle.pe_frame.proofs.Cited.{err_from_is_err_and, undone_codes}
use Rattle.pe_frame.proofs.Arm64Calls.{undone_first}
use Rattle.pe_frame.proofs.arm64.record.undo_each.Goals as goal

pub returns-in_err-undo_code : goal.returns-in_err-undo_code
returns-in_err-undo_code g c =
    let m = g.M.Memory.word c.args.memory.now in
    let p = err_from_is_err_and c.from_residual.result c.from_residual.ensures.1 in
    rw (p.1, p.2) (undone_first m _ 0 (drop c.loop-code.code-index c.args.codes.now) (drop (suc c.loop-code.code-index) c.args.codes.now) c.loop-code.current (Err c.in_err-undo_code.field-0.0) (undone_codes m c.args.codes.now c.args.registers)
    (drop-cons c.args.codes.now c.loop-code.code-index _ c.loop-code-test.true) (c.requires c.loop-code.code-index _ c.loop-code-test.true) c.in_err-undo_code.ensures c.loop-code.invariant)
