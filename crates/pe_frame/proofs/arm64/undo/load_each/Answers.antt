use Rattle.std.proofs.Common.{Err, refl, arith}
use Rattle.pe_frame.proofs.Cited.{err_from_is_err_and, store_some}
use Rattle.std.proofs.lemmas.Grind.{common_steps}
use Rattle.pe_frame.proofs.Arm64Effects.{both_reverted, first_refused}
use Rattle.pe_frame.proofs.arm64.undo.load_each.Goals as goal

pub returns : goal.returns
returns g c = grind (arith, common_steps, both_reverted)

pub returns-in_err-load_some : goal.returns-in_err-load_some
returns-in_err-load_some g c =
    let m = g.M.Memory.word c.args.memory.now in
    let p = err_from_is_err_and c.from_residual.result c.from_residual.ensures.1 in
    rw (p.1, p.2) (first_refused m (store_some c.args.first.register c.args.first.offset) (store_some c.args.second.register c.args.second.offset) c.args.registers.now c.in_err-load_some.field-0.0 (Err c.in_err-load_some.field-0.0) c.in_err-load_some.ensures refl)
