use Rattle.std.proofs.Common.{Ok, Err, sym}
use Rattle.std.proofs.lemmas.Result.{err_from_is_err_and}
use Rattle.pe_unwind.specs.UnwindRecord.{unwind_view}
use Rattle.pe_frame.proofs.Records.{enters}
use Rattle.pe_frame.proofs.record.enter_in_prolog.Goals as goal

pub returns-in_err-undo_codes : goal.returns-in_err-undo_codes
returns-in_err-undo_codes g c =
    let p = err_from_is_err_and c.from_residual-in_err-undo_codes.result c.from_residual-in_err-undo_codes.ensures.1 in
    rw (p.1, p.2)
    (enters (g.M.Memory.word c.args.memory.now) c.args.limit (unwind_view c.args.info.now) c.args.registers.now c.in_ok-survey.survey c.in_ok-base.base (Err c.in_err-undo_codes.field-0.0)
    c.in_ok-survey.ensures (sym c.in_ok-base.ensures) c.in_err-undo_codes.ensures)

pub returns : goal.returns
returns g c =
    enters (g.M.Memory.word c.args.memory.now) c.args.limit (unwind_view c.args.info.now) c.args.registers.now c.in_ok-survey.survey c.in_ok-base.base (Ok c.undo_codes.new.registers)
    c.in_ok-survey.ensures (sym c.in_ok-base.ensures) c.in_ok-undo_codes.ensures
