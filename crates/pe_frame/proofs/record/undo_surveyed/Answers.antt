use Rattle.std.proofs.Common.{eqb-true, sym, ◌∙◌}
use Rattle.pe_unwind.specs.UnwindRecord.{unwind_view}
use Rattle.pe_frame.specs.InPlace.{changed}
use Rattle.pe_frame.proofs.FrequentCodes.{all_first, no_bytes}
use Rattle.pe_frame.proofs.record.undo_surveyed.Goals as goal

pub returns : goal.returns
returns g c =
    all_first (g.M.Memory.word c.args.memory.now) c.args.frame.base c.args.frame.limit (unwind_view c.args.info.now) c.undo_first-first.result.rest.now c.args.registers.now
    (changed c.undo_first-first.result.left c.undo_first-first.new.registers) c.undo_first-first.ensures (no_bytes c.undo_first-first.result.rest.now (eqb-true _ _ (sym c.is_empty.ensures ∙ c.if-not-is_empty.false)))
