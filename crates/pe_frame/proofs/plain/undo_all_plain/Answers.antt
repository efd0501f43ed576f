use Rattle.std.proofs.Common.{ℕ, List, None, Ok, eqb-true, sym, subst, ◌∙◌}
use Rattle.pe_frame.specs.PlainRecords.{plain_stream, with_general}
use Rattle.pe_frame.specs.Survey.{UndoesFirst}
use Rattle.pe_frame.proofs.FrequentCodes.{no_bytes, none_yet}
use Rattle.pe_frame.proofs.PlainRecords.{one_more}
use Rattle.pe_frame.proofs.plain.undo_all_plain.Goals as goal

pub loop-operation-init : goal.loop-operation-init
loop-operation-init g c v q = none_yet (g.M.Memory.word c.args.memory.now) c.args.base None (plain_stream v c.args.codes.now) (with_general q c.args.general.now)

pub loop-operation-preserved : goal.loop-operation-preserved
loop-operation-preserved g c v q =
    one_more (g.M.Memory.word c.args.memory.now) c.args.base v c.args.codes.now c.loop-operation.rest.now c.split_at.result.1.now c.in-Some.operation c.in-Some.size
    (with_general q c.args.general.now) (with_general q c.loop-operation.general) (with_general q c.undo_plain.new.general)
    (c.loop-operation.invariant v q) c.in-Some.ensures.code c.split_at.ensures.back (c.undo_plain.ensures q c.if-not-undo_plain.false)

pub returns : goal.returns
returns g c v q all =
    subst (λ (rest : List ℕ). UndoesFirst (g.M.Memory.word c.args.memory.now) c.args.base None (plain_stream v c.args.codes.now) (plain_stream v rest) (with_general q c.args.general.now) (Ok (with_general q c.loop-operation.general)))
    (no_bytes c.loop-operation.rest.now (eqb-true _ _ (sym c.is_empty.ensures ∙ all))) (c.loop-operation.invariant v q)
