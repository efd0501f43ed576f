use Rattle.std.proofs.Common.{None, Ok, Err, ap, sym, ◌∙◌}
use Rattle.pe_frame.specs.InPlace.{changed}
use Rattle.pe_frame.proofs.FrequentCodes.{none_yet, one_more}
use Rattle.pe_frame.proofs.frequent.undo_frequent.Goals as goal

pub loop-operation-init : goal.loop-operation-init
loop-operation-init g c v f = none_yet (g.M.Memory.word c.args.memory.now) c.args.base None (record { content = c.args.codes.now; version = v; frame = f }) c.args.registers.now

pub loop-operation-preserved : goal.loop-operation-preserved
loop-operation-preserved g c v f =
    one_more (g.M.Memory.word c.args.memory.now) c.args.base (record { content = c.args.codes.now; version = v; frame = f }) (record { content = c.loop-operation.rest.now; version = v; frame = f })
    c.split_at.result.1.now c.in-Some.operation c.in-Some.size c.args.registers.now c.loop-operation.registers (Ok c.undo.new.registers) (c.loop-operation.invariant v f) c.in-Some.ensures.code c.split_at.ensures.back
    (ap (λ r. changed r c.undo.new.registers) (sym c.in_default-undo.is) ∙ c.undo.ensures)

pub returns-in-Err : goal.returns-in-Err
returns-in-Err g c v f =
    one_more (g.M.Memory.word c.args.memory.now) c.args.base (record { content = c.args.codes.now; version = v; frame = f }) (record { content = c.loop-operation.rest.now; version = v; frame = f })
    c.split_at.result.1.now c.in-Some.operation c.in-Some.size c.args.registers.now c.loop-operation.registers (Err c.in-Err.error) (c.loop-operation.invariant v f) c.in-Some.ensures.code c.split_at.ensures.back
    (ap (λ r. changed r c.undo.new.registers) (sym c.in-Err.is) ∙ c.undo.ensures)
