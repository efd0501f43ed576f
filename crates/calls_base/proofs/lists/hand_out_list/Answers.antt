use Rattle.std.proofs.Common.{length}
use Rattle.std.specs.Prelude.{◌==◌}
use Rattle.calls_base.proofs.FilledLists.{hands_out_if, refused_if}
use Rattle.calls_base.proofs.lists.hand_out_list.Goals as goal

pub returns-in-Ok : goal.returns-in-Ok
returns-in-Ok g c =
    hands_out_if (g.S.Steps.steps c.args.steps.now) (length c.args.entries.now == 0) c.args.walk.now c.fill.new.walk c.args.entries.now c.fill.new.entries c.args.written.now c.in-Ok.count c.if-is_empty.ensures c.in-Ok.ensures

pub returns-in-Err : goal.returns-in-Err
returns-in-Err g c =
    refused_if (g.S.Steps.steps c.args.steps.now) (length c.args.entries.now == 0) c.args.walk.now c.fill.new.walk c.args.entries.now c.fill.new.entries c.args.written.now c.in-Err.error c.if-is_empty.ensures c.in-Err.ensures
