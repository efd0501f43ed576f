use Rattle.std.proofs.Common.{refl}
use Rattle.calls_unwind.proofs.PlanSteps.{stepped}
use Rattle.calls_unwind.specs.Unwinding.{links_at}
use Rattle.calls_unwind.proofs.unwinding.plan.next_record.Goals as goal

pub returns-in-Ok : goal.returns-in-Ok
returns-in-Ok g c =
    stepped c.args.bytes.now (links_at (g.M.RvaMap.offset c.args.map.now) c.args.bytes.now c.args.table.now) c.args.plan.now _ _ _ c.if-plan-ne0.false c.in-Ok.ensures
    c.advance.ensures.returned c.advance.ensures.leaves

pub returns-in-Err : goal.returns-in-Err
returns-in-Err g c =
    stepped c.args.bytes.now (links_at (g.M.RvaMap.offset c.args.map.now) c.args.bytes.now c.args.table.now) c.args.plan.now _ _ _ c.if-plan-ne0.false c.in-Err.ensures refl refl
