use Rattle.std.proofs.Common.{◌∙◌, arith, length-set, refl}
use Rattle.calls_stacks.specs.DumpMemory.{range_in}
use Rattle.calls_base.proofs.MappedRooms.{more_mapped, others_left}
use Rattle.calls_stacks.proofs.dump.memory_runs.put_ranges.Goals as goal

pub loop-i-init : goal.loop-i-init
loop-i-init c = record { found = refl; others = refl; same = refl }

pub loop-i-preserved : goal.loop-i-preserved
loop-i-preserved c =
    let kept = c.loop-i.invariant in
    record {
      found = more_mapped (range_in c.args.pieces.now) c.args.asked.now c.loop-i.found c.loop-i.i _ _ kept.found (omega arith) (omega arith) c.range_in.ensures;
      others = others_left c.args.found.now c.loop-i.found c.loop-i.i _ kept.others;
      same = length-set _ _ _ ∙ kept.same;
    }
