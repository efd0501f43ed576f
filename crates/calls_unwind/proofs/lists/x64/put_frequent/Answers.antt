use Rattle.std.proofs.Common.{length-set, refl, ◌∙◌, arith}
use Rattle.calls_unwind.proofs.CodeBytes.{frequent_step}
use Rattle.calls_unwind.proofs.PutCodes.{one_more}
use Rattle.calls_unwind.proofs.lists.x64.put_frequent.Goals as goal

pub loop-count-preserved : goal.loop-count-preserved
loop-count-preserved c =
    let size = length-set c.loop-count.entries c.loop-count.count c.in-Some.code in
    record {
      has = one_more c.args.codes.now c.loop-count.codes (record c.loop-count.codes { left = c.split_at.result.1 }) c.args.entries.now c.loop-count.entries c.loop-count.count c.in-Some.code c.loop-count-test.true c.loop-count.invariant.has
          (frequent_step c.loop-count.codes (record c.loop-count.codes { left = c.split_at.result.1 }) c.in-Some.code c.in-Some.size c.in-Some.ensures c.split_at.ensures.back refl refl);
      same = size ∙ c.loop-count.invariant.same;
      inside = omega (arith, size, c.loop-count-test.true);
    }
