use Rattle.std.proofs.Common.{Ok, length-set, subst, ◌∙◌, arith}
use Rattle.calls_base.proofs.FilledLists.{kept_more, written_more}
use Rattle.calls_base.proofs.lists.fill.Goals as goal

pub loop-count-preserved : goal.loop-count-preserved
loop-count-preserved g c =
    let size = length-set c.loop-count.entries c.loop-count.count c.in-Ok-Some.value in
    rw c.in-Ok-Some.field-0-is (record {
      taken = written_more (g.S.Steps.steps c.args.steps.now) c.args.walk.now c.loop-count.walk c.step.new.walk c.loop-count.entries c.loop-count.count c.in-Ok-Some.value c.loop-count-test.true c.loop-count.invariant.taken
          (subst (λ o. g.S.Steps.steps c.args.steps.now c.loop-count.walk (Ok o) c.step.new.walk) c.in-Ok-Some.field-0-is c.in-Ok-Some.ensures);
      kept = kept_more c.loop-count.entries c.args.entries.now c.loop-count.count c.in-Ok-Some.value c.loop-count.invariant.kept;
      same = size ∙ c.loop-count.invariant.same;
      inside = omega (arith, size, c.loop-count-test.true);
    })
