use Rattle.std.proofs.Common.{◌+◌, ◌-◌, ◌^◌, List, arith, refl, sym, subst, ◌∙◌}
use Rattle.pe_frame.specs.declared.memory_list.MemoryPiece.{MemoryPiece}
use Rattle.pe_stacks.specs.MemoryRuns.{AreApart}
use Rattle.pe_stacks.proofs.AppendedRuns.{apart_more}
use Rattle.pe_stacks.proofs.RunSteps.{Running, running_more, running_starts, runs_all}
use Rattle.pe_stacks.proofs.runs.put_runs.Goals as goal

pub loop-index-init : goal.loop-index-init
loop-index-init c = record { running = running_starts _ _ c.requires.index; apart = tt; few = omega arith; same = refl }

pub append-count-requires-clause-low : goal.append-count-requires-clause-low
append-count-requires-clause-low c = λ some. omega (arith, c.run_of-run.ensures.within (2 ^ 64 - 1) c.requires.low some)

pub loop-index-preserved : goal.loop-index-preserved
loop-index-preserved c =
    let kept = c.loop-index.invariant in
    let lists = sym c.append-count.ensures.runs in
    record {
      running = subst (λ (rs : List MemoryPiece). Running c.args.pieces.now c.args.entries.now (c.loop-index.index + 1) rs) lists (running_more _ _ c.requires.index _ _ _ c.loop-index-test.true kept.running c.run_of-run.ensures);
      apart = subst AreApart lists (apart_more _ _ kept.apart);
      few = omega (arith, kept.few, c.append-count.ensures.count);
      same = c.append-count.ensures.room ∙ kept.same;
    }

pub returns-clause-runs : goal.returns-clause-runs
returns-clause-runs c = runs_all _ _ _ _ c.loop-index.invariant.running c.loop-index.invariant.apart (omega arith)
