use Rattle.std.proofs.Common.{ℕ, ◌+◌, ap, arith, refl}
use Rattle.pe_edit.specs.Views.{key_view, leaf_views}
use Rattle.pe_edit.proofs.Entries.{all_measured}
use Rattle.pe_edit.proofs.Turns.{measure_turn}
use Rattle.pe_edit.proofs.level.Level.measure.Goals as goal

pub loop-start-preserved : goal.loop-start-preserved
loop-start-preserved c =
    measure_turn c.args.self (leaf_views c.args.leaves.now) (leaf_views c.run_from-run.result) c.len-size.result c.loop-start.start c.loop-start.sum _ (key_view c.key-key.result) c.len-size.ensures c.run_from-run.ensures c.requires.fits c.key-key.ensures c.loop-start.invariant
    refl (ap (λ (n : ℕ). c.loop-start.sum.named + n) c.named.ensures) (ap (λ (n : ℕ). c.loop-start.sum.names_size + n) c.name_size.ensures)

pub returns-clause-value : goal.returns-clause-value
returns-clause-value c = all_measured c.args.self (leaf_views c.args.leaves.now) c.loop-start.start c.loop-start.sum (omega (arith, c.loop-start-test.false, c.len-count.ensures)) c.loop-start.invariant
