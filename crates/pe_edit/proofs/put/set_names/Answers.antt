use Rattle.std.proofs.Common.{arith, rules}
use Rattle.pe_edit.specs.Views.{leaf_views}
use Rattle.pe_edit.proofs.Entries.{all_names_written, no_names_written}
use Rattle.pe_edit.proofs.Turns.{names_turn}
use Rattle.pe_edit.proofs.put.set_names.Goals as goal

pub loop-start-init : goal.loop-start-init
loop-start-init c = no_names_written c.args.out.now c.args.at c.args.level (leaf_views c.args.leaves.now) c.requires.room

pub returns : goal.returns
returns c =
    all_names_written c.args.out.now c.loop-start.out c.args.at c.loop-start.end c.args.level (leaf_views c.args.leaves.now) c.loop-start.start (omega (arith, c.loop-start-test.false, c.len-count.ensures)) c.loop-start.invariant

pub loop-start-preserved : goal.loop-start-preserved
loop-start-preserved c = search (rules, arith, names_turn)
