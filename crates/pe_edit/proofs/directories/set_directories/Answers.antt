use Rattle.std.proofs.Common.{rules, arith, subst}
use Rattle.pe_edit.proofs.Cited.{Level, leaf_views, IsRunAt, above}
use Rattle.pe_edit.proofs.DirectoryLoops.{all_directories_written, directory_fits, directory_room, no_directories_written}
use Rattle.pe_edit.proofs.RunsAt.{run_fits}
use Rattle.pe_edit.proofs.Turns.{directories_turn}
use Rattle.pe_edit.proofs.directories.set_directories.Goals as goal

pub loop-start-init : goal.loop-start-init
loop-start-init c = no_directories_written c.args.out.now c.args.at c.args.level (leaf_views c.args.leaves.now) c.requires.room c.requires.parts

pub set_directory-now-requires : goal.set_directory-now-requires
set_directory-now-requires c = record {
  room = directory_room c.args.out.now c.loop-start.out c.args.at c.loop-start.now c.args.level (leaf_views c.args.leaves.now) (leaf_views c.run_from-run.result) c.loop-start.start (subst (λ (y : Level). IsRunAt y (leaf_views c.args.leaves.now) c.loop-start.start (leaf_views c.run_from-run.result)) c.above.ensures c.run_from-run.ensures) c.loop-start.invariant;
  few = search rules;
  fits = run_fits (above c.args.level) (leaf_views c.args.leaves.now) (leaf_views c.run_from-run.result) c.loop-start.start (subst (λ (y : Level). IsRunAt y (leaf_views c.args.leaves.now) c.loop-start.start (leaf_views c.run_from-run.result)) c.above.ensures c.run_from-run.ensures) c.requires.fits;
  parts = directory_fits c.args.out.now c.loop-start.out c.args.at c.loop-start.now c.args.level (leaf_views c.args.leaves.now) (leaf_views c.run_from-run.result) c.loop-start.start (subst (λ (y : Level). IsRunAt y (leaf_views c.args.leaves.now) c.loop-start.start (leaf_views c.run_from-run.result)) c.above.ensures c.run_from-run.ensures) c.loop-start.invariant;
}

pub loop-start-preserved : goal.loop-start-preserved
loop-start-preserved c =
    directories_turn c.args.out.now c.loop-start.out c.set_directory-now.new.out c.args.at c.loop-start.now c.set_directory-now.result c.args.level (leaf_views c.args.leaves.now) (leaf_views c.run_from-run.result) c.len-size.result c.loop-start.start
    c.len-size.ensures (subst (λ (y : Level). IsRunAt y (leaf_views c.args.leaves.now) c.loop-start.start (leaf_views c.run_from-run.result)) c.above.ensures c.run_from-run.ensures) c.loop-start.invariant c.set_directory-now.ensures.after c.set_directory-now.ensures.next

pub returns : goal.returns
returns c =
    all_directories_written c.args.out.now c.loop-start.out c.args.at c.loop-start.now c.args.level (leaf_views c.args.leaves.now) c.loop-start.start (omega (arith, c.loop-start-test.false, c.len-count.ensures)) c.loop-start.invariant
