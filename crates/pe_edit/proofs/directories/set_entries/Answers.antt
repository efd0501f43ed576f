use Rattle.std.proofs.Common.{rules, ℕ, ◌+◌, ◌<◌, ap, arith, refl}
use Rattle.pe_edit.proofs.Cited.{size_of_run, key_view, leaf_views}
use Rattle.pe_edit.proofs.Entries.{all_entries_written, cursor_after, entry_name, entry_part, entry_room, no_entries_written}
use Rattle.pe_edit.proofs.RunsAt.{run_fits}
use Rattle.pe_edit.proofs.Turns.{entries_turn}
use Rattle.pe_edit.proofs.directories.set_entries.Goals as goal

pub loop-start-init : goal.loop-start-init
loop-start-init c = no_entries_written c.args.out.now c.args.at c.args.level (leaf_views c.args.leaves.now) c.requires.room c.requires.parts

pub key_number-requires : goal.key_number-requires
key_number-requires c = search (rules, arith, entry_name)

pub overflow_cast-now : goal.overflow_cast-now
overflow_cast-now c = search (rules, arith, entry_part)

pub set_entry-requires : goal.set_entry-requires
set_entry-requires c = search (rules, arith, entry_room)

pub overflow_add-now : goal.overflow_add-now
overflow_add-now c = search (rules, arith, entry_name)

pub part_size-requires-clause-fits : goal.part_size-requires-clause-fits
part_size-requires-clause-fits c = run_fits c.args.level (leaf_views c.args.leaves.now) (leaf_views c.run_from-run.result) c.loop-start.start c.run_from-run.ensures c.requires.fits

pub overflow_add-now-in-loop-start-2 : goal.overflow_add-now-in-loop-start-2
overflow_add-now-in-loop-start-2 c =
    let small : c.loop-start.now.part + size_of_run c.args.level (leaf_views c.run_from-run.result) < 4294967296 =
    entry_part c.args.out.now c.loop-start.out c.args.at c.loop-start.now c.args.level (leaf_views c.args.leaves.now) (leaf_views c.run_from-run.result) c.loop-start.start (key_view c.key-key.result) c.run_from-run.ensures c.key-key.ensures c.loop-start.invariant in
    search (rules, small)

pub loop-start-preserved : goal.loop-start-preserved
loop-start-preserved c =
    entries_turn c.args.out.now c.loop-start.out c.set_entry.new.out c.args.at c.loop-start.now _ c.args.level (leaf_views c.args.leaves.now) (leaf_views c.run_from-run.result) c.len-size.result c.loop-start.start c.key_number.result (key_view c.key-key.result)
    c.len-size.ensures c.run_from-run.ensures c.key-key.ensures c.loop-start.invariant c.key_number.ensures c.set_entry.ensures refl
    (ap (λ (n : ℕ). c.loop-start.now.name + n) c.name_size.ensures) (ap (λ (n : ℕ). c.loop-start.now.part + n) c.part_size.ensures)

pub returns-clause-after : goal.returns-clause-after
returns-clause-after c =
    all_entries_written c.args.out.now c.loop-start.out c.args.at c.loop-start.now c.args.level (leaf_views c.args.leaves.now) c.loop-start.start (omega (arith, c.loop-start-test.false, c.len-count.ensures)) c.loop-start.invariant

pub returns-clause-next : goal.returns-clause-next
returns-clause-next c =
    cursor_after c.args.out.now c.loop-start.out c.args.at c.loop-start.now c.args.level (leaf_views c.args.leaves.now) c.loop-start.start (omega (arith, c.loop-start-test.false, c.len-count.ensures)) c.loop-start.invariant
