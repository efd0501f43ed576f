use Rattle.std.proofs.Common.{rules, ℕ, ◌+◌, ◌<◌, ap, arith, refl}
use Rattle.pe_edit.proofs.Cited.{length, leaf_view, leaf_views, padded_length}
use Rattle.pe_edit.proofs.Contents.{all_data_written, data_more, data_room, data_small, no_data_written, size_small}
use Rattle.pe_edit.proofs.put.set_data_entries.Goals as goal

pub loop-index-init : goal.loop-index-init
loop-index-init c = no_data_written c.args.out.now c.args.at c.args.first (leaf_views c.args.leaves.now) c.requires.room c.requires.fits

pub overflow_cast-rva : goal.overflow_cast-rva
overflow_cast-rva c = search (rules, arith, data_small)

pub overflow_cast-size : goal.overflow_cast-size
overflow_cast-size c =
    let small : length c.at-leaf.result.content.now < 4294967296 =
    size_small c.args.out.now c.loop-index.out c.args.at c.loop-index.end c.args.first c.loop-index.rva c.loop-index.index (leaf_views c.args.leaves.now) (leaf_view c.at-leaf.result) (omega (arith, c.loop-index-test.true, c.len-count.ensures)) c.at-leaf.ensures c.loop-index.invariant in
    search (rules, small)

pub overflow_add-rva : goal.overflow_add-rva
overflow_add-rva c =
    let small : c.loop-index.rva + padded_length (length c.at-leaf.result.content.now) < 4294967296 =
    data_small c.args.out.now c.loop-index.out c.args.at c.loop-index.end c.args.first c.loop-index.rva c.loop-index.index (leaf_views c.args.leaves.now) (leaf_view c.at-leaf.result) (omega (arith, c.loop-index-test.true, c.len-count.ensures)) c.at-leaf.ensures c.loop-index.invariant in
    search (rules, small)

pub set_data_entry-requires : goal.set_data_entry-requires
set_data_entry-requires c =
    data_room c.args.out.now c.loop-index.out c.args.at c.loop-index.end c.args.first c.loop-index.rva c.loop-index.index (leaf_views c.args.leaves.now) (leaf_view c.at-leaf.result) (omega (arith, c.loop-index-test.true, c.len-count.ensures)) c.at-leaf.ensures c.loop-index.invariant

pub loop-index-preserved : goal.loop-index-preserved
loop-index-preserved c =
    data_more c.args.out.now c.loop-index.out c.set_data_entry.new.out c.args.at c.loop-index.end c.args.first c.loop-index.rva c.loop-index.index (leaf_views c.args.leaves.now) (leaf_view c.at-leaf.result) _ _
    (length c.at-leaf.result.content.now) c.at-leaf.result.code_page
    (omega (arith, c.loop-index-test.true, c.len-count.ensures)) c.at-leaf.ensures c.loop-index.invariant refl refl c.set_data_entry.ensures (ap (λ (n : ℕ). c.loop-index.rva + n) c.padded_length-padded.ensures) refl

pub returns : goal.returns
returns c =
    all_data_written c.args.out.now c.loop-index.out c.args.at c.loop-index.end c.args.first c.loop-index.rva c.loop-index.index (leaf_views c.args.leaves.now) (omega (arith, c.loop-index-test.false, c.len-count.ensures)) c.loop-index.invariant

pub padded_length-padded-requires : goal.padded_length-padded-requires
padded_length-padded-requires c = search (rules, arith, size_small)
