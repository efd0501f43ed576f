use Rattle.std.proofs.Common.{arith}
use Rattle.std.proofs.lemmas.Grind.{common_steps}
use Rattle.pe_edit.proofs.Contents.{all_contents_written, content_more, content_room}
use Rattle.pe_edit.proofs.Writing.{nothing_written}
use Rattle.pe_edit.proofs.Cited.{leaf_view, leaf_views, contents}
use Rattle.pe_edit.proofs.put.set_contents.Goals as goal

pub loop-index-init : goal.loop-index-init
loop-index-init c = nothing_written c.args.out.now c.args.at (contents (leaf_views c.args.leaves.now)) c.requires

pub set_padded-end-requires : goal.set_padded-end-requires
set_padded-end-requires c = record {
  room = content_room c.args.out.now c.loop-index.out c.args.at c.loop-index.end c.loop-index.index (leaf_views c.args.leaves.now) (leaf_view c.at.result) (omega (arith, c.loop-index-test.true, c.len-count.ensures)) c.at.ensures c.loop-index.invariant;
}

pub loop-index-preserved : goal.loop-index-preserved
loop-index-preserved c = grind (arith, common_steps, content_more)

pub returns : goal.returns
returns c =
    all_contents_written c.args.out.now c.loop-index.out c.args.at c.loop-index.end c.loop-index.index (leaf_views c.args.leaves.now) (omega (arith, c.loop-index-test.false, c.len-count.ensures)) c.loop-index.invariant
