use Rattle.std.proofs.Common.{Ok, Err, length, refl, rules, sym}
use Rattle.pe_directories.proofs.Cited.{block_view, block_words, blocks_moved}
use Rattle.pe_directories.proofs.WordsLeft.{all_are_moved, block_moved, block_taken, item_is, no_block, not_item, started_blocks}
use Rattle.pe_directories.proofs.relocating.move_table.Goals as goal

pub loop-item-init : goal.loop-item-init
loop-item-init c = started_blocks (blocks_moved c.args.difference) (block_words (length c.args.image.now)) c.args.table.now c.new-blocks.result c.args.image.now c.new-blocks.ensures

pub returns-clause-moved : goal.returns-clause-moved
returns-clause-moved c =
    all_are_moved (blocks_moved c.args.difference) (block_words (length c.args.image.now)) _ _ c.args.image.now c.loop-item.image (λ b. refl) c.loop-item.invariant
    (no_block _ _ c.in_default.ensures.steps)

pub loop-item-preserved : goal.loop-item-preserved
loop-item-preserved c =
    let taken = item_is block_view _ _ c.in-Some.item (Ok c.in-Ok.block) (block_taken _ _ c.in-Some.item c.in-Some.ensures.steps) (search rules) in
    block_moved c.args.difference (length c.args.image.now) _ _ _ c.args.image.now c.loop-item.image c.move_block.new.image (block_view c.in-Ok.block) c.loop-item.invariant taken (sym c.loop-item.invariant.long) c.move_block.ensures.moved c.move_block.ensures.long

pub returns-in-Err-clause-moved : goal.returns-in-Err-clause-moved
returns-in-Err-clause-moved c =
    let taken = item_is block_view _ _ c.in-Some.item (Err c.in-Err.field-0) (block_taken _ _ c.in-Some.item c.in-Some.ensures.steps) (search rules) in
    λ blocks is. not_item (blocks_moved c.args.difference) (block_words (length c.args.image.now)) _ _ _ c.args.image.now c.loop-item.image _ c.loop-item.invariant taken blocks is
