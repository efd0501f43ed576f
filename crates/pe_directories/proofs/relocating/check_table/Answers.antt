use Rattle.std.proofs.Common.{Ok, Err, rules, arith}
use Rattle.pe_directories.proofs.Cited.{block_view, block_words}
use Rattle.pe_directories.proofs.WordsLeft.{all_tested, block_taken, item_is, item_refused, no_block, one_more_tested, read_refused, started_table}
use Rattle.pe_directories.proofs.relocating.check_table.Goals as goal

pub loop-item-init : goal.loop-item-init
loop-item-init c = started_table (block_words c.args.size) c.args.table.now c.new-blocks.result c.new-blocks.ensures

pub returns-in_err-item : goal.returns-in_err-item
returns-in_err-item c =
    let taken = item_is block_view _ _ c.in-Some.item (Err c.in_err-item.field-0.0) (block_taken _ _ c.in-Some.item c.in-Some.ensures.steps) c.in_err-item.was in
    let refused = item_refused (block_words c.args.size) _ _ _ _ c.loop-item.invariant taken in
    search (rules, refused)

pub returns-in_err-check_block : goal.returns-in_err-check_block
returns-in_err-check_block c =
    let taken = item_is block_view _ _ c.in-Some.item (Ok c.in_ok-item.field-0) (block_taken _ _ c.in-Some.item c.in-Some.ensures.steps) c.in_ok-item.was in
    let refused = read_refused (block_words c.args.size) _ _ _ _ _ c.loop-item.invariant taken c.in_err-check_block.ensures in
    search (rules, refused)

pub loop-item-preserved : goal.loop-item-preserved
loop-item-preserved c = search (rules, arith, item_is, block_taken, one_more_tested)

pub returns : goal.returns
returns c = all_tested (block_words c.args.size) _ _ c.loop-item.invariant (no_block _ _ c.in_default.ensures.steps)
