use Rattle.std.proofs.Common.{Ok, Err, rules, arith}
use Rattle.pe_directories.proofs.Cited.{block_view, word_of}
use Rattle.pe_directories.proofs.WordsLeft.{all_tested, item_is, item_refused, no_relocation, one_more_read, read_refused, relocation_taken, started_block}
use Rattle.pe_directories.proofs.relocating.check_block.Goals as goal

pub loop-item-init : goal.loop-item-init
loop-item-init c = record { page = c.relocations-relocations.ensures.page; read = started_block (word_of c.args.size) (block_view c.args.block.now) c.relocations-relocations.result c.relocations-relocations.ensures.left }

pub returns-in_err-item : goal.returns-in_err-item
returns-in_err-item c =
    let taken = item_is (λ x. x) _ _ c.in-Some.item (Err c.in_err-item.field-0.0) (relocation_taken _ _ _ c.in-Some.item c.loop-item.invariant.page c.in-Some.ensures.steps) c.in_err-item.was in
    let refused = item_refused (word_of c.args.size) _ _ _ _ c.loop-item.invariant.read taken in
    search (rules, refused)

pub returns-in_err-word_of : goal.returns-in_err-word_of
returns-in_err-word_of c =
    let taken = item_is (λ x. x) _ _ c.in-Some.item (Ok c.in_ok-item.field-0) (relocation_taken _ _ _ c.in-Some.item c.loop-item.invariant.page c.in-Some.ensures.steps) c.in_ok-item.was in
    let refused = read_refused (word_of c.args.size) _ _ _ _ _ c.loop-item.invariant.read taken c.in_err-word_of.ensures in
    search (rules, refused)

pub loop-item-preserved : goal.loop-item-preserved
loop-item-preserved c = search (rules, arith, item_is, relocation_taken, one_more_read)

pub returns : goal.returns
returns c = all_tested (word_of c.args.size) _ _ c.loop-item.invariant.read (no_relocation _ _ _ c.loop-item.invariant.page c.in_default.ensures.steps)
