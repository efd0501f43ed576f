use Rattle.std.proofs.Common.{Ok, Err, length, refl, rules, ◌∙◌, arith}
use Rattle.pe_directories.specs.Relocated.{all_moved, word_of}
use Rattle.pe_directories.proofs.WordsLeft.{all_are_moved, item_is, no_relocation, not_item, not_read, relocation_taken, started_words, word_moved}
use Rattle.pe_directories.proofs.relocating.move_block.Goals as goal

pub loop-item-init : goal.loop-item-init
loop-item-init c = search (rules, arith, started_words)

pub returns-clause-moved : goal.returns-clause-moved
returns-clause-moved c =
    all_are_moved (all_moved c.args.difference) (word_of (length c.args.image.now)) _ _ c.args.image.now c.loop-item.image (λ b. refl) c.loop-item.invariant.moves
    (no_relocation _ _ _ c.loop-item.invariant.page c.in_default.ensures.steps)

pub loop-item-preserved : goal.loop-item-preserved
loop-item-preserved c =
    let taken = item_is (λ x. x) _ _ c.in-Some.item (Ok c.in-Ok.relocation) (relocation_taken _ _ _ c.in-Some.item c.loop-item.invariant.page c.in-Some.ensures.steps) (search rules) in
    record {
      page = c.in-Some.ensures.steps.1 ∙ c.loop-item.invariant.page;
      moves = word_moved c.args.difference (length c.args.image.now) _ _ _ c.args.image.now c.loop-item.image c.move_word.new.image c.in-Ok.relocation c.in-Ok-word_of.word c.loop-item.invariant.moves taken c.in-Ok-word_of.ensures refl c.move_word.ensures;
    }

pub returns-in-Err-word_of-clause-moved : goal.returns-in-Err-word_of-clause-moved
returns-in-Err-word_of-clause-moved c =
    let taken = item_is (λ x. x) _ _ c.in-Some.item (Ok c.in-Ok.relocation) (relocation_taken _ _ _ c.in-Some.item c.loop-item.invariant.page c.in-Some.ensures.steps) (search rules) in
    λ words is. not_read (all_moved c.args.difference) (word_of (length c.args.image.now)) _ _ _ c.args.image.now c.loop-item.image _ _ c.loop-item.invariant.moves taken c.in-Err-word_of.ensures words is

pub returns-in-Err-clause-moved : goal.returns-in-Err-clause-moved
returns-in-Err-clause-moved c =
    let taken = item_is (λ x. x) _ _ c.in-Some.item (Err c.in-Err.field-0) (relocation_taken _ _ _ c.in-Some.item c.loop-item.invariant.page c.in-Some.ensures.steps) (search rules) in
    λ words is. not_item (all_moved c.args.difference) (word_of (length c.args.image.now)) _ _ _ c.args.image.now c.loop-item.image _ c.loop-item.invariant.moves taken words is
