use Rattle.std.proofs.Common.{sym, rules, arith}
use Rattle.std.proofs.lemmas.Grind.{common_steps}
use Rattle.pe_rewrite.proofs.Cited.{block_view, items_of_block, no_relocation, relocation_taken, is_beside}
use Rattle.pe_rewrite.proofs.Beside.{all_beside, one_beside, one_inside}
use Rattle.pe_rewrite.proofs.relocation.block_beside.Goals as goal

pub returns-then-not-is_beside : goal.returns-then-not-is_beside
returns-then-not-is_beside c = grind (arith, common_steps, relocation_taken, one_inside, items_of_block)

pub loop-item-preserved : goal.loop-item-preserved
loop-item-preserved c = search (rules, arith, relocation_taken, one_beside, items_of_block)

pub returns : goal.returns
returns c = sym (all_beside (is_beside c.args.rvas.now) _ (items_of_block (block_view c.args.block.now)) c.loop-item.invariant.rest (no_relocation _ _ _ c.loop-item.invariant.page c.in_default.ensures.steps))
