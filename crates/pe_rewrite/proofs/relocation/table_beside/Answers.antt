use Rattle.std.proofs.Common.{sym, rules, arith}
use Rattle.pe_rewrite.proofs.Cited.{block_taken, items_of_table, no_block, item_beside}
use Rattle.pe_rewrite.proofs.Beside.{all_beside, one_beside, one_inside}
use Rattle.pe_rewrite.proofs.relocation.table_beside.Goals as goal

pub returns-then-not-item_beside : goal.returns-then-not-item_beside
returns-then-not-item_beside c = search (rules, arith, block_taken, one_inside, items_of_table)

pub loop-item-preserved : goal.loop-item-preserved
loop-item-preserved c = search (rules, arith, block_taken, one_beside, items_of_table)

pub returns : goal.returns
returns c = sym (all_beside (item_beside c.args.rvas.now) _ (items_of_table c.args.table.now) c.loop-item.invariant (no_block _ _ c.in_default.ensures.steps))
