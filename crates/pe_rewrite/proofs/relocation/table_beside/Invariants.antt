use Rattle.std.proofs.Common.{◌≡◌}
use Rattle.pe_rewrite.proofs.Cited.{list_all, blocks_of, items_of_table, item_beside}
use Rattle.pe_rewrite.proofs.relocation.table_beside.Given as goal

-- the blocks so far are beside
abbrev pub invariant-loop-item : goal.invariant-loop-item
invariant-loop-item l = list_all (item_beside l.rvas) (blocks_of l.blocks) ≡ list_all (item_beside l.rvas) (items_of_table l.table)
