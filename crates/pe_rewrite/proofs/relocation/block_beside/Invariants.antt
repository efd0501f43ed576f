use Rattle.std.proofs.Common.{◌≡◌}
use Rattle.pe_rewrite.proofs.Cited.{list_all, block_view, page_of, items_of_block, relocations_of, is_beside}
use Rattle.pe_rewrite.proofs.relocation.block_beside.Given as goal

-- the relocations so far are beside
abbrev pub invariant-loop-item : goal.invariant-loop-item
invariant-loop-item l = record {
  page : page_of l.relocations ≡ l.block.page_rva;
  rest : list_all (is_beside l.rvas) (relocations_of l.block.page_rva l.relocations) ≡ list_all (is_beside l.rvas) (items_of_block (block_view l.block));
}
