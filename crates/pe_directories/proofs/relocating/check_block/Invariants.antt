use Rattle.std.proofs.Common.{◌≡◌}
use Rattle.pe_directories.proofs.Cited.{block_view, page_of, word_of}
use Rattle.pe_directories.proofs.WordsLeft.{SomeRead, items_of_block, relocations_of}
use Rattle.pe_directories.proofs.relocating.check_block.Given as goal

-- the relocations so far are no refusal
abbrev pub invariant-loop-item : goal.invariant-loop-item
invariant-loop-item l = record {
  page : page_of l.relocations ≡ l.block.page_rva;
  read : SomeRead (word_of l.size) (items_of_block (block_view l.block)) (relocations_of l.block.page_rva l.relocations);
}
