use Rattle.std.proofs.Common.{◌≡◌, length}
use Rattle.pe_directories.proofs.Cited.{block_view, page_of, all_moved, word_of}
use Rattle.pe_directories.proofs.WordsLeft.{MovesLeft, items_of_block, relocations_of}
use Rattle.pe_directories.proofs.relocating.move_block.Given as goal

-- the words that are left make of the image what all words make of the one before
abbrev pub invariant-loop-item : goal.invariant-loop-item
invariant-loop-item l = record {
  page : page_of l.relocations ≡ l.block.page_rva;
  moves : MovesLeft (all_moved l.difference) (word_of (length l.fn.image)) (items_of_block (block_view l.block)) (relocations_of l.block.page_rva l.relocations) l.fn.image l.image;
}
