use Rattle.std.proofs.Common.{length}
use Rattle.pe_directories.specs.Relocated.{block_words, blocks_moved}
use Rattle.pe_directories.proofs.WordsLeft.{MovesLeft, blocks_of, items_of_table}
use Rattle.pe_directories.proofs.relocating.move_table.Given as goal

-- the blocks that are left make of the image what all blocks make of the one before
abbrev pub invariant-loop-item : goal.invariant-loop-item
invariant-loop-item l = MovesLeft (blocks_moved l.difference) (block_words (length l.fn.image)) (items_of_table l.table) (blocks_of l.blocks) l.fn.image l.image
