use Rattle.pe_directories.specs.Relocated.{block_words}
use Rattle.pe_directories.proofs.WordsLeft.{SomeRead, blocks_of, items_of_table}
use Rattle.pe_directories.proofs.relocating.check_table.Given as goal

-- the blocks so far have no refusal
abbrev pub invariant-loop-item : goal.invariant-loop-item
invariant-loop-item l = SomeRead (block_words l.size) (items_of_table l.table) (blocks_of l.blocks)
