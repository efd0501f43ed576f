use Rattle.std.proofs.Common.{◌≡◌, ◌+◌, ◌≤◌, length}
use Rattle.pe_pdb.specs.LineEntries.{Writes, block_lines, code_view}
use Rattle.pe_pdb.specs.Lines.{block_view}
use Rattle.pe_pdb.proofs.line_entries.put_block.Given as goal

-- the lines of the rows so far
abbrev pub invariant-loop-index : goal.invariant-loop-index
invariant-loop-index l = record {
  writes : Writes (block_lines (code_view l.code) (block_view l.block) l.index) l.count l.fn.room l.after l.room;
  few : l.after ≤ l.count + l.index;
  same : length l.room ≡ length l.fn.room;
}
