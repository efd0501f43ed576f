use Rattle.std.proofs.Common.{◌≡◌, ◌<◌}
use Rattle.std.specs.Prelude.{IfSome}
use Rattle.pe_pdb.specs.Frames.{row_before}
use Rattle.pe_pdb.specs.LineEntries.{block_lines, code_view, rows_in}
use Rattle.pe_pdb.specs.Lines.{block_view}
use Rattle.pe_pdb.specs.Scans.{Finds, least_of}
use Rattle.pe_pdb.proofs.Scans.{best_of}
use Rattle.pe_pdb.proofs.line_scan.find_in_block.Given as goal

-- what is found in the rows so far
abbrev pub invariant-loop-index : goal.invariant-loop-index
invariant-loop-index l = record {
  finds : Finds (row_before l.rva) (block_lines (code_view l.code) (block_view l.block) l.index) l.found (best_of (code_view l.code) (block_view l.block) l.found l.last);
  from : l.least ≡ least_of l.code.rva (best_of (code_view l.code) (block_view l.block) l.found l.last);
  listed : IfSome l.last (λ i. i < rows_in (block_view l.block));
}
