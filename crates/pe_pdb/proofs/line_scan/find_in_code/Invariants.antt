use Rattle.std.proofs.Common.{◌-◌, ◌≤◌, length, Ok}
use Rattle.pe_pdb.specs.Frames.{row_before}
use Rattle.pe_pdb.specs.LineEntries.{block_lines, code_view, rows_in}
use Rattle.pe_pdb.specs.Lines.{blocks}
use Rattle.pe_pdb.specs.Scans.{Finds}
use Rattle.pe_pdb.proofs.LineEntries.{Gathers}
use Rattle.pe_pdb.proofs.line_scan.find_in_code.Given as goal

-- what is found in the lines of the blocks so far
abbrev pub invariant-loop-next : goal.invariant-loop-next
invariant-loop-next l = record {
  gathers : Gathers (λ b. Ok (block_lines (code_view l.code) b (rows_in b))) (blocks l.code.content.now 12) (blocks l.code.content.now l.next) (λ ys. Finds (row_before l.rva) ys l.fn.found l.last);
  inside : l.next ≤ length l.code.content.now;
}

abbrev pub decreases-loop-next : goal.decreases-loop-next
decreases-loop-next l = length l.code.content.now - l.next
