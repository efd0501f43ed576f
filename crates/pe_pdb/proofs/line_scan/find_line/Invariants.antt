use Rattle.std.proofs.Common.{◌≡◌, ◌+◌, ◌-◌, ◌≤◌, length}
use Rattle.pe_pdb.specs.Frames.{row_before}
use Rattle.pe_pdb.specs.LineEntries.{lines_of_subsection}
use Rattle.pe_pdb.specs.Lines.{subsections}
use Rattle.pe_pdb.proofs.LineEntries.{Gathers}
use Rattle.pe_pdb.proofs.line_scan.find_line.Given as goal

-- what is found in the lines of the subsections so far
abbrev pub invariant-loop-next : goal.invariant-loop-next
invariant-loop-next l = record {
  gathers : Gathers (lines_of_subsection l.sections.bytes.now) (subsections l.bytes 0) (subsections l.bytes l.next) (λ ys. l.last ≡ row_before l.rva ys);
  near : l.next ≤ length l.bytes + 3;
}

abbrev pub decreases-loop-next : goal.decreases-loop-next
decreases-loop-next l = length l.bytes - l.next
