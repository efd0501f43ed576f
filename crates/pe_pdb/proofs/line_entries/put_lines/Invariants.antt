use Rattle.std.proofs.Common.{◌≡◌, ◌+◌, ◌-◌, ◌*◌, ◌≤◌, length}
use Rattle.pe_pdb.specs.LineEntries.{Writes, lines_of_subsection}
use Rattle.pe_pdb.specs.Lines.{subsections}
use Rattle.pe_pdb.proofs.LineEntries.{Gathers}
use Rattle.pe_pdb.proofs.line_entries.put_lines.Given as goal

-- the lines of the subsections so far
abbrev pub invariant-loop-next : goal.invariant-loop-next
invariant-loop-next l = record {
  gathers : Gathers (lines_of_subsection l.sections.bytes.now) (subsections l.bytes 0) (subsections l.bytes l.next) (λ ys. Writes ys 0 l.fn.room l.count l.room);
  few : 8 * l.count ≤ l.next;
  near : l.next ≤ length l.bytes + 3;
  same : length l.room ≡ length l.fn.room;
}

abbrev pub decreases-loop-next : goal.decreases-loop-next
decreases-loop-next l = length l.bytes - l.next
