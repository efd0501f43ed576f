use Rattle.std.proofs.Common.{◌≡◌, ◌-◌, length}
use Rattle.pe_pdb.specs.Annotations.{annotations, last_with, row_at, rows_of}
use Rattle.pe_pdb.proofs.inline_rows.InlineRows.row_at.Given as goal

-- the row that was found, of the rows so far
abbrev pub invariant-loop-next : goal.invariant-loop-next
invariant-loop-next l = row_at l.annotations l.offset ≡ last_with l.offset l.found (rows_of l.cursor l.last (annotations l.annotations l.next))

abbrev pub decreases-loop-next : goal.decreases-loop-next
decreases-loop-next l = length l.annotations - l.next
