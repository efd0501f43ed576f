use Rattle.pe_pdb.specs.Lines.{RowAt}
use Rattle.pe_pdb.proofs.line.LineBlock.row_at.Given as goal

-- the row of the offset, of the rows so far
abbrev pub invariant-loop-index : goal.invariant-loop-index
invariant-loop-index l = RowAt l.self.rows.now l.index l.offset l.found
