use Rattle.pe_edit.specs.Views.{leaf_views}
use Rattle.pe_edit.proofs.Contents.{DataWritten}
use Rattle.pe_edit.proofs.put.set_data_entries.Given as goal

-- the data entries so far are written
abbrev pub invariant-loop-index : goal.invariant-loop-index
invariant-loop-index l = DataWritten l.fn.out l.out l.at l.end l.first l.rva l.index (leaf_views l.leaves)
