use Rattle.pe_edit.specs.Views.{leaf_views}
use Rattle.pe_edit.proofs.Contents.{ContentsWritten}
use Rattle.pe_edit.proofs.put.set_contents.Given as goal

-- the contents so far are written
abbrev pub invariant-loop-index : goal.invariant-loop-index
invariant-loop-index l = ContentsWritten l.fn.out l.out l.at l.end l.index (leaf_views l.leaves)
