use Rattle.pe_edit.specs.RecordRefusals.{content_length}
use Rattle.pe_edit.proofs.Records.{Added}
use Rattle.pe_edit.proofs.record.require_contents.Given as goal

-- the contents so far are added
abbrev pub invariant-loop-index : goal.invariant-loop-index
invariant-loop-index l = Added content_length l.most l.records 0 l.sum l.index
