use Rattle.pe_edit.proofs.Records.{NamesAdded}
use Rattle.pe_edit.proofs.record.require_names.Given as goal

-- the names so far are added
abbrev pub invariant-loop-index : goal.invariant-loop-index
invariant-loop-index l = NamesAdded l.records l.sum l.index
