use Rattle.pe_version.proofs.Cited.{least_of_string, Added}
use Rattle.pe_version.proofs.record.strings_added.Given as goal

-- the strings so far are added
abbrev pub invariant-loop-index : goal.invariant-loop-index
invariant-loop-index l = Added least_of_string 65535 l.strings l.fn.sum l.end l.index
