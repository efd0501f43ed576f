use Rattle.pe_version.proofs.Cited.{least_of_table, Added}
use Rattle.pe_version.proofs.record.require_short.Given as goal

-- the tables so far are added
abbrev pub invariant-loop-index : goal.invariant-loop-index
invariant-loop-index l = Added (least_of_table l.strings) 65535 l.tables 0 l.end l.index
