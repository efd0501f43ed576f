use Rattle.std.proofs.Common.{length}
use Rattle.pe_frame.proofs.Arm64Entries.{Joins}
use Rattle.pe_frame.proofs.arm64.entry.entry_of.Given as goal

abbrev pub invariant-loop-rest : goal.invariant-loop-rest
invariant-loop-rest l = Joins l.codes l.rest l.entry

abbrev pub decreases-loop-rest : goal.decreases-loop-rest
decreases-loop-rest l = length l.rest
