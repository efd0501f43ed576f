use Rattle.std.proofs.Common.{length}
use Rattle.pe_frame.proofs.Arm64Calls.{Reads}
use Rattle.pe_frame.proofs.arm64.record.require_codes.Given as goal

abbrev pub invariant-loop-rest : goal.invariant-loop-rest
invariant-loop-rest l = Reads l.codes l.rest

abbrev pub decreases-loop-rest : goal.decreases-loop-rest
decreases-loop-rest l = length l.rest
