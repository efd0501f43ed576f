use Rattle.std.proofs.Common.{◌+◌, ◌≤◌, length}
use Rattle.pe_frame.proofs.Arm64Calls.{Counts}
use Rattle.pe_frame.proofs.arm64.record.prolog_length.Given as goal

abbrev pub invariant-loop-rest : goal.invariant-loop-rest
invariant-loop-rest l = record { counted : Counts l.codes l.rest l.length; few : l.length + length l.rest ≤ length l.codes }

abbrev pub decreases-loop-rest : goal.decreases-loop-rest
decreases-loop-rest l = length l.rest
