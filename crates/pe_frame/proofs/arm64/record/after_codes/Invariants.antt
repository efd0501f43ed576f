use Rattle.pe_frame.proofs.Arm64Calls.{Drops}
use Rattle.pe_frame.proofs.arm64.record.after_codes.Given as goal

abbrev pub invariant-loop : goal.invariant-loop
invariant-loop l = Drops l.codes l.rest l.counter
