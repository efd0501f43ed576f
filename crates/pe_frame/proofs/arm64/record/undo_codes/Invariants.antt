use Rattle.std.proofs.Common.{◌+◌, ◌≤◌, length}
use Rattle.pe_frame.proofs.Arm64Calls.{Undoing}
use Rattle.pe_frame.proofs.arm64.record.undo_codes.Given as goal

abbrev pub invariant-loop-code : goal.invariant-loop-code
invariant-loop-code g l = record {
  undone : Undoing (g.M.Memory.word l.memory) l.codes l.rest l.nexts l.current l.fn.registers;
  few : l.nexts + length l.rest ≤ length l.codes;
}

abbrev pub decreases-loop-code : goal.decreases-loop-code
decreases-loop-code g l = length l.rest
