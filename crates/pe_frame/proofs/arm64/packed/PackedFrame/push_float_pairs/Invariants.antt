use Rattle.std.proofs.Common.{◌≡◌, ◌/◌, ◌≤◌, List, ◌++◌}
use Rattle.pe_frame.proofs.Cited.{Arm64UnwindCode, extended, float_pairs}
use Rattle.pe_frame.proofs.arm64.packed.PackedFrame.push_float_pairs.Given as goal

-- adding those that are left is adding all
abbrev pub invariant-loop-index : goal.invariant-loop-index
invariant-loop-index l = record {
  added : (more : List Arm64UnwindCode) → extended l.codes (float_pairs l.self l.index ++ more) ≡ extended l.initial.codes (float_pairs l.self (l.self.floats / 2) ++ more);
  few : l.index ≤ 4;
}

abbrev pub decreases-loop-index : goal.decreases-loop-index
decreases-loop-index l = l.index
