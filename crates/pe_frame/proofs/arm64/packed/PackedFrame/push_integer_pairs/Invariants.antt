use Rattle.std.proofs.Common.{◌≡◌, ◌/◌, ◌≤◌, List, ◌++◌}
use Rattle.pe_frame.proofs.Cited.{Arm64UnwindCode, extended, integer_pairs}
use Rattle.pe_frame.proofs.arm64.packed.PackedFrame.push_integer_pairs.Given as goal

-- adding those that are left is adding all
abbrev pub invariant-loop-index : goal.invariant-loop-index
invariant-loop-index l = record {
  added : (more : List Arm64UnwindCode) → extended l.codes (integer_pairs l.self l.index ++ more) ≡ extended l.initial.codes (integer_pairs l.self (l.self.integers / 2) ++ more);
  few : l.index ≤ 7;
}

abbrev pub decreases-loop-index : goal.decreases-loop-index
decreases-loop-index l = l.index
