use Rattle.std.proofs.Common.{◌-◌, ◌≤◌, length}
use Rattle.pe_core.specs.ZeroRuns.{HasNoZero}
use Rattle.pe_core.proofs.first_zero.first_zero.Given as goal

-- the bytes so far are not zero
abbrev pub invariant-loop-at : goal.invariant-loop-at
invariant-loop-at l = record {
  within : l.at ≤ length l.bytes;
  passed : HasNoZero l.bytes 0 l.at;
}

abbrev pub decreases-loop-at : goal.decreases-loop-at
decreases-loop-at l = length l.bytes - l.at
