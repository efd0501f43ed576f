use Rattle.std.proofs.Common.{◌-◌, ◌≤◌, true}
use Rattle.pe_sign.proofs.Cited.{is_left_out, Between}
use Rattle.pe_sign.proofs.file_ranges.first_kept.Given as goal

-- the offsets so far are left out
abbrev pub invariant-loop-at : goal.invariant-loop-at
invariant-loop-at l = record {
  after : l.from ≤ l.at;
  within : l.at ≤ l.end;
  passed : Between (is_left_out l.left_out) true l.from l.at;
}

abbrev pub decreases-loop-at : goal.decreases-loop-at
decreases-loop-at l = l.end - l.at
