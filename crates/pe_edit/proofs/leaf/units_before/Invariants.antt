use Rattle.std.proofs.Common.{◌≡◌, ◌≤◌, ◌-◌, drop, length}
use Rattle.pe_edit.proofs.Cited.{units, units_before}
use Rattle.pe_edit.proofs.leaf.units_before.Given as goal

-- the code units so far are equal
abbrev pub invariant-loop-at : goal.invariant-loop-at
invariant-loop-at l = record {
  first : l.at ≤ length l.first;
  second : l.at ≤ length l.second;
  same : units_before (units (drop l.at l.first)) (units (drop l.at l.second)) ≡ units_before (units l.first) (units l.second);
}

abbrev pub decreases-loop-at : goal.decreases-loop-at
decreases-loop-at l = length l.first - l.at
