use Rattle.std.proofs.Common.{◌≡◌, ◌≤◌, ◌-◌, ◌%◌, ◌==◌, drop, length}
use Rattle.pe_version.proofs.Cited.{not, list_all, units}
use Rattle.pe_version.proofs.block.key_fits.Given as goal

-- the code units so far are not zero
abbrev pub invariant-loop-at : goal.invariant-loop-at
invariant-loop-at l = record {
  inside : l.at ≤ length l.key;
  even : l.at % 2 ≡ 0;
  same : list_all (λ u. not (u == 0)) (units (drop l.at l.key)) ≡ list_all (λ u. not (u == 0)) (units l.key);
}

abbrev pub decreases-loop-at : goal.decreases-loop-at
decreases-loop-at l = length l.key - l.at
