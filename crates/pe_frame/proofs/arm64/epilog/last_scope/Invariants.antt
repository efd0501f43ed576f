use Rattle.std.proofs.Common.{◌≡◌, ◌*◌, ◌/◌, ◌≤◌, length}
use Rattle.pe_frame.specs.Arm64Steps.{last_scope}
use Rattle.pe_frame.proofs.arm64.epilog.last_scope.Given as goal

-- the last one is among those that are left
abbrev pub invariant-loop-count : goal.invariant-loop-count
invariant-loop-count l = record {
  same : last_scope l.scopes l.place (length l.scopes / 4) ≡ last_scope l.scopes l.place l.count;
  inside : 4 * l.count ≤ length l.scopes;
}

abbrev pub decreases-loop-count : goal.decreases-loop-count
decreases-loop-count l = l.count
