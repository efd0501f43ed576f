use Rattle.std.proofs.Common.{◌≡◌, ◌-◌, ◌≤◌, length}
use Rattle.calls_unwind.proofs.lists.x64.put_frequent.Given as goal
use Rattle.calls_unwind.specs.CodeBytes.{HasCodes}

-- what was written are the codes so far
abbrev pub invariant-loop-count : goal.invariant-loop-count
invariant-loop-count l = record {
  has : HasCodes l.initial.codes l.codes l.initial.entries l.entries l.count;
  same : length l.entries ≡ length l.initial.entries;
  inside : l.count ≤ length l.entries;
}

abbrev pub decreases-loop-count : goal.decreases-loop-count
decreases-loop-count l = length l.initial.entries - l.count
