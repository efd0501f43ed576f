use Rattle.std.proofs.Common.{◌≡◌, ◌-◌, ◌≤◌, List, length}
use Rattle.calls_unwind.proofs.lists.x64.put_any.Given as goal
use Rattle.calls_unwind.proofs.Cited.{HasCodes, CodeBytes, Code}

-- what was written are the codes so far, after those that stood there
abbrev pub invariant-loop-count : goal.invariant-loop-count
invariant-loop-count l = record {
  has : (s : CodeBytes) (before : List Code) → HasCodes s l.initial.first before l.initial.entries l.initial.from → HasCodes s l.codes before l.entries l.count;
  same : length l.entries ≡ length l.initial.entries;
  inside : l.count ≤ length l.entries;
}

abbrev pub decreases-loop-count : goal.decreases-loop-count
decreases-loop-count l = length l.initial.entries - l.count
