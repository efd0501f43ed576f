use Rattle.std.proofs.Common.{◌≡◌, ◌-◌, ◌≤◌, length, take, drop}
use Rattle.calls_base.proofs.lists.fill.Given as goal
use Rattle.calls_base.specs.Lists.{Takes}

-- what was written is what steps returned, and after it is what was there
abbrev pub invariant-loop-count : goal.invariant-loop-count
invariant-loop-count g l = record {
  taken : Takes (g.S.Steps.steps l.steps) l.initial.walk (take l.count l.entries) l.walk;
  kept : drop l.count l.entries ≡ drop l.count l.initial.entries;
  same : length l.entries ≡ length l.initial.entries;
  inside : l.count ≤ length l.entries;
}

abbrev pub decreases-loop-count : goal.decreases-loop-count
decreases-loop-count g l = length l.initial.entries - l.count
