use Rattle.std.proofs.Common.{◌≡◌, ◌≤◌, length, take}
use Rattle.pe_stacks.specs.MemoryRuns.{AreApart}
use Rattle.pe_stacks.proofs.RunSteps.{Running}
use Rattle.pe_stacks.proofs.runs.put_runs.Given as goal

-- the runs of the entries so far
abbrev pub invariant-loop-index : goal.invariant-loop-index
invariant-loop-index l = record {
  running : Running l.pieces l.entries l.index (take l.count l.room);
  apart : AreApart (take l.count l.room);
  few : l.count ≤ l.index;
  same : length l.room ≡ length l.fn.room;
}
