use Rattle.std.proofs.Common.{◌≡◌, drop, length, map, take}
use Rattle.calls_stacks.specs.DumpMemory.{range_in}
use Rattle.calls_stacks.proofs.dump.memory_runs.put_ranges.Given as goal

-- the first i are found, and the others as they were
abbrev pub invariant-loop-i : goal.invariant-loop-i
invariant-loop-i l = record {
  found : take l.i l.found ≡ map (range_in l.pieces) (take l.i l.asked);
  others : drop l.i l.found ≡ drop l.i l.fn.found;
  same : length l.found ≡ length l.fn.found;
}
