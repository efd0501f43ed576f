use Rattle.std.proofs.Common.{◌≤◌, ◌+◌, ◌^◌, length}
use Rattle.calls_base.proofs.ViewRuns.{SearchesAlike}
use Rattle.calls_base.proofs.loaded.started_until.Given as goal

abbrev pub invariant-loop-bits : goal.invariant-loop-bits
invariant-loop-bits l = record {
  alike : SearchesAlike l.entries l.rva l.bits l.count l.end;
  bits : l.bits ≤ 64;
  inside : l.count ≤ length l.entries;
  small : l.count + 2 ^ l.bits ≤ 2 ^ 64;
}

abbrev pub decreases-loop-bits : goal.decreases-loop-bits
decreases-loop-bits l = l.bits
