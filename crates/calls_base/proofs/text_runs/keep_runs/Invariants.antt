use Rattle.std.proofs.Common.{◌≤◌, All, take, length, ◌≡◌}
use Rattle.calls_base.specs.TextRuns.{IsTextRun}
use Rattle.calls_base.proofs.text_runs.keep_runs.Given as goal

-- those that are kept are runs of the bytes
abbrev pub invariant-loop-i : goal.invariant-loop-i
invariant-loop-i l = record {
  runs : All (IsTextRun l.bytes) (take l.count l.room);
  few : l.count ≤ l.i;
  same : length l.room ≡ length l.initial.room;
}
