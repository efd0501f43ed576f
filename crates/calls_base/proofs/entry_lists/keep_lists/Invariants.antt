use Rattle.std.proofs.Common.{◌≡◌, ◌≤◌, All, length, take}
use Rattle.calls_base.proofs.Cited.{entry_size, IsEntryRun}
use Rattle.calls_base.proofs.entry_lists.keep_lists.Given as goal

-- those that are kept are lists of the bytes
abbrev pub invariant-loop-i : goal.invariant-loop-i
invariant-loop-i l = record {
  lists : All (IsEntryRun (entry_size l.is_64) l.bytes) (take l.count l.room);
  few : l.count ≤ l.i;
  same : length l.room ≡ length l.initial.room;
}
