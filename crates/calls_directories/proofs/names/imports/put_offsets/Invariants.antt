use Rattle.std.proofs.Common.{◌≤◌, length, ◌≡◌}
use Rattle.calls_directories.proofs.names.imports.put_offsets.Given as goal
use Rattle.calls_directories.proofs.Cited.{IsWindow, map_of}

-- one for each record at most
abbrev pub invariant-loop-i : goal.invariant-loop-i
invariant-loop-i l = record {
  few : l.count ≤ l.i;
  same : length l.room ≡ length l.initial.room;
  near : IsWindow (map_of l.view) l.near;
}
