use Rattle.std.proofs.Common.{◌≤◌, length, ◌≡◌}
use Rattle.calls_directories.proofs.directories.delay_imports.put_dll_names.Given as goal
use Rattle.calls_directories.proofs.Cited.{IsWindow, map_of}

-- as many as there is room for
abbrev pub invariant-loop-i : goal.invariant-loop-i
invariant-loop-i l = record {
  few : l.count ≤ length l.room;
  same : length l.room ≡ length l.initial.room;
  near : IsWindow (map_of l.view) l.near;
}
