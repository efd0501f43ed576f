use Rattle.std.proofs.Common.{◌≤◌, length, ◌≡◌}
use Rattle.calls_directories.proofs.names.export_texts.put_text_offsets.Given as goal
use Rattle.calls_directories.proofs.Cited.{AreNear, map_of}

-- as many as there is room for
abbrev pub invariant-loop-i : goal.invariant-loop-i
invariant-loop-i l = record {
  few : l.count ≤ length l.room;
  same : length l.room ≡ length l.initial.room;
  near : AreNear (map_of l.view) l.windows;
}
