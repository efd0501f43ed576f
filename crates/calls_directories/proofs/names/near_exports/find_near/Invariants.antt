use Rattle.calls_directories.proofs.names.near_exports.find_near.Given as goal
use Rattle.calls_directories.proofs.Cited.{HaveNone, reported_entry, view_of, AreNear, map_of}

-- no entry before the i-th has an export
abbrev pub invariant-loop-i : goal.invariant-loop-i
invariant-loop-i l = record {
  none : HaveNone (reported_entry (map_of l.names.view.now) l.names.view.now.bytes.now l.directory (view_of l.tables)) l.from l.i;
  near : AreNear (map_of l.names.view.now) l.windows;
}
