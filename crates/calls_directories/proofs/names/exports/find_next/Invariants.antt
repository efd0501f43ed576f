use Rattle.calls_directories.proofs.names.exports.find_next.Given as goal
use Rattle.calls_directories.proofs.Cited.{HaveNone, reported_entry, view_of, map_kept}

-- no entry before the i-th has an export
abbrev pub invariant-loop-i : goal.invariant-loop-i
invariant-loop-i l = HaveNone (reported_entry (map_kept l.names.view.now l.kept) l.names.view.now.bytes.now l.directory (view_of l.tables)) l.from l.i
