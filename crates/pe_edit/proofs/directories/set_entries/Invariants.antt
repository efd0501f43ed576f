use Rattle.std.proofs.Common.{◌-◌}
use Rattle.pe_edit.specs.Views.{leaf_views}
use Rattle.pe_edit.proofs.Entries.{EntriesWritten}
use Rattle.pe_edit.proofs.directories.set_entries.Given as goal

-- the entries so far are written
abbrev pub invariant-loop-start : goal.invariant-loop-start
invariant-loop-start l = EntriesWritten l.fn.out l.out l.fn.at l.now l.level (leaf_views l.leaves) l.start

abbrev pub decreases-loop-start : goal.decreases-loop-start
decreases-loop-start l = l.count - l.start
