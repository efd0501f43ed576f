use Rattle.std.proofs.Common.{◌-◌}
use Rattle.pe_edit.specs.Views.{leaf_views}
use Rattle.pe_edit.proofs.Entries.{NamesWritten}
use Rattle.pe_edit.proofs.put.set_names.Given as goal

-- the names so far are written
abbrev pub invariant-loop-start : goal.invariant-loop-start
invariant-loop-start l = NamesWritten l.fn.out l.out l.at l.end l.level (leaf_views l.leaves) l.start

abbrev pub decreases-loop-start : goal.decreases-loop-start
decreases-loop-start l = l.count - l.start
