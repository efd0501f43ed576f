use Rattle.std.proofs.Common.{◌-◌}
use Rattle.pe_edit.specs.Views.{leaf_views}
use Rattle.pe_edit.proofs.Entries.{Measured}
use Rattle.pe_edit.proofs.level.Level.measure.Given as goal

-- the entries so far are counted
abbrev pub invariant-loop-start : goal.invariant-loop-start
invariant-loop-start l = Measured l.self (leaf_views l.leaves) l.sum l.start

abbrev pub decreases-loop-start : goal.decreases-loop-start
decreases-loop-start l = l.count - l.start
