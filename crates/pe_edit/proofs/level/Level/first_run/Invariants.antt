use Rattle.std.proofs.Common.{◌-◌}
use Rattle.pe_edit.proofs.Cited.{alike, leaf_views}
use Rattle.pe_edit.proofs.Runs.{Counts}
use Rattle.pe_edit.proofs.level.Level.first_run.Given as goal

-- the leaves so far share an entry
abbrev pub invariant-loop-n : goal.invariant-loop-n
invariant-loop-n l = Counts (alike l.self) (leaf_views l.leaves) l.n

abbrev pub decreases-loop-n : goal.decreases-loop-n
decreases-loop-n l = l.count - l.n
