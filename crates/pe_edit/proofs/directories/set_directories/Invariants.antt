use Rattle.std.proofs.Common.{◌-◌}
use Rattle.pe_edit.specs.Views.{leaf_views}
use Rattle.pe_edit.proofs.DirectoryLoops.{DirectoriesWritten}
use Rattle.pe_edit.proofs.directories.set_directories.Given as goal

-- the directories so far are written
abbrev pub invariant-loop-start : goal.invariant-loop-start
invariant-loop-start l = DirectoriesWritten l.fn.out l.out l.fn.at l.now l.level (leaf_views l.leaves) l.start

abbrev pub decreases-loop-start : goal.decreases-loop-start
decreases-loop-start l = l.count - l.start
