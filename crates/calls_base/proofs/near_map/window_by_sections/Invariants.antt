use Rattle.std.proofs.Common.{length}
use Rattle.calls_base.proofs.NearMaps.{Passed}
use Rattle.calls_base.proofs.near_map.window_by_sections.Given as goal

-- the sections that were passed cover no RVA of the window
abbrev pub invariant-loop-section : goal.invariant-loop-section
invariant-loop-section l = Passed l.alignment l.fn.sections l.left l.rva l.start l.end

-- fewer sections are left
abbrev pub decreases-loop-section : goal.decreases-loop-section
decreases-loop-section l = length l.left
