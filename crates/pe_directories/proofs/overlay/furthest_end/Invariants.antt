use Rattle.std.proofs.Common.{◌≡◌, length}
use Rattle.pe_directories.specs.Overlays.{furthest_end}
use Rattle.pe_directories.proofs.overlay.furthest_end.Given as goal

-- the furthest end of what is left, from the one so far on, is that of all
abbrev pub invariant-loop-first : goal.invariant-loop-first
invariant-loop-first l = furthest_end l.end l.left ≡ furthest_end l.size_of_headers l.sections

-- fewer sections are left
abbrev pub decreases-loop-first : goal.decreases-loop-first
decreases-loop-first l = length l.left
