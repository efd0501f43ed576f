use Rattle.std.proofs.Common.{length}
use Rattle.pe_directories.proofs.SectionRuns.{Passed}
use Rattle.pe_directories.proofs.section_runs.run_by_sections.Given as goal

-- the sections that were passed cover no RVA of the run
abbrev pub invariant-loop-section : goal.invariant-loop-section
invariant-loop-section l = Passed l.alignment l.fn.sections l.left l.fn.rva l.end

-- fewer sections are left
abbrev pub decreases-loop-section : goal.decreases-loop-section
decreases-loop-section l = length l.left
