use Rattle.pe_pdb.specs.Contributions.{contribution_at, contributions_view, module_range}
use Rattle.pe_pdb.proofs.ModuleRanges.{Written}
use Rattle.pe_pdb.proofs.contribution.SectionContributions.put_ranges.Given as goal

-- the ranges before the one with this index are written
abbrev pub invariant-loop-index : goal.invariant-loop-index
invariant-loop-index l = Written (λ i. module_range l.sections.bytes.now (contribution_at (contributions_view l.self) i)) l.ranges l.index
