use Rattle.std.proofs.Common.{arith, rules}
use Rattle.pe_pdb.proofs.ModuleRanges.{all_written, one_more}
use Rattle.pe_pdb.proofs.contribution.SectionContributions.put_ranges.Goals as goal

pub loop-index-preserved : goal.loop-index-preserved
loop-index-preserved c = search (rules, arith, one_more)

pub returns : goal.returns
returns c = search (rules, arith, all_written)
