use Rattle.std.proofs.Common.{arith, rules}
use Rattle.pe_sign.proofs.Cited.{nat_tests}
use Rattle.pe_sign.proofs.KeptRanges.{no_range, one_range}
use Rattle.pe_sign.proofs.file_ranges.first_range.Goals as goal

pub returns-then-start-end-clause-range : goal.returns-then-start-end-clause-range
returns-then-start-end-clause-range c = search (rules, arith, no_range, nat_tests)

pub returns-clause-range : goal.returns-clause-range
returns-clause-range c = search (rules, arith, one_range)
