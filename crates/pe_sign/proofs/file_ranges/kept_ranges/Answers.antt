use Rattle.std.proofs.Common.{rules, arith}
use Rattle.pe_sign.proofs.RangeSteps.{four_ranges}
use Rattle.pe_sign.proofs.file_ranges.kept_ranges.Goals as goal

pub returns : goal.returns
returns c = search (rules, arith, four_ranges)
