use Rattle.std.proofs.Common.{rules, arith}
use Rattle.calls_unwind.proofs.RecordRanges.{scopes_of_info, codes_of_info, handler_of_info}
use Rattle.pe_c.proofs.laws.ranges_of_arm64_records.Goals as goal

pub returns : goal.returns
returns c = search (rules, arith, scopes_of_info, codes_of_info, handler_of_info)
