use Rattle.std.proofs.Common.{rules, arith}
use Rattle.pe_c.proofs.DumpFields.{of_list, of_stream}
use Rattle.pe_c.proofs.laws.dumps.records_are_those_of_their_kinds.Goals as goal

pub returns : goal.returns
returns c = search (rules, arith, of_list, of_stream)
