use Rattle.std.proofs.Common.{arith}
use Rattle.pe_lookup.proofs.IndexSearches.{by_length}
use Rattle.pe_lookup.proofs.section_index.started.Goals as goal

pub returns-clause-count : goal.returns-clause-count
returns-clause-count c = by_length c.args.entries.now c.args.rva c.started.result (omega arith) c.started.ensures.count
