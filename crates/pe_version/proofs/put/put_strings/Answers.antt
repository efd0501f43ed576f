use Rattle.std.proofs.Common.{arith, rules}
use Rattle.pe_version.proofs.Heads.{parent_put, tables_four}
use Rattle.pe_version.proofs.Measures.{before_four}
use Rattle.pe_version.proofs.put.put_strings.Goals as goal

pub returns-clause-after : goal.returns-clause-after
returns-clause-after c = search (rules, arith, before_four, parent_put, tables_four)

pub returns-clause-end : goal.returns-clause-end
returns-clause-end c = search (rules, arith, tables_four, before_four)
