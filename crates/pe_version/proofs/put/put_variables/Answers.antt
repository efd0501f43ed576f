use Rattle.std.proofs.Common.{arith, rules}
use Rattle.pe_version.proofs.Cited.{length-map}
use Rattle.pe_version.proofs.Heads.{variables_put, variables_short, variables_size}
use Rattle.pe_version.proofs.put.put_variables.Goals as goal

pub put_pairs-requires : goal.put_pairs-requires
put_pairs-requires c = search (rules, arith, variables_size, length-map)

pub put_head-requires : goal.put_head-requires
put_head-requires c = search (rules, arith, variables_short, length-map, variables_size)

pub put_head-requires-2-clause-size : goal.put_head-requires-2-clause-size
put_head-requires-2-clause-size c = search (rules, arith, variables_short, length-map)

pub overflow_add-result-3 : goal.overflow_add-result-3
overflow_add-result-3 c = search (rules, arith, variables_size, length-map)

pub returns-clause-after : goal.returns-clause-after
returns-clause-after c = search (rules, arith, length-map, variables_put, variables_size)

pub returns-clause-end : goal.returns-clause-end
returns-clause-end c = search (rules, arith, variables_size, length-map)
