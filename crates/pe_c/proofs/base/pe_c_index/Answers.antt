use Rattle.std.proofs.Common.{rules, arith}
use Rattle.calls_base.proofs.IndexMaps.{searched_all, unsearched}
use Rattle.pe_c.proofs.base.pe_c_index.Goals as goal

pub returns-then-not-is_searched : goal.returns-then-not-is_searched
returns-then-not-is_searched c = unsearched _ _ _ (search rules)

pub returns-in-Ok : goal.returns-in-Ok
returns-in-Ok c = search (rules, arith, searched_all)
