use Rattle.std.proofs.Common.{rules, arith}
use Rattle.pe_c.proofs.Cited.{give_lists}
use Rattle.pe_c.proofs.laws.lists.lists_are_what_steps_return.Goals as goal

pub returns : goal.returns
returns c = search (rules, arith, give_lists)
