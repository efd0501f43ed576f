use Rattle.std.proofs.Common.{arith, rules}
use Rattle.pe_rewrite.proofs.Cited.{length-drop, take_all}
use Rattle.pe_rewrite.proofs.Removed.{cut_set}
use Rattle.pe_rewrite.proofs.put.set_cut.Goals as goal

pub returns : goal.returns
returns c = search (rules, arith, take_all, length-drop, cut_set)
