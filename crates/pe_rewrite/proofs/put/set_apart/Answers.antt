use Rattle.std.proofs.Common.{arith, rules}
use Rattle.pe_rewrite.proofs.Cited.{length-drop, take_all}
use Rattle.pe_rewrite.proofs.RoomWrites.{apart_set}
use Rattle.pe_rewrite.proofs.put.set_apart.Goals as goal

pub returns : goal.returns
returns c = search (rules, arith, take_all, length-drop, apart_set)
