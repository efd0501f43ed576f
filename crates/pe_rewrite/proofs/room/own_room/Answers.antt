use Rattle.std.proofs.Common.{rules, arith}
use Rattle.pe_rewrite.proofs.Results.{then_is}
use Rattle.pe_rewrite.proofs.room.own_room.Goals as goal

pub returns : goal.returns
returns c = search (rules, arith, then_is)
