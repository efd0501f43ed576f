use Rattle.std.proofs.Common.{rules, arith}
use Rattle.pe_sign.proofs.Splices.{length-padded}
use Rattle.pe_sign.proofs.Writes.{two_set}
use Rattle.pe_sign.proofs.put.set_joined.Goals as goal

pub returns : goal.returns
returns c = search (rules, arith, two_set, length-padded)
