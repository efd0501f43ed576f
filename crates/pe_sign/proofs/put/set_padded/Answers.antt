use Rattle.std.proofs.Common.{arith, rules}
use Rattle.pe_sign.proofs.Cited.{padded, splice-splice}
use Rattle.pe_sign.proofs.put.set_padded.Goals as goal

pub returns : goal.returns
unfolding padded
returns c = search (rules, arith, splice-splice)
