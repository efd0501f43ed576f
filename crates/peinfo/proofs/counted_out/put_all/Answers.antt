use Rattle.std.proofs.Common.{arith}
use Rattle.std.proofs.lemmas.Grind.{common_steps}
use Rattle.peinfo.proofs.Writing.{stops}
use Rattle.peinfo.proofs.counted_out.put_all.Goals as goal

pub returns-in-None-clause-beginning : goal.returns-in-None-clause-beginning
returns-in-None-clause-beginning g c = stops _ _ _ _ _ c.loop-rest.invariant.part (grind (arith, common_steps)) c.in-None.ensures.none
