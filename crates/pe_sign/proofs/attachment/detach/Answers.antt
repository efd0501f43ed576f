use Rattle.std.proofs.Common.{arith}
use Rattle.std.proofs.lemmas.Grind.{common_steps}
use Rattle.pe_sign.proofs.Cited.{err_from_is_err_and}
use Rattle.pe_sign.proofs.Tests.{detached_value, written_short}
use Rattle.pe_sign.proofs.Writes.{length-detached}
use Rattle.pe_sign.proofs.attachment.detach.Goals as goal

pub returns-in_err-require_room-clause-written : goal.returns-in_err-require_room-clause-written
returns-in_err-require_room-clause-written c =
    grind (arith, common_steps, err_from_is_err_and, written_short, detached_value, length-detached)
