use Rattle.std.proofs.Common.{arith}
use Rattle.std.proofs.lemmas.Grind.{common_steps}
use Rattle.pe_image.proofs.Cited.{err_from_is_err_and}
use Rattle.pe_image.proofs.Ends.{too_long}
use Rattle.pe_image.proofs.write.image.ImageWriter.require_pieces.Goals as goal

pub returns-in_err-needed : goal.returns-in_err-needed
returns-in_err-needed c = grind (arith, common_steps, err_from_is_err_and, too_long)
