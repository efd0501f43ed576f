use Rattle.std.proofs.Common.{arith}
use Rattle.std.proofs.lemmas.Grind.{common_steps}
use Rattle.pe_frame.proofs.arm64.undo.undo_save_each.Goals as goal

pub returns : goal.returns
returns g c = grind (arith, common_steps)
