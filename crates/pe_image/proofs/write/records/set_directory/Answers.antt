use Rattle.std.proofs.Common.{arith}
use Rattle.pe_core.specs.Spelling.{spell_directory}
use Rattle.pe_image.proofs.Laid.{number_first, then_number}
use Rattle.pe_image.proofs.write.records.set_directory.Goals as goal

pub returns : goal.returns
unfolding spell_directory
returns c =
    let laid = (then_number _ _ (number_first _ _ (omega arith) c.set_u32.ensures) c.set_u32-2.ensures) in
    laid.same
