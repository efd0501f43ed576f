use Rattle.std.proofs.Common.{arith}
use Rattle.pe_core.specs.Spelling.{spell_standard_fields_32}
use Rattle.pe_image.proofs.Laid.{laid_first, length_standard64, then_number}
use Rattle.pe_image.proofs.write.records.set_standard_fields_32.Goals as goal

pub returns : goal.returns
unfolding spell_standard_fields_32
returns c =
    let laid = then_number _ _ (laid_first _ 24 (omega arith) (length_standard64 c.args.header.now) c.set_standard_fields_64.ensures) c.set_u32.ensures in
    laid.same
