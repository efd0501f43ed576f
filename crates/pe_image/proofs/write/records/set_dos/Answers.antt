use Rattle.std.proofs.Common.{rules, arith}
use Rattle.pe_core.specs.Spelling.{spell_dos}
use Rattle.pe_image.proofs.Laid.{laid_next, number_first, then_number}
use Rattle.pe_image.proofs.write.records.set_dos.Goals as goal

pub returns : goal.returns
unfolding spell_dos
returns c =
    let laid = (then_number _ _ (laid_next _ 58 (number_first _ _ (omega arith) c.set_u16.ensures) (search rules) c.set_slice.ensures) c.set_u32.ensures) in
    laid.same
