use Rattle.std.proofs.Common.{rules, arith}
use Rattle.pe_core.specs.Spelling.{spell_section}
use Rattle.pe_rewrite.proofs.RoomWrites.{laid_first, then_number}
use Rattle.pe_rewrite.proofs.put.set_row.Goals as goal

pub returns : goal.returns
unfolding spell_section
returns c =
    let laid = (then_number _ _ (then_number _ _ (then_number _ _ (then_number _ _ (then_number _ _ (then_number _ _ (then_number _ _ (then_number _ _ (then_number _ _ (laid_first _ 8 (omega arith) (search rules) c.set_slice.ensures) c.set_u32.ensures) c.set_u32-2.ensures) c.set_u32-3.ensures) c.set_u32-4.ensures) c.set_u32-5.ensures) c.set_u32-6.ensures) c.set_u16.ensures) c.set_u16-2.ensures) c.set_u32-7.ensures) in
    laid.same
