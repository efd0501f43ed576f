use Rattle.std.proofs.Common.{rules, arith}
use Rattle.pe_c.proofs.Cited.{eqb-true, block_at, block_with, file_asked, file_short_after}
use Rattle.pe_c.proofs.write.pe_c_write_block.Goals as goal

pub returns-then-is_empty : goal.returns-then-is_empty
returns-then-is_empty c = search (rules, arith, file_asked, eqb-true)

pub returns-then-number-eq-WRITE_FIT : goal.returns-then-number-eq-WRITE_FIT
returns-then-number-eq-WRITE_FIT c =
    file_short_after (block_at (block_with c.args.key.now c.args.is_text c.args.value.now c.args.children.now)) c.block_length-then-number-eq-WRITE_FIT.result
    c.hand_out_length-then-number-eq-WRITE_FIT.result c.args.written.now c.hand_out_length-then-number-eq-WRITE_FIT.new.out c.in-Err.number c.args.room.now c.write_to.new.room
    c.in-Err.ensures.0 c.in-Err.ensures.1 c.block_length-then-number-eq-WRITE_FIT.ensures c.hand_out_length-then-number-eq-WRITE_FIT.ensures
