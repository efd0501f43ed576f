use Rattle.std.proofs.Common.{arith}
use Rattle.pe_frame.proofs.PlainRecords.{saved}
use Rattle.pe_frame.proofs.plain.plain_code.Goals as goal

pub returns-clause-code : goal.returns-clause-code
returns-clause-code c =
    rw (c.from-offset.ensures, c.read_u16.ensures)
    (saved c.args.bytes.now (omega (arith, c.if-bytes.false)) (omega (arith, c.if-bytes-ne-UWOP_SAVE_NONVOL.false)))
