use Rattle.std.proofs.Common.{◌<◌, ◌^◌, arith}
use Rattle.pe_core.proofs.HexDigits.{power_small}
use Rattle.peinfo.proofs.command.number_of.Goals as goal

pub overflow_cast-result : goal.overflow_cast-result
overflow_cast-result c =
    let small : c.loop-code.number < 2 ^ 32 = power_small c.loop-code.number c.loop-code.code-index c.loop-code.invariant.small (omega arith) in
    record { fits = small }
