use Rattle.std.proofs.Common.{◌<◌, arith}
use Rattle.pe_frame.proofs.PlainFrames.{called}
use Rattle.pe_frame.proofs.walk.becomes_caller_by_plain_record.Goals as goal

pub returns-in-Some-clause-caller : goal.returns-in-Some-clause-caller
returns-in-Some-clause-caller g c is =
    let found = c.args.found.now in
    let frame = c.args.frame.now in
    let some : 0 < c.in-Some.rip = omega (arith, c.if-rip-ne0.true) in
    called (g.M.Memory.word c.args.memory.now) (g.L.CallSites.list c.args.modules.now) found.module.now found.exceptions.now found.function frame c.found_in.new.frame c.args.rva c.in-Some.rip
    c.step_by_plain_record.new.general c.if-not-frame.false c.requires some (c.in-Some.ensures frame.registers) c.found_in.ensures
