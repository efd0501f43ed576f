use Rattle.std.proofs.Common.{arith, rules}
use Rattle.std.proofs.lemmas.List.{take_rest}
use Rattle.pe_frame.proofs.Arm64Calls.{drops_more, drops_all, drops_none}
use Rattle.pe_frame.proofs.arm64.record.after_codes.Goals as goal

pub loop-preserved : goal.loop-preserved
loop-preserved c = search (rules, arith, take_rest, drops_more)

pub returns-in-Ok-None : goal.returns-in-Ok-None
returns-in-Ok-None c =
    drops_all c.args.codes.now c.loop.rest.now c.loop.counter c.args.count (rw c.in-Ok-None.field-0-is at c.in-Ok-None.ensures) c.loop.auto.counter-end c.loop.invariant

pub returns-in-Err : goal.returns-in-Err
returns-in-Err c = drops_none c.args.codes.now c.loop.rest.now _ c.loop.counter c.args.count c.in-Err.ensures c.loop.invariant
