use Rattle.std.proofs.lemmas.List.{take_rest}
use Rattle.pe_frame.proofs.Arm64Calls.{none_left}
use Rattle.pe_frame.proofs.Arm64Entries.{joins_all, joins_more, joins_none}
use Rattle.pe_frame.proofs.arm64.entry.entry_of.Goals as goal

pub loop-rest-preserved : goal.loop-rest-preserved
loop-rest-preserved c =
    rw (take_rest c.loop-rest.rest.now c.in-Ok-Some.size)
    (joins_more c.args.codes.now c.loop-rest.rest.now c.in-Ok-Some.code c.in-Ok-Some.size c.loop-rest.entry c.entry_by.result c.joined-entry.result (rw c.in-Ok-Some.field-0-is at c.in-Ok-Some.ensures) c.entry_by.ensures c.joined-entry.ensures c.loop-rest.invariant)

pub returns-in-Ok-None : goal.returns-in-Ok-None
returns-in-Ok-None c = joins_all c.args.codes.now c.loop-rest.rest.now c.loop-rest.entry (rw c.in-Ok-None.field-0-is at c.in-Ok-None.ensures) c.loop-rest.invariant

pub returns-in-Err : goal.returns-in-Err
returns-in-Err c = joins_none c.args.codes.now c.loop-rest.rest.now c.loop-rest.entry _ c.in-Err.ensures c.loop-rest.invariant

pub returns : goal.returns
returns c = joins_all c.args.codes.now c.loop-rest.rest.now c.loop-rest.entry (none_left c.loop-rest.rest.now c.loop-rest-test.ensures) c.loop-rest.invariant
