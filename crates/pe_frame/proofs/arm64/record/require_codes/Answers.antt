use Rattle.std.proofs.lemmas.List.{take_rest}
use Rattle.pe_frame.proofs.Arm64Calls.{none_left, reads_more, reads_error, reads_all}
use Rattle.pe_frame.proofs.arm64.record.require_codes.Goals as goal

pub loop-rest-preserved : goal.loop-rest-preserved
loop-rest-preserved c =
    rw (take_rest c.loop-rest.rest.now c.in-Ok-Some.size)
    (reads_more c.args.codes.now c.loop-rest.rest.now _ c.in-Ok-Some.size (rw c.in-Ok-Some.field-0-is at c.in-Ok-Some.ensures) c.loop-rest.invariant)

pub returns-in-Ok-None : goal.returns-in-Ok-None
returns-in-Ok-None c = reads_all c.args.codes.now c.loop-rest.rest.now (rw c.in-Ok-None.field-0-is at c.in-Ok-None.ensures) c.loop-rest.invariant

pub returns-in-Err : goal.returns-in-Err
returns-in-Err c = reads_error c.args.codes.now c.loop-rest.rest.now _ c.in-Err.ensures c.loop-rest.invariant

pub returns : goal.returns
returns c = reads_all c.args.codes.now c.loop-rest.rest.now (none_left c.loop-rest.rest.now c.loop-rest-test.ensures) c.loop-rest.invariant
