use Rattle.std.proofs.Common.{sym, ◌∙◌, arith}
use Rattle.std.proofs.lemmas.List.{take_rest, length-drop}
use Rattle.pe_frame.proofs.Arm64Calls.{none_left, counts_more, counts_end, counts_all, counts_none}
use Rattle.pe_frame.proofs.arm64.record.prolog_length.Goals as goal

pub returns-then-is_end_c : goal.returns-then-is_end_c
returns-then-is_end_c c =
    counts_end c.args.codes.now c.loop-rest.rest.now c.in-Ok-Some.code c.in-Ok-Some.size c.loop-rest.length (rw c.in-Ok-Some.field-0-is at c.in-Ok-Some.ensures) (sym c.is_end_c.ensures ∙ c.if-is_end_c.true) c.loop-rest.invariant.counted

pub loop-rest-preserved : goal.loop-rest-preserved
loop-rest-preserved c =
    let first = rw c.in-Ok-Some.field-0-is at c.in-Ok-Some.ensures in
    rw (take_rest c.loop-rest.rest.now c.in-Ok-Some.size)
    (record {
      counted = counts_more c.args.codes.now c.loop-rest.rest.now c.in-Ok-Some.code c.in-Ok-Some.size c.loop-rest.length first (sym c.is_end_c.ensures ∙ c.if-is_end_c.false) c.loop-rest.invariant.counted;
      few = omega (arith, c.loop-rest.invariant.few, first.3, first.4, length-drop c.in-Ok-Some.size c.loop-rest.rest.now);
    })

pub returns-in-Ok-None : goal.returns-in-Ok-None
returns-in-Ok-None c =
    counts_all c.args.codes.now c.loop-rest.rest.now c.loop-rest.length (rw c.in-Ok-None.field-0-is at c.in-Ok-None.ensures) c.loop-rest.invariant.counted

pub returns-in-Err : goal.returns-in-Err
returns-in-Err c = counts_none c.args.codes.now c.loop-rest.rest.now _ c.loop-rest.length c.in-Err.ensures c.loop-rest.invariant.counted

pub returns : goal.returns
returns c =
    counts_all c.args.codes.now c.loop-rest.rest.now c.loop-rest.length (none_left c.loop-rest.rest.now c.loop-rest-test.ensures) c.loop-rest.invariant.counted
