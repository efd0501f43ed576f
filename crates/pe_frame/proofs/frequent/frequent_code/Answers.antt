use Rattle.std.proofs.Common.{arith}
use Rattle.pe_frame.proofs.FrequentCodes.{allocated, allocated_more, pushed}
use Rattle.pe_frame.proofs.frequent.frequent_code.Goals as goal

pub returns-then-bytes-eq-UWOP_PUSH_NONVOL-clause-code : goal.returns-then-bytes-eq-UWOP_PUSH_NONVOL-clause-code
returns-then-bytes-eq-UWOP_PUSH_NONVOL-clause-code c =
    pushed c.args.bytes.now (omega (arith, c.if-bytes-lt-SIZE_OF_SLOT.false)) (omega (arith, c.if-bytes-eq-UWOP_PUSH_NONVOL.true))

pub returns-then-bytes-eq-UWOP_ALLOC_SMALL-clause-code : goal.returns-then-bytes-eq-UWOP_ALLOC_SMALL-clause-code
returns-then-bytes-eq-UWOP_ALLOC_SMALL-clause-code c =
    rw (c.from.ensures) (allocated c.args.bytes.now (omega (arith, c.if-bytes-lt-SIZE_OF_SLOT.false)) (omega (arith, c.if-bytes-eq-UWOP_ALLOC_SMALL.true)))

pub returns-then-bytes-eq-UWOP_ALLOC_LARGE-clause-code : goal.returns-then-bytes-eq-UWOP_ALLOC_LARGE-clause-code
returns-then-bytes-eq-UWOP_ALLOC_LARGE-clause-code c =
    let e = c.if-bytes-eq-UWOP_ALLOC_LARGE.true in
    rw (c.from-size.ensures, c.read_u16.ensures)
    (allocated_more c.args.bytes.now (omega (arith, c.if-bytes.true)) (omega (arith, e)) (omega (arith, e)))
