use Rattle.std.proofs.Common.{arith}
use Rattle.calls_unwind.proofs.CodeBytes.{allocated, allocated_more, pushed_in}
use Rattle.calls_unwind.proofs.lists.x64.frequent_code.Goals as goal

pub returns-then-slot-eq-UWOP_PUSH_NONVOL : goal.returns-then-slot-eq-UWOP_PUSH_NONVOL
returns-then-slot-eq-UWOP_PUSH_NONVOL c =
    rw c.plain.ensures (pushed_in c.args.bytes.now c.read_u16-slot.result (omega (arith, c.if-bytes-lt-SIZE_OF_SLOT.false)) c.read_u16-slot.ensures (omega (arith, c.type_inv.bytes 0)) c.if-slot-eq-UWOP_PUSH_NONVOL.true)

pub returns-then-bytes-eq-UWOP_ALLOC_SMALL : goal.returns-then-bytes-eq-UWOP_ALLOC_SMALL
returns-then-bytes-eq-UWOP_ALLOC_SMALL c =
    rw (c.plain-then-bytes-eq-UWOP_ALLOC_SMALL.ensures, c.from.ensures) (allocated c.args.bytes.now (omega (arith, c.if-bytes-lt-SIZE_OF_SLOT.false)) (omega (arith, c.if-bytes-eq-UWOP_ALLOC_SMALL.true)))

pub returns-then-bytes-eq-UWOP_ALLOC_LARGE : goal.returns-then-bytes-eq-UWOP_ALLOC_LARGE
returns-then-bytes-eq-UWOP_ALLOC_LARGE c =
    let e = c.if-bytes-eq-UWOP_ALLOC_LARGE.true in
    rw (c.plain-then-bytes-eq-UWOP_ALLOC_LARGE.ensures, c.from-size.ensures, c.read_u16.ensures)
    (allocated_more c.args.bytes.now (omega (arith, c.if-bytes.true)) (omega (arith, e)) (omega (arith, e)))
