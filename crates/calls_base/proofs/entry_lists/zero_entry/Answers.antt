use Rattle.std.proofs.Common.{◌+◌, ◌<◌, subst, sym, arith}
use Rattle.calls_base.proofs.Cited.{le, entry_size, NoneIsZero, none_yet}
use Rattle.calls_base.proofs.entry_lists.zero_entry.Goals as goal

pub loop-start-preserved : goal.loop-start-preserved
loop-start-preserved c =
    let here : 0 < le c.args.bytes.now c.loop-start.end (entry_size c.args.is_64) = omega (arith, c.lookup_number.ensures, c.if-lookup_number-eq0.false) in
    subst (λ n. NoneIsZero (entry_size c.args.is_64) c.args.bytes.now c.args.start (c.loop-start.end + n)) (sym c.lookup_size-size.ensures)
    (none_yet c.args.is_64 c.args.bytes.now c.args.start c.loop-start.end c.loop-start.invariant here)
