use Rattle.std.proofs.Common.{◌+◌, arith}
use Rattle.pe_lookup.proofs.Lookups.{one_more}
use Rattle.pe_lookup.proofs.address_ranges.first_overlap.Goals as goal

pub loop-index-preserved : goal.loop-index-preserved
loop-index-preserved g c =
    rw (c.start-next.ensures, c.size-size.ensures)
    (one_more g.R.AddressRange.start_of g.R.AddressRange.size_of c.args.ranges.now _ (c.loop-index.start + c.loop-index.size) c.index-ranges-index.result (omega arith) c.index-ranges-index.is c.loop-index.invariant.0 c.loop-index.invariant.1
    (omega (arith, c.start-next.ensures, c.if-next-start.false, c.if-next-start-2.false)))

pub returns : goal.returns
returns g c j k d less lt = c.loop-index.invariant.0 j k d less (omega arith)
