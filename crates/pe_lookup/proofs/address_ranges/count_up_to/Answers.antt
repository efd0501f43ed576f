use Rattle.pe_lookup.proofs.Halving.{counts_up}
use Rattle.pe_lookup.proofs.address_ranges.count_up_to.Goals as goal

pub returns : goal.returns
returns g c = counts_up g.R.AddressRange.start_of g.R.AddressRange.size_of c.args.ranges.now c.args.address c.started.result c.requires c.started.ensures.most c.started.ensures.count
