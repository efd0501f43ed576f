use Rattle.std.proofs.Common.{◌+◌}
use Rattle.pe_lookup.specs.AddressRanges.{FirstAscend}
use Rattle.pe_lookup.proofs.Lookups.{EndsAt}
use Rattle.pe_lookup.proofs.address_ranges.first_overlap.Given as goal

abbrev pub invariant-loop-index : goal.invariant-loop-index
invariant-loop-index g l =
    FirstAscend g.R.AddressRange.start_of g.R.AddressRange.size_of l.ranges l.index
    × EndsAt g.R.AddressRange.start_of g.R.AddressRange.size_of l.ranges l.index (l.start + l.size)
