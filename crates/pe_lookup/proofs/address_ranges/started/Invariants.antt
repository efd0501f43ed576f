use Rattle.std.proofs.Common.{◌≡◌, ◌≤◌, ◌+◌, ◌^◌, length}
use Rattle.pe_lookup.specs.AddressRanges.{started}
use Rattle.pe_lookup.proofs.address_ranges.started.Given as goal

abbrev pub invariant-loop-bits : goal.invariant-loop-bits
invariant-loop-bits g l = record {
  same : (d : g.row.R.Denot) → started g.R.AddressRange.start_of d l.ranges l.address l.bits l.count ≡ started g.R.AddressRange.start_of d l.ranges l.address (length l.ranges) 0;
  bits : l.bits ≤ 64;
  inside : l.count ≤ length l.ranges;
  small : l.count + 2 ^ l.bits ≤ 2 ^ 64;
}

abbrev pub decreases-loop-bits : goal.decreases-loop-bits
decreases-loop-bits g l = l.bits
