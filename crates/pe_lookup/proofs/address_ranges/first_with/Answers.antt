use Rattle.pe_lookup.proofs.address_ranges.first_with.Goals as goal

pub range_with-requires : goal.range_with-requires
range_with-requires g c = c.requires c.if-is_ascending.true
