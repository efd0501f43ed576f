use Rattle.pe_sign.proofs.Cited.{header_view, ranges_view}
use Rattle.pe_sign.proofs.KeptRanges.{ranges_cover, ranges_end}
use Rattle.pe_sign.proofs.laws.calls.ranges_are_slices.Goals as goal

pub returns : goal.returns
returns c =
    let b = c.args.bytes.now in
    let h = header_view c.args.header.now in
    let both = ranges_cover b h c.args.digest (ranges_view c.args.slices) c.requires.ranges c.requires.slices in
    record { content = both.0; zeros = both.1; within = ranges_end b h c.args.digest c.requires.ranges }
