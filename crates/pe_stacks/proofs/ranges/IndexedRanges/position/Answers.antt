use Rattle.std.proofs.Common.{List, arith, ap, sym, ◌∙◌}
use Rattle.pe_core.specs.declared.range_index.RangeEntry.{RangeEntry}
use Rattle.pe_core.specs.RangeIndexes.{number_at}
use Rattle.pe_core.proofs.RangeFounds.{index_found, index_none, index_within}
use Rattle.pe_stacks.proofs.ranges.IndexedRanges.position.Goals as goal

pub returns-then-number-eq0-clause-found : goal.returns-then-number-eq0-clause-found
returns-then-number-eq0-clause-found g c d =
    let numbered = sym (c.number_at-number.ensures ∙ ap (λ (es : List RangeEntry). number_at es c.args.address) c.deref.ensures.value) in
    sym (index_none g.R.AddressRange.start_of g.R.AddressRange.size_of c.args.address _ _ c.args.self.now.index c.ranges.address.fits (numbered ∙ c.if-number-eq0.true))

pub returns-clause-within : goal.returns-clause-within
returns-clause-within g c =
    let numbered = sym (c.number_at-number.ensures ∙ ap (λ (es : List RangeEntry). number_at es c.args.address) c.deref.ensures.value) in
    index_within g.R.AddressRange.start_of g.R.AddressRange.size_of c.args.address _ _ _ c.args.self.now.index c.ranges.address.fits numbered (omega arith)

pub returns-clause-found : goal.returns-clause-found
returns-clause-found g c d =
    let numbered = sym (c.number_at-number.ensures ∙ ap (λ (es : List RangeEntry). number_at es c.args.address) c.deref.ensures.value) in
    sym (index_found g.R.AddressRange.start_of g.R.AddressRange.size_of c.args.address _ _ _ d c.args.self.now.index c.ranges.address.fits numbered (omega arith))
