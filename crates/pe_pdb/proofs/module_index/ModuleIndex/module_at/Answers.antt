use Rattle.std.proofs.Common.{◌-◌, ◌<◌, List, length, arith, rules, sym, subst, ap, ◌∙◌}
use Rattle.pe_core.specs.RangeIndexes.{Rises, number_at}
use Rattle.pe_core.specs.declared.range_index.RangeEntry.{RangeEntry}
use Rattle.pe_core.proofs.RangeFounds.{index_found, index_none, index_within}
use Rattle.pe_pdb.proofs.module_index.ModuleIndex.module_at.Goals as goal

pub returns-then-number-eq0 : goal.returns-then-number-eq0
returns-then-number-eq0 c = search (rules, arith, index_none)

pub offset_bounds-self-number : goal.offset_bounds-self-number
offset_bounds-self-number c =
    let s = c.args.self.now in
    let below : c.search_ranges-number.result - 1 < length s.ranges.now = index_within (λ r. r.start) (λ r. r.size) c.from.result s.ranges.now s.entries.now c.search_ranges-number.result s.indexed c.from.type_inv (sym (c.search_ranges-number.ensures.number (subst Rises (sym c.new.ensures.entries) s.indexed.rises) ∙ ap (λ (es : List RangeEntry). number_at es c.from.result) c.new.ensures.entries)) (omega (arith, c.if-number-eq0.false)) in
    search rules

pub bounds-self-number : goal.bounds-self-number
bounds-self-number c =
    let s = c.args.self.now in
    index_within (λ r. r.start) (λ r. r.size) c.from.result s.ranges.now s.entries.now c.search_ranges-number.result s.indexed c.from.type_inv (sym (c.search_ranges-number.ensures.number (subst Rises (sym c.new.ensures.entries) s.indexed.rises) ∙ ap (λ (es : List RangeEntry). number_at es c.from.result) c.new.ensures.entries)) (omega (arith, c.if-number-eq0.false))

pub returns : goal.returns
returns c = search (rules, arith, index_found)
