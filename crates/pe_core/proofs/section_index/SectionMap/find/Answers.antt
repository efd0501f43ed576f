use Rattle.std.proofs.Common.{◌∙◌, ◌-◌, ◌<◌, length, rules, sym, arith}
use Rattle.pe_core.proofs.SectionWindows.{offset_found, offset_missing, section_there}
use Rattle.pe_core.proofs.section_index.SectionMap.find.Goals as goal

pub returns-then-number-eq0 : goal.returns-then-number-eq0
returns-then-number-eq0 c =
    offset_missing c.args.self.now _ _ _ c.in-Some.entries.now c.args.rva c.self.view_is (rw c.in-Some.is at c.self.invariant) c.ranges.rva.fits (sym c.number_at-number.ensures ∙ c.if-number-eq0.true)

pub bounds-self-inside-number : goal.bounds-self-inside-number
bounds-self-inside-number c =
    section_there _ _ _ c.in-Some.entries.now c.args.rva _ (rw c.in-Some.is at c.self.invariant) c.ranges.rva.fits c.number_at-number.ensures (omega (arith, c.if-number-eq0.false))

pub offset_bounds-self-inside-number : goal.offset_bounds-self-inside-number
offset_bounds-self-inside-number c =
    let below : c.number_at-number.result - 1 < length c.self.inside.sections.now = section_there _ _ _ c.in-Some.entries.now c.args.rva _ (rw c.in-Some.is at c.self.invariant) c.ranges.rva.fits c.number_at-number.ensures (omega (arith, c.if-number-eq0.false)) in
    search rules

pub returns-else-number-eq0 : goal.returns-else-number-eq0
returns-else-number-eq0 c =
    c.offset_by.ensures ∙ offset_found c.args.self.now _ _ _ c.in-Some.entries.now c.args.rva c.number_at-number.result _ c.self.view_is (rw c.in-Some.is at c.self.invariant) c.ranges.rva.fits (sym c.number_at-number.ensures) (omega (arith, c.if-number-eq0.false))
