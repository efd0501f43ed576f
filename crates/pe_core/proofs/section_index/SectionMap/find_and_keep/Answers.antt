use Rattle.std.proofs.Common.{◌∙◌, ◌-◌, ◌<◌, length, rules, refl, arith}
use Rattle.pe_core.proofs.SectionWindows.{offset_found, offset_missing, section_of_piece, window_from}
use Rattle.pe_core.proofs.section_index.SectionMap.find_and_keep.Goals as goal

pub returns-in_err-entry-in-Some-clause-found : goal.returns-in_err-entry-in-Some-clause-found
returns-in_err-entry-in-Some-clause-found c =
    c.from_residual.ensures ∙ offset_missing c.args.self.now _ _ _ c.in-Some.entries.now c.args.rva c.self.view_is (rw c.in-Some.is at c.self.invariant) (omega (arith, c.ranges.rva.fits)) (c.in_err-entry-in-Some.ensures.none refl)

pub bounds-self-inside-entry : goal.bounds-self-inside-entry
bounds-self-inside-entry c =
    section_of_piece _ _ _ c.in-Some.entries.now c.args.rva _ _ (rw c.in-Some.is at c.self.invariant) c.in_ok-entry-in-Some.ensures.found c.ranges.rva.fits

pub offset_bounds-self-inside-entry : goal.offset_bounds-self-inside-entry
offset_bounds-self-inside-entry c =
    let below : c.in_ok-entry-in-Some.entry.number - 1 < length c.self.inside.sections.now = section_of_piece _ _ _ c.in-Some.entries.now c.args.rva _ _ (rw c.in-Some.is at c.self.invariant) c.in_ok-entry-in-Some.ensures.found c.ranges.rva.fits in
    search rules

pub returns-in_ok-entry-in-Some-clause-found : goal.returns-in_ok-entry-in-Some-clause-found
returns-in_ok-entry-in-Some-clause-found c =
    let piece = c.in_ok-entry-in-Some.ensures.found in
    c.offset_by.ensures ∙ offset_found c.args.self.now _ _ _ c.in-Some.entries.now c.args.rva _ _ c.self.view_is (rw c.in-Some.is at c.self.invariant) (omega (arith, c.ranges.rva.fits)) (piece.numbered c.args.rva piece.starts piece.ends) piece.some

pub returns-in_ok-entry-in-Some-clause-window : goal.returns-in_ok-entry-in-Some-clause-window
returns-in_ok-entry-in-Some-clause-window c =
    window_from c.args.self.now _ _ _ c.in-Some.entries.now c.args.rva _ _ _ _ _ c.self.view_is (rw c.in-Some.is at c.self.invariant) c.in_ok-entry-in-Some.ensures.found refl c.raw_start.ensures.offset
