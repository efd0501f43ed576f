use Rattle.std.proofs.Common.{◌∙◌, ap, sym, Bool, Ok, Err}
use Rattle.pe_sign.proofs.Cited.{if◌then◌else◌, header_view, Section}
use Rattle.pe_sign.proofs.SectionRows.{section_fails}
use Rattle.pe_sign.proofs.checks.require_sections.Goals as goal

pub returns-then-not-data_ends_by : goal.returns-then-not-data_ends_by
returns-then-not-data_ends_by c =
    ap (λ (t : Bool). if t then Ok tt else Err Section)
    (section_fails c.args.bytes.now (header_view c.args.header.now) c.args.end c.sections_offset-start.result c.loop-index.index c.at-section.result
    c.sections_offset-start.ensures c.loop-index-test.true c.at-section.ensures (sym c.data_ends_by.ensures ∙ c.if-not-data_ends_by.true))
