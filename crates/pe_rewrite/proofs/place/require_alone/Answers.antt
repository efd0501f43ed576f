use Rattle.std.proofs.Common.{Bool, Ok, Err, ap, sym, ◌∙◌}
use Rattle.pe_rewrite.proofs.Cited.{if◌then◌else◌, optional_header_view, SharedSection}
use Rattle.pe_rewrite.proofs.Loops.{alone_fails}
use Rattle.pe_rewrite.proofs.place.require_alone.Goals as goal

pub returns-then-not-leads_out : goal.returns-then-not-leads_out
returns-then-not-leads_out c =
    ap (λ (t : Bool). if t then Ok tt else Err SharedSection)
    (alone_fails c.args.section.now (optional_header_view c.args.optional_header.now) c.rows-rows.result.now c.loop-index.index c.rows-rows.ensures c.loop-index-test.true (sym c.leads_out.ensures ∙ c.if-not-leads_out.true))
