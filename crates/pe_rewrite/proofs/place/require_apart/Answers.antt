use Rattle.std.proofs.Common.{Bool, Ok, Err, ap, sym, ◌∙◌}
use Rattle.pe_rewrite.proofs.Cited.{if◌then◌else◌, header_view, Overlap}
use Rattle.pe_rewrite.proofs.Loops.{apart_fails}
use Rattle.pe_rewrite.proofs.place.require_apart.Goals as goal

pub returns-then-not-is_apart : goal.returns-then-not-is_apart
returns-then-not-is_apart c =
    ap (λ (t : Bool). if t then Ok tt else Err Overlap)
    (apart_fails c.args.bytes.now (header_view c.args.header.now) c.args.alignment c.args.index c.loop-other.other c.loop-other-test.true (sym c.is_apart.ensures ∙ c.if-not-is_apart.true))
