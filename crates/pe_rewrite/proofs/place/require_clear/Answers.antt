use Rattle.std.proofs.Common.{Bool, Ok, Err, ap, sym, ◌∙◌}
use Rattle.pe_rewrite.proofs.Cited.{if◌then◌else◌, header_view, Overlap}
use Rattle.pe_rewrite.proofs.Loops.{clear_fails}
use Rattle.pe_rewrite.proofs.place.require_clear.Goals as goal

pub returns-then-not-is_clear : goal.returns-then-not-is_clear
returns-then-not-is_clear c =
    ap (λ (t : Bool). if t then Ok tt else Err Overlap)
    (clear_fails c.args.bytes.now (header_view c.args.header.now) c.args.size c.args.index c.loop-other.other c.loop-other-test.true (sym c.is_clear.ensures ∙ c.if-not-is_clear.true))
