use Rattle.std.proofs.Common.{Bool, Ok, Err, ap, sym, ◌∙◌}
use Rattle.pe_rewrite.proofs.Cited.{if◌then◌else◌, header_view, Overlap}
use Rattle.pe_rewrite.proofs.Loops.{last_fails}
use Rattle.pe_rewrite.proofs.room.require_last.Goals as goal

pub returns-then-not-is_before_or_same : goal.returns-then-not-is_before_or_same
returns-then-not-is_before_or_same c =
    ap (λ (t : Bool). if t then Ok tt else Err Overlap)
    (last_fails c.args.bytes.now (header_view c.args.header.now) c.args.target.now c.args.last.now c.loop-other.other c.loop-other-test.true (sym c.is_before_or_same.ensures ∙ c.if-not-is_before_or_same.true))
