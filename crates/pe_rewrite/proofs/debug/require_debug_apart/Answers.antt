use Rattle.std.proofs.Common.{Bool, Ok, Err, ap, sym, ◌∙◌}
use Rattle.pe_rewrite.proofs.Cited.{if◌then◌else◌, header_view, DebugData}
use Rattle.pe_rewrite.proofs.Loops.{beside_fails}
use Rattle.pe_rewrite.proofs.debug.require_debug_apart.Goals as goal

pub returns-then-not-debug_data_apart : goal.returns-then-not-debug_data_apart
returns-then-not-debug_data_apart c =
    ap (λ (t : Bool). if t then Ok tt else Err DebugData)
    (beside_fails c.args.bytes.now (header_view c.args.header.now) c.args.section.now c.args.entries c.loop-index.index c.loop-index-test.true (sym c.debug_data_apart.ensures ∙ c.if-not-debug_data_apart.true))
