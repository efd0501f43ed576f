use Rattle.std.proofs.Common.{Bool, Ok, Err, ap, sym, ◌∙◌}
use Rattle.pe_rewrite.proofs.Cited.{if◌then◌else◌, header_view, DebugData}
use Rattle.pe_rewrite.proofs.Loops.{debug_fails}
use Rattle.pe_rewrite.proofs.room.require_debug.Goals as goal

pub returns-then-not-data_moves : goal.returns-then-not-data_moves
returns-then-not-data_moves c =
    ap (λ (t : Bool). if t then Ok tt else Err DebugData)
    (debug_fails c.args.bytes.now (header_view c.args.header.now) c.args.last.now c.loop-index.index c.loop-index-test.true (sym c.data_moves.ensures ∙ c.if-not-data_moves.true))
