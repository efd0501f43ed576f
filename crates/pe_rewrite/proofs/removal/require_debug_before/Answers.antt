use Rattle.std.proofs.Common.{Bool, Ok, Err, ap, sym, ◌∙◌}
use Rattle.pe_rewrite.proofs.Cited.{if◌then◌else◌, one_fails, data_before, DebugData}
use Rattle.pe_rewrite.proofs.removal.require_debug_before.Goals as goal

pub returns-then-not-data_before : goal.returns-then-not-data_before
returns-then-not-data_before c =
    ap (λ (t : Bool). if t then Ok tt else Err DebugData)
    (one_fails (data_before c.args.bytes.now c.args.last.now) (λ j. j) c.args.last.now.debug.count c.loop-index.index c.loop-index-test.true (sym c.data_before.ensures ∙ c.if-not-data_before.true))
