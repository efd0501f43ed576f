use Rattle.std.proofs.Common.{inl, inr, arith, sym, ◌∙◌}
use Rattle.pe_stacks.proofs.AppendedRuns.{appended-apart, appended-joined}
use Rattle.pe_stacks.proofs.runs.append.Goals as goal
use Rattle.pe_stacks.proofs.runs.append.Goals.{else-count-gt0-via-then-count-gt0+else-is_followed, else-count-gt0-via-else-count-gt0}

pub returns-then-is_followed-clause-runs : goal.returns-then-is_followed-clause-runs
returns-then-is_followed-clause-runs c =
    appended-joined c.args.room.now c.args.count (record { start = 0; offset = 0; length = 0 }) c.args.run (omega arith) (omega (arith, c.requires.room)) c.if-run-eq0.false (sym c.is_followed.ensures ∙ c.if-is_followed.true)

pub returns-clause-runs : goal.returns-clause-runs
returns-clause-runs c = appended-apart c.args.room.now c.args.count (record { start = 0; offset = 0; length = 0 }) c.args.run c.requires.room c.if-run-eq0.false (elim c.else-count-gt0.branch [
  | else-count-gt0-via-then-count-gt0+else-is_followed w ↦ inr (sym w.is_followed.ensures ∙ w.if-is_followed.false)
  | else-count-gt0-via-else-count-gt0 w ↦ inl (omega (arith, w.if-count-gt0.false))
])
