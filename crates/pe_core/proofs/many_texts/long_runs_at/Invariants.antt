use Rattle.std.proofs.Common.{All}
use Rattle.pe_core.specs.TextRuns.{IsRun}
use Rattle.pe_core.proofs.many_texts.long_runs_at.Given as goal

-- each is a run of these bytes
abbrev pub invariant-loop-offset : goal.invariant-loop-offset
invariant-loop-offset g l = All (IsRun l.bytes) l.runs.items
