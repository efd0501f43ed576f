-- The outcome of a run.
use Rattle.std.specs.Prelude.{ℕ, Result, Ok, Err}
use Rattle.peinfo.specs.declared.engine.ReportError.{ReportError}
use Rattle.peinfo.specs.declared.engine.ReportError.TheVariants.{Parse, Write}
use Rattle.peinfo.specs.declared.outcome.Outcome.{Outcome}
use Rattle.peinfo.specs.declared.outcome.Outcome.TheVariants.{Done, Refused, Misused, FileError}

-- the exit status
abbrev pub status_of : Outcome → ℕ
status_of Done = 0
status_of Refused = 1
status_of Misused = 2
status_of FileError = 3

-- the outcome of an engine's result
abbrev pub outcome_of : Result (Unit {0}) ReportError → Outcome
outcome_of (Ok u) = Done
outcome_of (Err (Parse e)) = Refused
outcome_of (Err Write) = FileError
