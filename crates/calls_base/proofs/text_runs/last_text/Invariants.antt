use Rattle.std.proofs.Common.{ℕ, ◌≤◌, ◌<◌, ◌-◌, length, drop}
use Rattle.std.specs.Str.{IsUtf8}
use Rattle.calls_base.proofs.text_runs.last_text.Given as goal

-- no end that starts before `begin` is text
abbrev pub invariant-loop-error : goal.invariant-loop-error
invariant-loop-error l = record {
  within : l.begin ≤ length l.bytes;
  refused : (k : ℕ) → k < l.begin → ¬ (IsUtf8 (drop k l.bytes));
}

abbrev pub decreases-loop-error : goal.decreases-loop-error
decreases-loop-error l = length l.bytes - l.begin
