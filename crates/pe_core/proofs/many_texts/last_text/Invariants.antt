use Rattle.std.proofs.Common.{ℕ, ◌≤◌, ◌<◌, ◌-◌, length, drop}
use Rattle.std.specs.Str.{IsUtf8}
use Rattle.pe_core.proofs.many_texts.last_text.Given as goal

-- no end that starts before `begin` is text
abbrev pub invariant-loop-text : goal.invariant-loop-text
invariant-loop-text l = record {
  within : l.begin ≤ length l.bytes;
  refused : (k : ℕ) → k < l.begin → ¬ (IsUtf8 (drop k l.bytes));
}

abbrev pub decreases-loop-text : goal.decreases-loop-text
decreases-loop-text l = length l.bytes - l.begin
