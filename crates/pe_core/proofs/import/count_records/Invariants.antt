use Rattle.std.proofs.Common.{◌≡◌, ℕ, ◌+◌, ◌-◌, ◌*◌, ◌<◌, ◌≤◌, false, length}
use Rattle.pe_core.specs.Imports.{is_last}
use Rattle.pe_core.specs.Records.{import_entry}
use Rattle.pe_core.proofs.import.count_records.Given as goal

-- the records so far are there, and none ends the directory
abbrev pub invariant-loop-count : goal.invariant-loop-count
invariant-loop-count l = record {
  inside : 0 < l.count → l.offset + 20 * l.count ≤ length l.bytes;
  there : (k : ℕ) → k < l.count → l.offset + 20 * k + 20 ≤ length l.bytes;
  go_on : (k : ℕ) → k < l.count → is_last (import_entry l.bytes (l.offset + 20 * k)) ≡ false;
}

abbrev pub decreases-loop-count : goal.decreases-loop-count
decreases-loop-count l = length l.bytes - l.count
