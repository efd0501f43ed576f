use Rattle.std.proofs.Common.{◌≡◌, ◌*◌, ◌==◌}
use Rattle.std.specs.List.{find}
use Rattle.pe_core.specs.Rows.{each}
use Rattle.pe_records.specs.DebugDirectory.{debug_entry_at}
use Rattle.pe_records.proofs.debug.first_entries.FirstDebugEntries.of_table.Given as goal

abbrev pub invariant-loop-i : goal.invariant-loop-i
invariant-loop-i l = record {
  codeview : l.codeview ≡ find (λ e. e.data_type == 2) (each (λ i. debug_entry_at l.fixup l.table (28 * i)) l.i);
  features : l.features ≡ find (λ e. e.data_type == 12) (each (λ i. debug_entry_at l.fixup l.table (28 * i)) l.i);
  characteristics : l.characteristics ≡ find (λ e. e.data_type == 20) (each (λ i. debug_entry_at l.fixup l.table (28 * i)) l.i);
  repro : l.repro ≡ find (λ e. e.data_type == 16) (each (λ i. debug_entry_at l.fixup l.table (28 * i)) l.i);
  pogo : l.pogo ≡ find (λ e. e.data_type == 13) (each (λ i. debug_entry_at l.fixup l.table (28 * i)) l.i);
}
