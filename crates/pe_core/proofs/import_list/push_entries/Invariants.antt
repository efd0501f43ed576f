use Rattle.std.proofs.Common.{◌≡◌, ◌++◌, map}
use Rattle.pe_core.specs.Imports.{import_entry_at, entry_size, import_record_view}
use Rattle.pe_core.specs.ImportSteps.{entry_view}
use Rattle.pe_core.specs.Rows.{each}
use Rattle.pe_core.proofs.import_list.push_entries.Given as goal

abbrev pub invariant-loop-k : goal.invariant-loop-k
invariant-loop-k g l = map entry_view l.entries.items ≡ map entry_view l.fn.entries.items ++ each (import_entry_at (entry_size l.is_64) (import_record_view l.imported)) l.k
