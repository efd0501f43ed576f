use Rattle.std.proofs.Common.{◌≡◌, ◌++◌, drop, map}
use Rattle.pe_core.specs.Imports.{import_entries, entry_size, import_record_view}
use Rattle.pe_core.specs.ImportSteps.{entry_view}
use Rattle.pe_core.proofs.import_list.entries_of.Given as goal

-- the entries so far, and those of the records that are left
abbrev pub invariant-loop-record : goal.invariant-loop-record
invariant-loop-record g l = map entry_view l.entries.items ++ import_entries (entry_size l.is_64) (map import_record_view (drop l.record-index l.records)) ≡ import_entries (entry_size l.is_64) (map import_record_view l.records)
