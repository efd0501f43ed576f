use Rattle.pe_core.specs.Imports.{entry_size}
use Rattle.pe_core.proofs.FirstEntries.{EntriesCounted}
use Rattle.pe_core.proofs.import_list.count_entries.Given as goal

-- the number of entries so far
abbrev pub invariant-loop-record : goal.invariant-loop-record
invariant-loop-record l = EntriesCounted (entry_size l.is_64) l.records l.record-index l.count
