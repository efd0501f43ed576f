use Rattle.std.proofs.Common.{map}
use Rattle.pe_core.specs.Imports.{entry_size}
use Rattle.pe_core.specs.ImportSteps.{entry_view}
use Rattle.pe_core.proofs.FirstEntries.{EntriesRead}
use Rattle.pe_core.proofs.import_list.first_entries_of.Given as goal

-- the entries so far
abbrev pub invariant-loop-record : goal.invariant-loop-record
invariant-loop-record g l = EntriesRead (entry_size l.is_64) l.records l.most l.record-index (map entry_view l.entries.items)
