use Rattle.std.proofs.Common.{map}
use Rattle.pe_core.specs.Imports.{entry_size, import_record_view}
use Rattle.pe_core.specs.SectionMap.{offset_in}
use Rattle.pe_core.proofs.ImportLists.{RecordsRead}
use Rattle.pe_core.proofs.import.named_records.Given as goal

-- the records so far
abbrev pub invariant-loop-i : goal.invariant-loop-i
invariant-loop-i g l = RecordsRead (offset_in l.image.map) (entry_size l.found.is_64) l.image.bytes.now l.offset l.i (map import_record_view l.records.items)
