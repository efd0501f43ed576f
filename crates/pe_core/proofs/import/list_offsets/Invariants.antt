use Rattle.std.proofs.Common.{◌≡◌, ◌+◌, ◌*◌}
use Rattle.pe_core.specs.Imports.{lookups_rva}
use Rattle.pe_core.specs.Records.{import_entry}
use Rattle.pe_core.specs.Rows.{each}
use Rattle.pe_core.specs.SectionIndex.{offset_or_end}
use Rattle.pe_core.specs.SectionMap.{offset_in}
use Rattle.pe_core.proofs.import.list_offsets.Given as goal

abbrev pub invariant-loop-i : goal.invariant-loop-i
invariant-loop-i g l = l.offsets.items ≡ each (λ i. offset_or_end (offset_in l.image.map (lookups_rva (import_entry l.image.bytes.now (l.offset + 20 * i))))) l.i
