use Rattle.std.proofs.Common.{length, ◌-◌}
use Rattle.pe_core.specs.Imports.{entry_size}
use Rattle.pe_core.proofs.ImportLists.{EntriesRead}
use Rattle.pe_core.proofs.import.lookups_at.Given as goal

abbrev pub invariant-loop-count : goal.invariant-loop-count
invariant-loop-count l = EntriesRead (entry_size l.is_64) l.bytes l.offset l.count

abbrev pub decreases-loop-count : goal.decreases-loop-count
decreases-loop-count l = length l.bytes - l.count
