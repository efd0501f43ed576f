use Rattle.std.proofs.Common.{◌≡◌, ◌*◌}
use Rattle.pe_core.specs.Bytes.{le}
use Rattle.pe_core.specs.Rows.{each}
use Rattle.pe_core.specs.SectionIndex.{offset_or_end}
use Rattle.pe_core.specs.SectionMap.{offset_in}
use Rattle.pe_core.specs.SectionWindow.{IsWindow}
use Rattle.pe_core.proofs.export.name_offsets.Given as goal

-- the offsets so far, and a window of the map
abbrev pub invariant-loop-i : goal.invariant-loop-i
invariant-loop-i g l = record {
  are : l.offsets.items ≡ each (λ i. offset_or_end (offset_in l.sections (le l.names (4 * i) 4))) l.i;
  window : IsWindow l.sections l.window;
}
