use Rattle.std.proofs.Common.{◌≡◌, ◌++◌, drop, map}
use Rattle.pe_core.specs.Imports.{entry_size}
use Rattle.pe_core.specs.ImportSteps.{entry_view, hint_offset_of}
use Rattle.pe_core.specs.SectionMap.{offset_in}
use Rattle.pe_core.specs.SectionWindow.{IsWindow}
use Rattle.pe_core.proofs.import_list.entry_offsets.Given as goal

-- the offsets so far, and those of the entries that are left; a window of the map
abbrev pub invariant-loop-entry : goal.invariant-loop-entry
invariant-loop-entry g l = record {
  are : l.offsets.items ++ map (hint_offset_of (offset_in l.sections) (entry_size l.is_64)) (map entry_view (drop l.entry-index l.entries))
      ≡ map (hint_offset_of (offset_in l.sections) (entry_size l.is_64)) (map entry_view l.entries);
  window : IsWindow l.sections l.window;
}
