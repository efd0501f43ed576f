use Rattle.std.proofs.Common.{map}
use Rattle.pe_core.specs.Imports.{entry_size, import_view}
use Rattle.pe_core.specs.ImportSteps.{entry_view}
use Rattle.pe_core.specs.SectionMap.{offset_in}
use Rattle.pe_core.proofs.ImportLists.{ImportsRead}
use Rattle.pe_core.specs.SectionWindow.{IsWindow}
use Rattle.pe_core.proofs.import_list.named_imports.Given as goal

-- the imports so far, and a window of the map
abbrev pub invariant-loop-i : goal.invariant-loop-i
invariant-loop-i g l = record {
  read : ImportsRead (offset_in l.image.map) (entry_size l.is_64) l.image.bytes.now (map entry_view l.entries) l.i (map import_view l.imports.items);
  window : IsWindow l.image.map l.window;
}
