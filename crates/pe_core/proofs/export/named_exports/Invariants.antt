use Rattle.std.proofs.Common.{◌≡◌, ◌++◌, drop, map}
use Rattle.pe_core.specs.ExportSteps.{exports_from}
use Rattle.pe_core.specs.Exports.{export_data_view, export_view}
use Rattle.pe_core.specs.Text.{texts_of}
use Rattle.pe_core.specs.SectionMap.{offset_in}
use Rattle.pe_core.specs.SectionWindow.{IsWindow}
use Rattle.pe_core.proofs.export.named_exports.Given as goal

-- the exports so far, and those of the names that are left; a window of the map
abbrev pub invariant-loop-i : goal.invariant-loop-i
invariant-loop-i g l = record {
  are : map export_view l.exports.items ++ exports_from (offset_in l.sections) (export_data_view l.export_data) l.i (texts_of (drop l.i l.names))
      ≡ exports_from (offset_in l.sections) (export_data_view l.export_data) 0 (texts_of l.names);
  window : IsWindow l.sections l.window;
}
