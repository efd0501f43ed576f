-- The core of an image as the code keeps it. For proofs only.
use Rattle.std.specs.Prelude.{◌≡◌, List, Option, map}
use Rattle.std.specs.Option.{option_map}
use Rattle.pe_core.specs.Exports.{export_data_view, export_view}
use Rattle.pe_core.specs.Header.{header_view}
use Rattle.pe_core.specs.Imports.{ImportRecordView, ImportView, import_data_view, import_view}
use Rattle.pe_image.specs.Core.{CoreView, AreLibrariesOf}
use Rattle.pe_image.specs.LayoutParts.{layout_of}
use Rattle.pe_image.specs.declared.core_image.Core.{Core}
use Rattle.pe_image.specs.declared.core_image.Imported.{Imported}

-- the view of what an import directory says: its records, and their imports
abbrev pub imported_view : {Z : Type 0} → Imported Z → Option (List ImportRecordView) × List ImportView
imported_view i = (option_map import_data_view i.data, map import_view i.imports.items)

-- the view of a core
abbrev pub core_view : {Z : Type 0} → Core Z → CoreView
core_view c = record {
  header = header_view c.header;
  sections = c.sections.items;
  export_data = option_map export_data_view c.export_data;
  exports = map export_view c.exports.items;
  import_data = option_map import_data_view c.import_data;
  imports = map import_view c.imports.items;
}

-- the libraries of a core are those of its import directory
abbrev pub CoreHasLibraries : {Z : Type 0} → Core Z → Type 0
CoreHasLibraries c = AreLibrariesOf (option_map import_data_view c.import_data) (map (λ s. s.now) c.libraries.items)

-- the layout of a core is that of its optional header
abbrev pub CoreHasLayout : {Z : Type 0} → Core Z → Type 0
CoreHasLayout c = c.layout ≡ layout_of (core_view c).header.optional_header
