-- The ranges of results are the parts of what they were read from.
use Rattle.std.specs.Prelude.{◌≡◌, ℕ, List, [], ◌∷◌, ◌++◌, map, Option, Some, None, Ok, Err, ◌==◌, Result}
use Rattle.std.specs.List.{AllZip}
use Rattle.pe_core.specs.Exports.{ExportDataView, ExportView}
use Rattle.pe_core.specs.Imports.{ImportRecordView, ImportView, imports, entry_size, import_data_at}
use Rattle.pe_core.specs.Refusals.{Refusal, ◌>>=◌}
use Rattle.pe_core.specs.declared.import.ImportDirectoryEntry.{ImportDirectoryEntry}
use Rattle.calls_directories.specs.declared.names.exports.Export.{Export}
use Rattle.calls_directories.specs.declared.names.exports.Exports.{Exports}
use Rattle.calls_directories.specs.declared.names.imports.Import.{Import}
use Rattle.calls_directories.specs.declared.names.imports.Library.{Library}
use Rattle.calls_base.specs.Ranges.{or_zero, one_if_some, IsPart, IsRange}
use Rattle.calls_directories.specs.Imports.{StepsImports, StepsLibraries}
use Rattle.calls_base.specs.Runs.{ReturnsItems}
use Rattle.pe_core.specs.declared.section_table.SectionTable.{SectionTable}
use Rattle.calls_base.specs.declared.image.Image.{Image}
use Rattle.calls_directories.specs.declared.names.imports.Libraries.{Libraries}
use Rattle.calls_base.specs.Images.{import_directory, map_of_image}

-- a walk at its start has the tables of these export data
pub record HasTables (b : List ℕ) (w : Exports) (d : ExportDataView) : Type 0 where
  pub names : IsRange b w.names d.names
  pub ordinals : IsRange b w.ordinals d.ordinals
  pub addresses : IsRange b w.addresses d.addresses

-- the result for an entry of the name table is the export that it has
abbrev pub ReportsExport : List ℕ → Option Export → Option ExportView → Type 0
ReportsExport b None None = Unit {0}
ReportsExport b None (Some e) = ⊥
ReportsExport b (Some x) None = ⊥
ReportsExport b (Some x) (Some e) = IsRange b x.name e.name × (x.rva ≡ e.rva) × (x.offset ≡ or_zero e.offset) × (x.has_offset ≡ one_if_some e.offset)

-- the result for an import is the import
pub record ReportsImport (b : List ℕ) (x : Import) (i : ImportView) : Type 0 where
  pub name : IsPart b x.name i.name
  pub has_name : x.has_name ≡ one_if_some i.name
  pub ordinal : x.ordinal ≡ i.ordinal
  pub rva : x.rva ≡ i.rva

-- the fields of a library's record
abbrev pub record_of : Library → ImportDirectoryEntry
record_of x = record {
  lookup_table_rva = x.lookup_table_rva;
  time_date_stamp = x.time_date_stamp;
  forwarder_chain = x.forwarder_chain;
  name_rva = x.name_rva;
  address_table_rva = x.address_table_rva;
}

-- the result for a record of the import directory is the record, and the walk over its list returns the record's
-- imports, one a step, and then nothing; where they are refused it returns imports and then this refusal
pub record ReportsLibrary (offset : ℕ → Option ℕ) (w : ℕ) (b : List ℕ) (x : Library) (r : ImportRecordView) : Type 0 where
  pub name : IsRange b x.name r.name
  pub list : IsRange b x.imports.left r.lookups
  pub numbers : record_of x ≡ r.import_directory_entry
  pub given : (is : List ImportView) → imports offset w b (r ∷ []) ≡ Ok is →
      (reported : List Import) × ReturnsItems (StepsImports offset w b) x.imports (map (λ y. Ok y) reported) × AllZip (ReportsImport b) reported is
  pub refused : (refusal : Refusal) → imports offset w b (r ∷ []) ≡ Err refusal →
      (reported : List Import) × (is : List ImportView) × ReturnsItems (StepsImports offset w b) x.imports (map (λ y. Ok y) reported ++ Err refusal ∷ []) × AllZip (ReportsImport b) reported is

-- the records of an image's import directory
abbrev pub import_records_at : List ℕ → Image → List SectionTable → Result (List ImportRecordView) Refusal
import_records_at b image sections =
    import_data_at (map_of_image image sections) (entry_size (image.width == 64)) b (import_directory image).virtual_address

-- a walk over the libraries of an image returns these items, and these libraries report these records
abbrev pub ReportsLibraries : List ℕ → Image → List SectionTable → Libraries → List (Result Library Refusal) → List Library → List ImportRecordView → Type 0
ReportsLibraries b image sections walk items reported rs =
    ReturnsItems (StepsLibraries (map_of_image image sections) (entry_size (image.width == 64)) b) walk items
    × AllZip (ReportsLibrary (map_of_image image sections) (entry_size (image.width == 64)) b) reported rs

-- a walk over the libraries of an image returns some, and then this error
abbrev pub ReportsLibrariesUntil : List ℕ → Image → List SectionTable → Libraries → Refusal → Type 0
ReportsLibrariesUntil b image sections walk refusal =
    (reported : List Library) × (rs : List ImportRecordView)
    × ReportsLibraries b image sections walk (map (λ x. Ok x) reported ++ Err refusal ∷ []) reported rs

-- the imports of records are those of the first, followed by those of the others
abbrev pub ImportsInTurn : Type 0
ImportsInTurn =
    (offset : ℕ → Option ℕ) (w : ℕ) (b : List ℕ) (r : ImportRecordView) (rs : List ImportRecordView) →
    imports offset w b (r ∷ rs) ≡ (imports offset w b (r ∷ []) >>= λ first. imports offset w b rs >>= λ more. Ok (first ++ more))
