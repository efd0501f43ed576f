-- The core of an image: headers, section headers, exports and imports. If one of them is refused, the image is refused
-- in both modes. An export directory that is refused counts as absent. (PE format: the .edata and .idata sections; the
-- order of refusals is this project's profile.)
use Rattle.std.specs.Prelude.{◌≡◌, ℕ, List, [], map, Option, Some, None, Result, Ok, Err, if◌then◌else◌}
use Rattle.pe_core.specs.Exports.{ExportDataView, ExportView, export_data_at, exports}
use Rattle.pe_core.specs.Header.{HeaderView, OptionalHeaderView, header_at}
use Rattle.pe_core.specs.Imports.{AreLibraries, ImportRecordView, ImportView, entry_size, import_data_at, imports}
use Rattle.pe_core.specs.Refusals.{Refusal, ◌>>=◌}
use Rattle.pe_core.specs.SectionMap.{section_map}
use Rattle.pe_core.specs.Sections.{sections_of}
use Rattle.pe_core.specs.declared.data_directories.DataDirectory.{DataDirectory}
use Rattle.pe_core.specs.declared.options.ParseOptions.{ParseOptions}
use Rattle.pe_core.specs.declared.section_table.SectionTable.{SectionTable}
use Rattle.pe_image.specs.Layout.{directory, alignment, is_64}

-- the value of a result, unless it is a refusal
abbrev pub value_or_none : {X : Type 0} → Result X Refusal → Option X
value_or_none (Ok x) = Some x
value_or_none (Err refusal) = None

-- the export directory, if there is one and it is not refused; `offset` maps an RVA to its file offset
abbrev pub export_data_of : (ℕ → Option ℕ) → List ℕ → Option DataDirectory → Option ExportDataView
export_data_of offset b None = None
export_data_of offset b (Some d) = value_or_none (export_data_at offset b d.virtual_address)

-- the exports of an export directory; none without one
abbrev pub exports_of : (ℕ → Option ℕ) → List ℕ → Option ExportDataView → List ExportView
exports_of offset b None = []
exports_of offset b (Some d) = exports offset b d

-- the import directory, which is directory 1, unless `parse_imports` is off
abbrev pub import_directory : ParseOptions → Option OptionalHeaderView → Option DataDirectory
import_directory opts o = if opts.parse_imports then directory 1 o else None

-- the records of an import directory, if there is one; `width` is the size of a lookup entry in bytes
abbrev pub import_data_of : (ℕ → Option ℕ) → ℕ → List ℕ → Option DataDirectory → Result (Option (List ImportRecordView)) Refusal
import_data_of offset width b None = Ok None
import_data_of offset width b (Some d) = import_data_at offset width b d.virtual_address >>= λ records. Ok (Some records)

-- the imports of these records; none without an import directory
abbrev pub imports_of : (ℕ → Option ℕ) → ℕ → List ℕ → Option (List ImportRecordView) → Result (List ImportView) Refusal
imports_of offset width b None = Ok []
imports_of offset width b (Some records) = imports offset width b records

-- these are the libraries of an import directory: the names in its records, sorted by their bytes, each once
abbrev pub AreLibrariesOf : Option (List ImportRecordView) → List (List ℕ) → Type 0
AreLibrariesOf None libraries = libraries ≡ []
AreLibrariesOf (Some records) libraries = AreLibraries (map (λ r. r.name) records) libraries

-- a core, independent of where its bytes lie in memory
pub record CoreView : Type 0 where
  pub header : HeaderView
  pub sections : List SectionTable
  pub export_data : Option ExportDataView
  pub exports : List ExportView
  pub import_data : Option (List ImportRecordView)
  pub imports : List ImportView

-- the core of an image with these headers and sections, or the first refusal
unfoldable pub core_with : List ℕ → ParseOptions → HeaderView → List SectionTable → Result CoreView Refusal
core_with b opts header sections =
    let o = header.optional_header in
    let offset = section_map opts sections (alignment o) in
    let width = entry_size (is_64 o) in
    let export_data = export_data_of offset b (directory 0 o) in
    import_data_of offset width b (import_directory opts o) >>= λ import_data.
    imports_of offset width b import_data >>= λ imports.
    Ok (record { header = header; sections = sections; export_data = export_data; exports = exports_of offset b export_data; import_data = import_data; imports = imports })

-- the section headers, or the refusal of the headers or of the section headers: the tests before memory is asked for
abbrev pub sections_read : List ℕ → ParseOptions → Result (List SectionTable) Refusal
sections_read b opts = header_at b opts.parse_mode >>= λ header. sections_of b header

-- the core of an image, or the first refusal
unfoldable pub core_of : List ℕ → ParseOptions → Result CoreView Refusal
core_of b opts = header_at b opts.parse_mode >>= λ header. sections_of b header >>= λ sections. core_with b opts header sections
