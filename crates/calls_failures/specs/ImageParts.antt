-- The parts of an image by the calls: what the calls of a part return, read as what the part is. A call of a part returns
-- nothing where an image has no such part, its numbers and ranges, or an error.
use Rattle.std.specs.Prelude.{◌≡◌, ℕ, ◌==◌, List, [], ◌∷◌, ◌++◌, map, Bool, true, false, Option, Some, None, Result, Ok, Err, if◌then◌else◌}
use Rattle.std.specs.List.{AllZip}
use Rattle.std.specs.Option.{option_map}
use Rattle.pe_core.specs.Bytes.{range}
use Rattle.pe_core.specs.Exports.{ExportDataView, ExportView}
use Rattle.pe_core.specs.Imports.{ImportRecordView, ImportView, entry_size}
use Rattle.pe_core.specs.Offsets.{bytes_in}
use Rattle.pe_core.specs.Refusals.{Refusal, ◌>>=◌}
use Rattle.pe_core.specs.declared.byte_range.ByteRange.{ByteRange}
use Rattle.pe_core.specs.declared.data_directories.DataDirectory.{DataDirectory}
use Rattle.pe_core.specs.declared.header.TheConstants.{COFF_MACHINE_ARM64, COFF_MACHINE_X86_64}
use Rattle.pe_core.specs.declared.section_table.SectionTable.{SectionTable}
use Rattle.pe_directories.specs.DirectoryRefusals.{of_image}
use Rattle.pe_records.specs.Certificates.{CertificateView}
use Rattle.pe_resource.specs.ResourceEntries.{entries}
use Rattle.pe_resource.specs.Resources.{ResourceView, no_resources}
use Rattle.pe_resource.specs.VersionFields.{FileStrings, VersionView, value_named}
use Rattle.pe_resource.specs.declared.directory.ImageResourceDirectory.{ImageResourceDirectory}
use Rattle.pe_resource.specs.declared.version.VersionName.{VersionName}
use Rattle.pe_resource.specs.declared.version.VsFixedFileInfo.{VsFixedFileInfo}
use Rattle.pe_unwind.specs.ExceptionTable.{ExceptionView}
use Rattle.calls_directories.specs.Certificates.{ReportsCertificate, StepsCertificates}
use Rattle.calls_base.specs.Directories.{table_at}
use Rattle.calls_directories.specs.DirectoryTables.{export_directory_at, export_fields, root_at}
use Rattle.calls_directories.specs.ExportAddresses.{address_table_at}
use Rattle.calls_directories.specs.Exports.{StepsExports, tables_at}
use Rattle.calls_base.specs.Ranges.{one_if_some, IsPart, IsRange, range_of}
use Rattle.calls_base.specs.Images.{directory, is_absent, map_of_image}
use Rattle.calls_directories.specs.Imports.{StepsImports, StepsLibraries, libraries_at}
use Rattle.calls_directories.specs.Parts.{HasTables, ReportsExport, ReportsImport, record_of}
use Rattle.calls_base.specs.Runs.{ReturnsItems, ReturnsReported}
use Rattle.calls_unwind.specs.Unwinding.{exception_table_at}
use Rattle.calls_directories.specs.Versions.{IsContentOf, fixed_in, text_in}
use Rattle.calls_directories.specs.declared.names.export_addresses.AddressTable.{AddressTable}
use Rattle.calls_directories.specs.declared.directories.tables.ExportFields.{ExportFields}
use Rattle.calls_directories.specs.declared.directories.tables.ResourceDirectory.{ResourceDirectory}
use Rattle.calls_directories.specs.declared.names.exports.Exports.{Exports}
use Rattle.calls_base.specs.declared.image.Image.{Image}
use Rattle.calls_directories.specs.declared.names.imports.Libraries.{Libraries}
use Rattle.calls_directories.specs.declared.names.imports.Library.{Library}
use Rattle.calls_base.specs.declared.ranges.Range.{Range}

-- ---- what a call returned, and what it is

-- there is neither, or what the one has is the other
abbrev pub HasOption : {X Y : Type 0} → (Y → X → Type 0) → Option Y → Option X → Type 0
HasOption Has None None = Unit {0}
HasOption Has None (Some x) = ⊥
HasOption Has (Some y) None = ⊥
HasOption Has (Some y) (Some x) = Has y x

-- both are values, and what the one has is the other; or they are the same refusal
abbrev pub HasResult : {X Y R : Type 0} → (Y → X → Type 0) → Result Y R → Result X R → Type 0
HasResult Has (Ok y) (Ok x) = Has y x
HasResult Has (Ok y) (Err f) = ⊥
HasResult Has (Err e) (Ok x) = ⊥
HasResult Has (Err e) (Err f) = e ≡ f

-- what a call returned of a part, which may be absent, is the part
abbrev pub Reports : {X Y R : Type 0} → (Y → X → Type 0) → Result (Option Y) R → Result (Option X) R → Type 0
Reports Has returned part = HasResult (HasOption Has) returned part

-- ---- base relocations: the range that `pe_c_relocation_blocks` returns has their bytes

abbrev pub AreRelocations : List ℕ → Image → List SectionTable → Result (Option (List ℕ)) Refusal → Type 0
AreRelocations b image sections part = Reports (IsRange b) (table_at 5 b image sections) (of_image part)

-- ---- exception data: the range that `pe_c_function_table` returns of an image for x64, and `pe_c_arm64_table` of any other

abbrev pub function_table : List ℕ → Image → List SectionTable → Result (Option Range) Refusal
function_table b image sections =
    if image.machine == COFF_MACHINE_X86_64 then exception_table_at COFF_MACHINE_X86_64 12 b image sections image.mode
    else exception_table_at COFF_MACHINE_ARM64 8 b image sections image.mode

-- exception data are those of the table at a range
abbrev pub IsTable : List ℕ → ℕ → Range → ExceptionView → Type 0
IsTable b unit r v = v ≡ record { content = b; start = r.offset; size = r.length; alignment = unit }

abbrev pub AreExceptions : List ℕ → Image → List SectionTable → Result (Option ExceptionView) Refusal → Type 0
AreExceptions b image sections part = Reports (IsTable b image.file_alignment) (function_table b image sections) part

-- ---- certificates: the walk of `pe_c_next_certificate` over their directory, whose address is a file offset

-- a part is left out where it is not wanted, and where its directory is absent
abbrev pub is_left_out : Bool → DataDirectory → Bool
is_left_out wanted d = if wanted then is_absent d else true

abbrev pub AreListed : Bool → List ℕ → DataDirectory → Result (Option (List CertificateView)) Refusal → Type 0
AreListed true b d part = part ≡ Ok None
AreListed false b d part =
    (list : Result (List CertificateView) Refusal)
    × ReturnsReported (StepsCertificates b) (ReportsCertificate b) (record { offset = d.virtual_address; length = d.size }) list
    × (part ≡ (list >>= λ cs. Ok (Some cs)))

abbrev pub AreCertificates : Bool → List ℕ → Image → Result (Option (List CertificateView)) Refusal → Type 0
AreCertificates wanted b image part = AreListed (is_left_out wanted (directory image 4)) b (directory image 4) part

-- ---- exports

-- the export directory: its tables are the ranges of the walk, its name is that of `pe_c_export_addresses`, and its numbers
-- are those of `pe_c_export_directory`
pub record IsExportData (b : List ℕ) (image : Image) (sections : List SectionTable) (w : Exports) (d : ExportDataView) : Type 0 where
  pub tables : HasTables b w d
  pub name : (t : AddressTable) × (address_table_at b image (map_of_image image sections) ≡ Ok (Some t)) × IsPart b t.name d.name × (t.has_name ≡ one_if_some d.name)
  pub numbers : (x : ExportFields) × (export_directory_at b image (map_of_image image sections) ≡ Ok (Some x)) × (x ≡ export_fields d.directory)

-- by what `pe_c_export_tables` returns: its walk returns the list; without one there is no directory, and a refused one counts
-- as absent
abbrev pub AreExportsBy : List ℕ → Image → List SectionTable → Result (Option Exports) Refusal → Option ExportDataView → List ExportView → Type 0
AreExportsBy b image sections (Ok (Some w)) found list =
    (d : ExportDataView) × (found ≡ Some d) × IsExportData b image sections w d
    × ReturnsReported (StepsExports (map_of_image image sections) b) (λ x e. ReportsExport b (Some x) (Some e)) w (Ok list)
AreExportsBy b image sections (Ok None) found list = (found ≡ None) × (list ≡ [])
AreExportsBy b image sections (Err refusal) found list = (found ≡ None) × (list ≡ [])

abbrev pub AreExports : List ℕ → Image → List SectionTable → Option ExportDataView → List ExportView → Type 0
AreExports b image sections found list = AreExportsBy b image sections (tables_at b image (map_of_image image sections)) found list

-- ---- imports

-- a library is a record of the import directory
pub record IsLibrary (b : List ℕ) (x : Library) (r : ImportRecordView) : Type 0 where
  pub name : IsRange b x.name r.name
  pub list : IsRange b x.imports.left r.lookups
  pub numbers : record_of x ≡ r.import_directory_entry

-- the walk over the imports of a library returns these; their DLL is the library
abbrev pub AreImportsOf : (ℕ → Option ℕ) → ℕ → List ℕ → Library → Result (List ImportView) Refusal → Type 0
AreImportsOf offset w b x list = ReturnsReported (StepsImports offset w b) (λ y i. ReportsImport b y i × IsRange b x.name i.dll) x.imports list

-- lists one after the other, or the first refusal
abbrev pub in_turn : {X : Type 0} → List (Result (List X) Refusal) → Result (List X) Refusal
in_turn [] = Ok []
in_turn (first ∷ rest) = first >>= λ xs. in_turn rest >>= λ ys. Ok (xs ++ ys)

-- by what the walk over the libraries returns: first all libraries, then the imports of each
abbrev pub AreImportsAfter : (ℕ → Option ℕ) → ℕ → List ℕ → Libraries → Result (List ImportRecordView) Refusal → Result (Option (List ImportRecordView × List ImportView)) Refusal → Type 0
AreImportsAfter offset w b walk (Err refusal) part = ReturnsReported (StepsLibraries offset w b) (IsLibrary b) walk (Err refusal) × (part ≡ Err refusal)
AreImportsAfter offset w b walk (Ok records) part =
    (libraries : List Library) × (lists : List (Result (List ImportView) Refusal))
    × ReturnsItems (StepsLibraries offset w b) walk (map (λ x. Ok x) libraries)
    × AllZip (IsLibrary b) libraries records
    × AllZip (AreImportsOf offset w b) libraries lists
    × (part ≡ (in_turn lists >>= λ imports. Ok (Some (records, imports))))

-- by what `pe_c_import_libraries` returns, unless the imports are left out
abbrev pub AreImportsBy : Bool → List ℕ → Image → List SectionTable → Result (Option Libraries) Refusal → Result (Option (List ImportRecordView × List ImportView)) Refusal → Type 0
AreImportsBy false b image sections start part = part ≡ Ok None
AreImportsBy true b image sections (Err refusal) part = part ≡ Err refusal
AreImportsBy true b image sections (Ok None) part = part ≡ Ok None
AreImportsBy true b image sections (Ok (Some walk)) part =
    (records : Result (List ImportRecordView) Refusal) × AreImportsAfter (map_of_image image sections) (entry_size (image.width == 64)) b walk records part

abbrev pub AreImports : Bool → List ℕ → Image → List SectionTable → Result (Option (List ImportRecordView × List ImportView)) Refusal → Type 0
AreImports wanted b image sections part = AreImportsBy wanted b image sections (libraries_at image (map_of_image image sections)) part

-- ---- resources

-- the values of the twelve names, each by `pe_c_version_text_in`
abbrev pub AreStrings : List ℕ → Range → FileStrings → Type 0
AreStrings b content s = (name : VersionName) → (t : Option Range) × (text_in b content (Some name) ≡ Ok t) × HasOption (IsRange b) t (value_named name s)

-- the version information of a content, by what `pe_c_fixed_version_in` returns
abbrev pub IsVersionBy : List ℕ → Range → Result (Option VsFixedFileInfo) Refusal → Result (Option VersionView) Refusal → Type 0
IsVersionBy b content (Err refusal) part = part ≡ Err refusal
IsVersionBy b content (Ok fixed) part = (s : FileStrings) × AreStrings b content s × (part ≡ Ok (Some (record { fixed_info = fixed; strings = s })))

-- the same of the range that `pe_c_version_blocks` returns
abbrev pub IsVersionAt : List ℕ → Result (Option ByteRange) Refusal → Result (Option VersionView) Refusal → Type 0
IsVersionAt b (Err refusal) part = part ≡ Err refusal
IsVersionAt b (Ok None) part = part ≡ Ok None
IsVersionAt b (Ok (Some c)) part = IsVersionBy b (range_of c) (fixed_in b (range_of c)) part

-- a directory of the resource tree: its numbers are those of the field
abbrev pub directory_read : ResourceDirectory → ImageResourceDirectory
directory_read x = record {
  characteristics = x.characteristics;
  time_date_stamp = x.time_date_stamp;
  major_version = x.major_version;
  minor_version = x.minor_version;
  number_of_named_entries = x.number_of_named_entries;
  number_of_id_entries = x.number_of_id_entries;
}

-- the resources with this first directory: the range of its entries has their bytes
abbrev pub resources_at : List ℕ → ResourceDirectory → Result (Option VersionView) Refusal → Result (Option ByteRange) Refusal → Result (Option ResourceView) Refusal
resources_at b root version manifest = do
  v ← version
  m ← manifest
  Ok (Some (record { directory = directory_read root; first_entries = entries (range b root.entries.offset root.entries.length); version = v; manifest = option_map (bytes_in b) m }))

-- by what `pe_c_resource_root` returns: the version information, then the manifest of `pe_c_manifest`. Data that permissive
-- mode finds too short for a directory are no resources
abbrev pub AreResourcesBy : List ℕ → Image → List SectionTable → Result (Option ResourceDirectory) Refusal → Result (Option ResourceView) Refusal → Type 0
AreResourcesBy b image sections (Err refusal) part = part ≡ Err refusal
AreResourcesBy b image sections (Ok None) part = part ≡ Ok (Some no_resources)
AreResourcesBy b image sections (Ok (Some root)) part =
    (content : Result (Option ByteRange) Refusal) × (version : Result (Option VersionView) Refusal) × (manifest : Result (Option ByteRange) Refusal)
    × IsContentOf b image (λ _. sections) image.mode 16 content
    × IsVersionAt b content version
    × IsContentOf b image (λ _. sections) image.mode 24 manifest
    × (part ≡ resources_at b root version manifest)

abbrev pub AreResourcesUnless : Bool → List ℕ → Image → List SectionTable → Result (Option ResourceView) Refusal → Type 0
AreResourcesUnless true b image sections part = part ≡ Ok None
AreResourcesUnless false b image sections part = AreResourcesBy b image sections (root_at b image sections) part

abbrev pub AreResources : Bool → List ℕ → Image → List SectionTable → Result (Option ResourceView) Refusal → Type 0
AreResources wanted b image sections part = AreResourcesUnless (is_left_out wanted (directory image 2)) b image sections part
