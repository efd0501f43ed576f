-- An image by the calls, in the order and by the modes of `PE`: headers, section headers, exports and imports; then debug
-- data, exception data, base relocations, certificates and resources, of which permissive mode leaves out what is refused.
use Rattle.std.specs.Prelude.{◌≡◌, ℕ, ◌/◌, ◌%◌, ◌==◌, List, [], Bool, true, false, Option, None, Result, Ok, Err, unwrap_or, option_and_then, map, Some}
use Rattle.std.specs.Option.{option_map}
use Rattle.pe_core.specs.Exports.{ExportDataView, ExportView}
use Rattle.pe_core.specs.Header.{HeaderView}
use Rattle.pe_core.specs.Imports.{ImportRecordView, ImportView, AreLibraries, entry_size}
use Rattle.pe_core.specs.Refusals.{Refusal, ◌>>=◌}
use Rattle.pe_core.specs.Sections.{sections_at}
use Rattle.pe_core.specs.declared.header.TheConstants.{IMAGE_FILE_DLL}
use Rattle.pe_core.specs.declared.options.ParseMode.{ParseMode}
use Rattle.pe_core.specs.declared.options.ParseMode.TheVariants.{Strict, Permissive}
use Rattle.pe_core.specs.declared.options.ParseOptions.{ParseOptions}
use Rattle.pe_core.specs.declared.section_table.SectionTable.{SectionTable}
use Rattle.pe_image.specs.Image.{ImageView}
use Rattle.pe_records.specs.Certificates.{CertificateView}
use Rattle.pe_records.specs.DebugRecords.{DebugFields}
use Rattle.pe_resource.specs.Resources.{ResourceView}
use Rattle.pe_unwind.specs.ExceptionTable.{ExceptionView}
use Rattle.calls_headers.specs.Headers.{headers_at}
use Rattle.pe_c.specs.HeadersRead.{header_of}
use Rattle.pe_c.specs.ImageDebug.{AreDebugData}
use Rattle.calls_failures.specs.ImageParts.{AreCertificates, AreExceptions, AreExports, AreImports, AreRelocations, AreResources}
use Rattle.calls_base.specs.Images.{image_at, map_of_image}
use Rattle.calls_headers.specs.declared.headers.Headers.{Headers}
use Rattle.calls_base.specs.declared.image.Image.{Image}
use Rattle.std.specs.List.{AllZip}
use Rattle.calls_directories.specs.Imports.{StepsLibraries, libraries_at}
use Rattle.calls_base.specs.Ranges.{IsRange}
use Rattle.calls_base.specs.Runs.{ReturnsItems}
use Rattle.calls_directories.specs.declared.names.imports.Libraries.{Libraries}
use Rattle.calls_directories.specs.declared.names.imports.Library.{Library}

-- the number of a way to read: bit 0 is permissive mode, bit 1 an image as loaded, whose RVAs are not mapped
abbrev pub number_of_mode : ParseMode → Bool → ℕ
number_of_mode Strict true = 0
number_of_mode Permissive true = 1
number_of_mode Strict false = 2
number_of_mode Permissive false = 3

abbrev pub mode_of : ParseOptions → ℕ
mode_of o = number_of_mode o.parse_mode o.resolve_rva

-- the parts of an image, each absent, a value or a refusal; an export directory that is refused is absent
pub record Parts : Type 0 where
  pub export_data : Option ExportDataView
  pub exports : List ExportView
  pub imports : Result (Option (List ImportRecordView × List ImportView)) Refusal
  pub debug_data : Result (Option DebugFields) Refusal
  pub exception_data : Result (Option ExceptionView) Refusal
  pub relocation_data : Result (Option (List ℕ)) Refusal
  pub certificates : Result (Option (List CertificateView)) Refusal
  pub resource_data : Result (Option ResourceView) Refusal

-- these are the parts that the calls return; the options leave out imports, certificates and resources
pub record AreParts (b : List ℕ) (o : ParseOptions) (image : Image) (sections : List SectionTable) (p : Parts) : Type 0 where
  pub exports : AreExports b image sections p.export_data p.exports
  pub imports : AreImports o.parse_imports b image sections p.imports
  pub debug_data : AreDebugData b image sections p.debug_data
  pub exception_data : AreExceptions b image sections p.exception_data
  pub relocation_data : AreRelocations b image sections p.relocation_data
  pub certificates : AreCertificates o.parse_attribute_certificates b image p.certificates
  pub resource_data : AreResources o.parse_resources b image sections p.resource_data

-- a part by mode: strict mode keeps a refusal, permissive mode leaves the part out
abbrev pub part_by_mode : {X : Type 0} → ParseMode → Result (Option X) Refusal → Result (Option X) Refusal
part_by_mode mode (Ok x) = Ok x
part_by_mode Strict (Err refusal) = Err refusal
part_by_mode Permissive (Err refusal) = Ok None

-- the image of these parts, or the first refusal
unfoldable pub image_of_parts : ParseMode → HeaderView → Image → List SectionTable → Parts → Result ImageView Refusal
image_of_parts mode header image sections p = do
  imports ← p.imports
  debug_data ← part_by_mode mode p.debug_data
  exception_data ← part_by_mode mode p.exception_data
  relocation_data ← part_by_mode mode p.relocation_data
  certificates ← part_by_mode mode p.certificates
  resource_data ← part_by_mode mode p.resource_data
  Ok (record {
    header = header;
    sections = sections;
    size = 0;
    name = option_and_then (λ d. d.name) p.export_data;
    is_lib = image.characteristics / IMAGE_FILE_DLL % 2 == 1;
    is_64 = image.width == 64;
    entry = image.entry;
    image_base = image.base;
    export_data = p.export_data;
    import_data = option_map (λ i. i.0) imports;
    exports = p.exports;
    imports = unwrap_or (option_map (λ i. i.1) imports) [];
    debug_data = debug_data;
    exception_data = exception_data;
    relocation_data = relocation_data;
    certificates = unwrap_or certificates [];
    resource_data = resource_data;
  })

-- after the section headers: the headers are those that `pe_c_headers` returns
abbrev pub IsImageWith : List ℕ → ParseOptions → Image → Result (List SectionTable) Refusal → Result ImageView Refusal → Type 0
IsImageWith b o image (Err refusal) r = r ≡ Err refusal
IsImageWith b o image (Ok sections) r =
    (headers : Headers) × (p : Parts) × (headers_at b (mode_of o) ≡ Ok headers) × AreParts b o image sections p
    × (r ≡ image_of_parts o.parse_mode (header_of b headers) image sections p)

-- after `pe_c_image`: `pe_c_sections` reads as many section headers as the image says
abbrev pub IsImageAfter : List ℕ → ParseOptions → Result Image Refusal → Result ImageView Refusal → Type 0
IsImageAfter b o (Err refusal) r = r ≡ Err refusal
IsImageAfter b o (Ok image) r = IsImageWith b o image (sections_at b image.sections_offset image.number_of_sections) r

-- this is the image of these bytes with these options by the calls, or the first error that they return
abbrev pub IsImageOfCalls : List ℕ → ParseOptions → Result ImageView Refusal → Type 0
IsImageOfCalls b o r = IsImageAfter b o (image_at b (mode_of o)) r

-- ---- the libraries of an image by the calls: the names of all that the walk of `pe_c_next_library` returns

-- the range that is the name of a library has these bytes
abbrev pub IsNameOf : List ℕ → Library → List ℕ → Type 0
IsNameOf b x name = IsRange b x.name name

-- the walk returns libraries to the end, and these are their names, sorted by their bytes, each once
abbrev pub AreNamesAfter : (ℕ → Option ℕ) → ℕ → List ℕ → Libraries → List (List ℕ) → Type 0
AreNamesAfter offset w b walk sorted =
    (libraries : List Library) × (names : List (List ℕ))
    × ReturnsItems (StepsLibraries offset w b) walk (map (λ x. Ok x) libraries)
    × AllZip (IsNameOf b) libraries names
    × AreLibraries names sorted

-- by what `pe_c_import_libraries` returns: no names where that is no walk, and where the imports are left out
abbrev pub AreNamesBy : Bool → List ℕ → Image → List SectionTable → Result (Option Libraries) Refusal → List (List ℕ) → Type 0
AreNamesBy false b image sections start sorted = sorted ≡ []
AreNamesBy true b image sections (Err refusal) sorted = sorted ≡ []
AreNamesBy true b image sections (Ok None) sorted = sorted ≡ []
AreNamesBy true b image sections (Ok (Some walk)) sorted = AreNamesAfter (map_of_image image sections) (entry_size (image.width == 64)) b walk sorted

abbrev pub AreLibrariesOfCalls : List ℕ → ParseOptions → Image → List SectionTable → List (List ℕ) → Type 0
AreLibrariesOfCalls b o image sections sorted = AreNamesBy o.parse_imports b image sections (libraries_at image (map_of_image image sections)) sorted
