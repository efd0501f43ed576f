-- An image by mode: it is refused if its core is refused. Strict mode also refuses it if a field is refused, for the
-- first such field. Permissive mode leaves a refused field empty. (This project's profile.)
use Rattle.std.specs.Prelude.{◌≡◌, ℕ, Bool, List, [], map, Option, Some, None, Result, Ok, Err, IsOk, unwrap_or, option_and_then, ◌==◌, if◌then◌else◌}
use Rattle.std.specs.Option.{option_map}
use Rattle.pe_core.specs.Exports.{ExportDataView, ExportView, export_data_view, export_view}
use Rattle.pe_core.specs.Header.{HeaderView, header_view}
use Rattle.pe_core.specs.Imports.{ImportRecordView, ImportView, import_data_view, import_view}
use Rattle.pe_core.specs.Refusals.{Refusal, UnlessMemory, IfMemory, kind_of, ◌>>=◌}
use Rattle.pe_core.specs.declared.error.Error.{Error}
use Rattle.pe_core.specs.declared.options.ParseMode.{ParseMode}
use Rattle.pe_core.specs.declared.options.ParseMode.TheVariants.{Strict, Permissive}
use Rattle.pe_core.specs.declared.options.ParseOptions.{ParseOptions}
use Rattle.pe_core.specs.declared.section_table.SectionTable.{SectionTable}
use Rattle.pe_records.specs.Certificates.{CertificateView, certificate_view}
use Rattle.pe_records.specs.DebugRecords.{DebugFields, debug_view}
use Rattle.pe_resource.specs.Resources.{ResourceView, resource_view}
use Rattle.pe_unwind.specs.ExceptionTable.{ExceptionView}
use Rattle.pe_image.specs.Core.{CoreView, core_of, sections_read, AreLibrariesOf}
use Rattle.pe_image.specs.Fields.{Field, given_value, debug_field, exception_field, relocation_field, certificate_field, IsResourceField}
use Rattle.pe_image.specs.Layout.{is_64, entry_point, image_base, is_library}
use Rattle.pe_image.specs.declared.pe.PE.{PE}

-- an image, independent of where its bytes lie in memory, and without the names of its libraries
pub record ImageView : Type 0 where
  pub header : HeaderView
  pub sections : List SectionTable
  pub size : ℕ
  pub name : Option (List ℕ)
  pub is_lib : Bool
  pub is_64 : Bool
  pub entry : ℕ
  pub image_base : ℕ
  pub export_data : Option ExportDataView
  pub import_data : Option (List ImportRecordView)
  pub exports : List ExportView
  pub imports : List ImportView
  pub debug_data : Option DebugFields
  pub exception_data : Option ExceptionView
  pub relocation_data : Option (List ℕ)
  pub certificates : List CertificateView
  pub resource_data : Option ResourceView

-- the view of an image
abbrev pub image_view : {Z : Type 0} → PE Z → ImageView
image_view p = record {
  header = header_view p.header;
  sections = p.sections.items;
  size = p.size;
  name = option_map (λ s. s.now) p.name;
  is_lib = p.is_lib;
  is_64 = p.is_64;
  entry = p.entry;
  image_base = p.image_base;
  export_data = option_map export_data_view p.export_data;
  import_data = option_map import_data_view p.import_data;
  exports = map export_view p.exports.items;
  imports = map import_view p.imports.items;
  debug_data = option_map debug_view p.debug_data;
  exception_data = p.exception_data;
  relocation_data = option_map (λ r. r.bytes.now) p.relocation_data;
  certificates = map certificate_view p.certificates.items;
  resource_data = option_map resource_view p.resource_data;
}

-- the bytes that an image was read from
abbrev pub source_of : {Z : Type 0} → PE Z → List ℕ
source_of p = p.bytes.now

-- the names of the libraries of an image
abbrev pub libraries_of : {Z : Type 0} → PE Z → List (List ℕ)
libraries_of p = map (λ s. s.now) p.libraries.items

-- the libraries of an image are those of its import directory
abbrev pub HasLibraries : {Z : Type 0} → PE Z → Type 0
HasLibraries p = AreLibrariesOf (image_view p).import_data (libraries_of p)

-- the core of an image
abbrev pub core_part : ImageView → CoreView
core_part x = record { header = x.header; sections = x.sections; export_data = x.export_data; exports = x.exports; import_data = x.import_data; imports = x.imports }

-- ---- the fields of a core

-- debug data
abbrev pub debug_of : List ℕ → ParseOptions → CoreView → Field DebugFields
debug_of b opts c = debug_field b opts c.sections c.header.optional_header

-- the exception data of an image for a machine: those that it has, or none where it is for another machine
abbrev pub exceptions_on : ℕ → ImageView → Option ExceptionView
exceptions_on machine image = if image.header.coff_header.machine == machine then image.exception_data else None

-- exception data, by the machine in the COFF header
abbrev pub exceptions_of : List ℕ → ParseOptions → CoreView → Field ExceptionView
exceptions_of b opts c = exception_field b opts c.sections c.header.coff_header.machine c.header.optional_header

-- base relocations
abbrev pub relocations_of : List ℕ → ParseOptions → CoreView → Field (List ℕ)
relocations_of b opts c = relocation_field b opts c.sections c.header.optional_header

-- certificates
abbrev pub certificates_of : List ℕ → ParseOptions → CoreView → Field (List CertificateView)
certificates_of b opts c = certificate_field b opts c.header.optional_header

-- this is the field of the resources
abbrev pub AreResourcesOf : List ℕ → ParseOptions → CoreView → Field ResourceView → Type 0
AreResourcesOf b opts c f = IsResourceField b opts c.sections c.header.optional_header f

-- ---- the image

-- the fields before the resources
pub record FirstFieldsView : Type 0 where
  pub debug_data : Option DebugFields
  pub exception_data : Option ExceptionView
  pub relocation_data : Option (List ℕ)
  pub certificates : List CertificateView

-- the fields of a core before the resources; a refused one is empty
abbrev pub first_fields : List ℕ → ParseOptions → CoreView → FirstFieldsView
first_fields b opts c = record {
  debug_data = given_value (debug_of b opts c);
  exception_data = given_value (exceptions_of b opts c);
  relocation_data = given_value (relocations_of b opts c);
  certificates = unwrap_or (given_value (certificates_of b opts c)) [];
}

-- the image of a core, the fields before the resources, and the resources
abbrev pub image_of : CoreView → FirstFieldsView → Option ResourceView → ImageView
image_of c first resources = record {
  header = c.header;
  sections = c.sections;
  size = 0;
  name = option_and_then (λ d. d.name) c.export_data;
  is_lib = is_library c.header;
  is_64 = is_64 c.header.optional_header;
  entry = entry_point c.header.optional_header;
  image_base = image_base c.header.optional_header;
  export_data = c.export_data;
  import_data = c.import_data;
  exports = c.exports;
  imports = c.imports;
  debug_data = first.debug_data;
  exception_data = first.exception_data;
  relocation_data = first.relocation_data;
  certificates = first.certificates;
  resource_data = resources;
}

-- the image of a core and its fields; a refused one is empty
unfoldable pub with_fields : List ℕ → ParseOptions → CoreView → Field ResourceView → ImageView
with_fields b opts c resources = image_of c (first_fields b opts c) (given_value resources)

-- in strict mode a refused field refuses the image
abbrev pub demanded : {X : Type 0} → ParseMode → Field X → Result (Unit {0}) Refusal
demanded Permissive f = Ok tt
demanded Strict None = Ok tt
demanded Strict (Some (Ok x)) = Ok tt
demanded Strict (Some (Err refusal)) = Err refusal

-- the refusal of the first field before the resources that refuses the image, if one does
abbrev pub first_fields_demanded : List ℕ → ParseOptions → CoreView → Result (Unit {0}) Refusal
first_fields_demanded b opts c = do
  _ ← demanded opts.parse_mode (debug_of b opts c)
  _ ← demanded opts.parse_mode (exceptions_of b opts c)
  _ ← demanded opts.parse_mode (relocations_of b opts c)
  demanded opts.parse_mode (certificates_of b opts c)

-- the core, or the first refusal: of the core, of the fields before the resources
unfoldable pub before_resources : List ℕ → ParseOptions → Result CoreView Refusal
before_resources b opts = core_of b opts >>= λ c. first_fields_demanded b opts c >>= λ u. Ok c

-- this is the image of a core with its resources, or the first refusal: of the core, of the resources
abbrev pub IsAfterCore : List ℕ → ParseOptions → Result CoreView Refusal → Result ImageView Refusal → Type 0
IsAfterCore b opts (Err refusal) r = r ≡ Err refusal
IsAfterCore b opts (Ok c) r =
    (resources : Field ResourceView) × AreResourcesOf b opts c resources
    × (r ≡ (demanded opts.parse_mode resources >>= λ u. Ok (with_fields b opts c resources)))

-- this is the image of these bytes with these options, or its refusal
abbrev pub IsImage : List ℕ → ParseOptions → Result ImageView Refusal → Type 0
IsImage b opts r = IsAfterCore b opts (before_resources b opts) r

-- the result of reading an image; memory runs out only after the headers and the section headers were accepted
abbrev pub ReturnsImage : {Z : Type 0} → List ℕ → ParseOptions → Result (PE Z) Error → Type 0
ReturnsImage b opts (Ok p) = IsImage b opts (Ok (image_view p))
ReturnsImage b opts (Err e) = UnlessMemory e (IsImage b opts (Err (kind_of e))) × IfMemory e (IsOk (sections_read b opts))
