-- The fields before the resources, read one after the other. For proofs only.
use Rattle.std.specs.Prelude.{◌≡◌, List, ℕ, Option, Some, None, Result, Ok, map}
use Rattle.std.specs.Option.{option_map}
use Rattle.pe_core.specs.Modes.{none_if_refused}
use Rattle.pe_core.specs.Refusals.{Refusal, answer_by, ◌>>=◌}
use Rattle.pe_core.specs.declared.data_directories.DataDirectory.{DataDirectory}
use Rattle.pe_core.specs.declared.error.Error.{Error}
use Rattle.pe_core.specs.declared.section_table.SectionTable.{SectionTable}
use Rattle.pe_core.specs.declared.options.ParseMode.{ParseMode}
use Rattle.pe_core.specs.declared.options.ParseOptions.{ParseOptions}
use Rattle.pe_records.specs.Certificates.{certificate_view}
use Rattle.pe_records.specs.DebugRecords.{debug_view}
use Rattle.pe_resource.specs.Resources.{ResourceView, resource_view, IsResource}
use Rattle.pe_resource.specs.declared.resource.ResourceData.{ResourceData}
use Rattle.pe_image.specs.Core.{CoreView}
use Rattle.pe_image.specs.Fields.{Field, IsField, list_by_mode}
use Rattle.pe_image.specs.Image.{FirstFieldsView, debug_of, exceptions_of, relocations_of, certificates_of}
use Rattle.pe_image.specs.declared.fields.FirstFields.{FirstFields}

-- a field by mode: strict mode keeps a refusal, permissive mode makes it `None`
abbrev pub by_mode : {X : Type 0} → ParseMode → Field X → Result (Option X) Refusal
by_mode mode None = Ok None
by_mode mode (Some r) = none_if_refused mode r

-- the result of reading the resources of a directory, by mode
abbrev pub ReturnsResources : ParseOptions → List ℕ → List SectionTable → ℕ → Option DataDirectory → Result (Option ResourceData) Error → Type 0
ReturnsResources opts b sections unit d answer =
    (f : Field ResourceView) × IsField (λ d r. IsResource opts b d sections unit r) d f × (answer_by (option_map resource_view) answer ≡ by_mode opts.parse_mode f)

-- the view of the fields before the resources
abbrev pub first_fields_view : {Z : Type 0} → FirstFields Z → FirstFieldsView
first_fields_view f = record {
  debug_data = option_map debug_view f.debug_data;
  exception_data = f.exception_data;
  relocation_data = option_map (λ r. r.bytes.now) f.relocation_data;
  certificates = map certificate_view f.certificates.items;
}

-- the fields before the resources, by mode, or the first refusal
unfoldable pub first_fields_in_turn : List ℕ → ParseOptions → CoreView → Result FirstFieldsView Refusal
first_fields_in_turn b opts c = do
  debug ← by_mode opts.parse_mode (debug_of b opts c)
  exceptions ← by_mode opts.parse_mode (exceptions_of b opts c)
  relocations ← by_mode opts.parse_mode (relocations_of b opts c)
  certificates ← list_by_mode opts.parse_mode (certificates_of b opts c)
  Ok (record { debug_data = debug; exception_data = exceptions; relocation_data = relocations; certificates = certificates })
