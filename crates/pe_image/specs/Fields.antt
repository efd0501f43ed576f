-- The directories of an image, each defined on its own: absent, a value, or a refusal. (PE format: optional header data
-- directories; which of them are read, and which the options turn off, is this project's profile.)
use Rattle.std.specs.Prelude.{◌≡◌, ℕ, ◌==◌, List, [], Option, Some, None, Result, Ok, Err, if◌then◌else◌}
use Rattle.pe_core.specs.Header.{OptionalHeaderView}
use Rattle.pe_core.specs.Modes.{empty_if_refused}
use Rattle.pe_core.specs.Refusals.{Refusal}
use Rattle.pe_core.specs.Relocations.{directory_bytes}
use Rattle.pe_core.specs.declared.data_directories.DataDirectory.{DataDirectory}
use Rattle.pe_core.specs.declared.options.ParseMode.{ParseMode}
use Rattle.pe_core.specs.declared.options.ParseOptions.{ParseOptions}
use Rattle.pe_core.specs.declared.section_table.SectionTable.{SectionTable}
use Rattle.pe_records.specs.Certificates.{CertificateView, certificates_at}
use Rattle.pe_records.specs.DebugRecords.{DebugFields, debug_data}
use Rattle.pe_resource.specs.Resources.{ResourceView, IsResource}
use Rattle.pe_unwind.specs.ExceptionTable.{ExceptionView, exception_at}
use Rattle.pe_image.specs.Layout.{directory, alignment}
use Rattle.pe_core.specs.declared.header.TheConstants.{COFF_MACHINE_ARM64, COFF_MACHINE_X86_64}

-- absent, a value, or a refusal
abbrev pub Field : Type 0 → Type 0
Field X = Option (Result X Refusal)

-- the content of a directory, if there is one
abbrev pub field : {X : Type 0} → (DataDirectory → Result X Refusal) → Option DataDirectory → Field X
field value None = None
field value (Some d) = Some (value d)

-- debug data: directory 6
abbrev pub debug_field : List ℕ → ParseOptions → List SectionTable → Option OptionalHeaderView → Field DebugFields
debug_field b opts sections o = field (λ d. debug_data opts b d sections (alignment o) 0) (directory 6 o)

-- exception data in a directory: entries of 12 bytes for x64, of 8 bytes for ARM64; absent for any other machine
abbrev pub exceptions_for : ℕ → (ℕ → DataDirectory → Result ExceptionView Refusal) → Option DataDirectory → Field ExceptionView
exceptions_for machine value d =
    if machine == COFF_MACHINE_X86_64 then field (value 12) d else (if machine == COFF_MACHINE_ARM64 then field (value 8) d else None)

-- exception data: directory 3
abbrev pub exception_field : List ℕ → ParseOptions → List SectionTable → ℕ → Option OptionalHeaderView → Field ExceptionView
exception_field b opts sections machine o =
    exceptions_for machine (λ width d. exception_at width b d sections (alignment o) opts) (directory 3 o)

-- base relocations: directory 5
abbrev pub relocation_field : List ℕ → ParseOptions → List SectionTable → Option OptionalHeaderView → Field (List ℕ)
relocation_field b opts sections o = field (λ d. directory_bytes opts b d sections (alignment o)) (directory 5 o)

-- certificates: directory 4, whose address is a file offset; absent if `parse_attribute_certificates` is off
abbrev pub certificate_field : List ℕ → ParseOptions → Option OptionalHeaderView → Field (List CertificateView)
certificate_field b opts o =
    if opts.parse_attribute_certificates then field (λ d. certificates_at b d.virtual_address d.size) (directory 4 o) else None

-- a list by mode: it is empty if it is absent; strict mode keeps a refusal, and permissive mode makes it the empty list
abbrev pub list_by_mode : {X : Type 0} → ParseMode → Field (List X) → Result (List X) Refusal
list_by_mode mode None = Ok []
list_by_mode mode (Some r) = empty_if_refused mode [] r

-- resources: directory 2; absent if `parse_resources` is off
abbrev pub resource_directory : ParseOptions → Option OptionalHeaderView → Option DataDirectory
resource_directory opts o = if opts.parse_resources then directory 2 o else None

-- this is the field of a directory, whose content a relation describes; absent without a directory
abbrev pub IsField : {X : Type 0} → (DataDirectory → Result X Refusal → Type 0) → Option DataDirectory → Field X → Type 0
IsField Holds None f = f ≡ None
IsField Holds (Some d) None = ⊥
IsField Holds (Some d) (Some r) = Holds d r

-- this is the field of the resources
abbrev pub IsResourceField : List ℕ → ParseOptions → List SectionTable → Option OptionalHeaderView → Field ResourceView → Type 0
IsResourceField b opts sections o f = IsField (λ d r. IsResource opts b d sections (alignment o) r) (resource_directory opts o) f

-- the value of a field; `None` if it is absent or refused
abbrev pub given_value : {X : Type 0} → Field X → Option X
given_value None = None
given_value (Some (Ok x)) = Some x
given_value (Some (Err refusal)) = None
