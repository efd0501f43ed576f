-- The parts of an image that memory is asked for. (This project's profile.)
use Rattle.std.specs.Prelude.{◌≡◌, ◌<◌, ◌⊎◌, ℕ, List, Option, None, Result, Ok, Err, IsSome, IsSomeAnd, if◌then◌else◌}
use Rattle.pe_core.specs.Header.{HeaderView, OptionalHeaderView, header_at}
use Rattle.pe_core.specs.Refusals.{IfMemory}
use Rattle.pe_core.specs.SectionMap.{section_map}
use Rattle.pe_core.specs.Sections.{sections_of}
use Rattle.pe_core.specs.declared.data_directories.DataDirectory.{DataDirectory}
use Rattle.pe_core.specs.declared.error.Error.{Error}
use Rattle.pe_core.specs.declared.options.ParseOptions.{ParseOptions}
use Rattle.pe_core.specs.declared.section_table.SectionTable.{SectionTable}
use Rattle.pe_records.specs.Certificates.{ListingStarts}
use Rattle.pe_image.specs.Core.{export_data_of, import_directory}
use Rattle.pe_image.specs.Layout.{alignment, directory}

-- if memory ran out, P holds
abbrev pub MemoryOnlyIf : {X : Type 0} → Type 0 → Result X Error → Type 0
MemoryOnlyIf P (Ok x) = Unit {0}
MemoryOnlyIf P (Err e) = IfMemory e P

-- there is an export directory, and it is not refused
abbrev pub HasExports : List ℕ → ParseOptions → List SectionTable → Option OptionalHeaderView → Type 0
HasExports b opts sections o = IsSome (export_data_of (section_map opts sections (alignment o)) b (directory 0 o))

-- there is an import directory, `parse_imports` is on, and the RVA of the directory is mapped
abbrev pub HasImports : ParseOptions → List SectionTable → Option OptionalHeaderView → Type 0
HasImports opts sections o = IsSomeAnd (import_directory opts o) (λ d. IsSome (section_map opts sections (alignment o) d.virtual_address))

-- the directory is there, and its table starts with a certificate
abbrev pub StartsCertificates : List ℕ → Option DataDirectory → Type 0
StartsCertificates b d = IsSomeAnd d (λ d. ListingStarts b d.virtual_address d.size)

-- the certificate table starts with a certificate, and `parse_attribute_certificates` is on
abbrev pub HasCertificates : List ℕ → ParseOptions → Option OptionalHeaderView → Type 0
HasCertificates b opts o = StartsCertificates b (if opts.parse_attribute_certificates then directory 4 o else None)

-- reading an image asks for memory only for section headers, exports, imports with their libraries, and certificates,
-- and only after the headers and the section headers were accepted
pub record AsksForMemory (b : List ℕ) (opts : ParseOptions) : Type 0 where
  pub header : HeaderView
  pub sections : List SectionTable
  pub is_header : header_at b opts.parse_mode ≡ Ok header
  pub are_sections : sections_of b header ≡ Ok sections
  pub list : (0 < header.coff_header.number_of_sections)
      ⊎ (HasExports b opts sections header.optional_header
      ⊎ (HasImports opts sections header.optional_header
      ⊎ HasCertificates b opts header.optional_header))
