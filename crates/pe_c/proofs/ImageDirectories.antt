-- Base relocations, exception data and certificates: what calls return of them is their field of an image.
use Rattle.std.proofs.Common.{◌≡◌, ℕ, Bool, List, Option, Some, None, Result, Ok, refl, arith}
use Rattle.pe_c.proofs.Cited.{◌==◌, if◌then◌else◌, inside_if_held, range, record_at, OptionalHeaderView, Refusal, ◌>>=◌, mapped}
use Rattle.pe_c.proofs.Cited.{DataDirectory, ParseOptions, SectionTable, certificate_field, exception_field, field}
use Rattle.pe_c.proofs.Cited.{relocation_field, exception_at, table_range, AreCertificates, AreExceptions, AreRelocations, IsTable}
use Rattle.pe_c.proofs.Cited.{Reports, function_table, directory, is_absent, or_absent, options_of, range_of, exception_table_at}
use Rattle.pe_c.proofs.Cited.{Image, Range}
use Rattle.pe_core.specs.Relocations.{directory_bytes}
use Rattle.pe_core.specs.declared.header.TheConstants.{COFF_MACHINE_ARM64, COFF_MACHINE_X86_64}
use Rattle.pe_directories.specs.DirectoryRefusals.{DirectoryRefusal, of_image}
use Rattle.calls_stacks.proofs.CertificateRuns.{certificates_in_turn, refused_in_turn}
use Rattle.pe_c.proofs.ImageFields.{IsThere, Says, part_of, plain, same_map, there}

-- ---- base relocations

-- the range of so many bytes at an offset, as pe_directories finds it
abbrev range_found : List ℕ → ℕ → Option ℕ → Result Range DirectoryRefusal
range_found b size at = ((of_image (mapped at) >>= λ p. of_image (record_at b p size p)) >>= λ p. Ok (record { offset = p; length = size })) >>= λ r. Ok (range_of r)

-- the bytes, as pe_core reads them
abbrev bytes_found : List ℕ → ℕ → Option ℕ → Result (List ℕ) Refusal
bytes_found b size at = mapped at >>= λ p. record_at b p size (range b p size)

pub relocations : (b : List ℕ) (o : ParseOptions) (machine flags : ℕ) (header : Option OptionalHeaderView) (image : Image) (sections : List SectionTable) → Says o machine flags header image →
    AreRelocations b image sections (part_of (relocation_field b o sections header))
unfolding directory_bytes
relocations b o machine flags header image sections s = grind (arith, part_of, same_map, there, inside_if_held)

-- ---- exception data

table_of : (width : ℕ) (b : List ℕ) (d : DataDirectory) (sections : List SectionTable) (unit : ℕ) (o : ParseOptions) →
    Reports (IsTable b unit) (exception_at width b d sections unit o >>= λ v. Ok (Some (range_of (table_range v)))) (exception_at width b d sections unit o >>= λ v. Ok (Some v))
unfolding exception_at
table_of width b d sections unit o = grind arith

-- the table of a directory, unless it is absent
abbrev table_there : ℕ → List ℕ → DataDirectory → List SectionTable → ℕ → ParseOptions → Result (Option Range) Refusal
table_there width b d sections unit o = if is_absent d then Ok None else (exception_at width b d sections unit o >>= λ v. Ok (Some (range_of (table_range v))))

by_machine : (b : List ℕ) (d : Option DataDirectory) (sections : List SectionTable) (unit : ℕ) (o : ParseOptions) (x64 arm64 : Bool) → IsThere d →
    Reports (IsTable b unit)
    (if x64 then (if x64 then table_there 12 b (or_absent d) sections unit o else Ok None) else (if arm64 then table_there 8 b (or_absent d) sections unit o else Ok None))
    (part_of (if x64 then field (λ d. exception_at 12 b d sections unit o) d else (if arm64 then field (λ d. exception_at 8 b d sections unit o) d else None)))
by_machine b d sections unit o x64 arm64 h = grind (arith, table_of)

-- the two calls, where the image says this
abbrev tables_of : List ℕ → ℕ → DataDirectory → List SectionTable → ℕ → ParseOptions → Result (Option Range) Refusal
tables_of b machine d sections unit o =
    if machine == COFF_MACHINE_X86_64 then (if machine == COFF_MACHINE_X86_64 then table_there 12 b d sections unit o else Ok None)
    else (if machine == COFF_MACHINE_ARM64 then table_there 8 b d sections unit o else Ok None)

as_said : (b : List ℕ) (image : Image) (sections : List SectionTable) → function_table b image sections ≡ tables_of b image.machine (directory image 3) sections image.file_alignment (options_of image.mode)
unfolding exception_table_at
as_said b image sections = refl

pub exceptions : (b : List ℕ) (o : ParseOptions) (machine flags : ℕ) (header : Option OptionalHeaderView) (image : Image) (sections : List SectionTable) → Says o machine flags header image →
    AreExceptions b image sections (part_of (exception_field b o sections machine header))
unfolding exception_at
exceptions b o machine flags header image sections s = grind (arith, plain, as_said, part_of, by_machine, there)

-- ---- certificates

pub certificates : (b : List ℕ) (o : ParseOptions) (machine flags : ℕ) (header : Option OptionalHeaderView) (image : Image) → Says o machine flags header image →
    AreCertificates o.parse_attribute_certificates b image (part_of (certificate_field b o header))
certificates b o machine flags header image s = grind (arith, part_of, there, certificates_in_turn, refused_in_turn)
