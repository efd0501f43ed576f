-- The images of the modules of a dump.
use Rattle.std.specs.Prelude.{◌≡◌, ℕ, ◌==◌, ◌&&◌, Bool, true, false, List, Option, Some, None, Result, Ok, if◌then◌else◌}
use Rattle.std.specs.Result.{IsOk}
use Rattle.pe_core.specs.Directories.{present}
use Rattle.pe_core.specs.Header.{HeaderView, OptionalHeaderView, header_at}
use Rattle.pe_core.specs.Refusals.{Refusal, ◌>>=◌}
use Rattle.pe_core.specs.Sections.{sections_of}
use Rattle.pe_core.specs.declared.data_directories.DataDirectory.{DataDirectory}
use Rattle.pe_core.specs.declared.header.TheConstants.{COFF_MACHINE_ARM64, COFF_MACHINE_X86_64}
use Rattle.pe_core.specs.declared.options.ParseOptions.{ParseOptions}
use Rattle.pe_core.specs.declared.section_table.SectionTable.{SectionTable}
use Rattle.pe_minidump.specs.declared.module.Module.{Module}
use Rattle.pe_stacks.specs.declared.image.ModuleImage.{ModuleImage}
use Rattle.pe_unwind.specs.ExceptionTable.{ExceptionView, exception_at}

-- an optional header says that an image has so many bytes in memory
abbrev pub has_size : ℕ → Option OptionalHeaderView → Bool
has_size n None = false
has_size n (Some o) = o.windows_fields.size_of_image == n

-- the image with these headers is that of a module: its time stamp and its size are those of the module
abbrev pub is_image_of : HeaderView → Module → Bool
is_image_of h m = (h.coff_header).time_date_stamp == m.time_date_stamp && has_size m.size_of_image h.optional_header

-- The exception data of an image in directory 3: entries of 12 bytes on x64, of 8 bytes on ARM64; none on any other machine. A
-- directory of no bytes is none: no table says then that functions are leaf functions.
abbrev pub exceptions_in : ℕ → (ℕ → DataDirectory → Result ExceptionView Refusal) → Option DataDirectory → Result (Option ExceptionView) Refusal
exceptions_in machine value None = Ok None
exceptions_in machine value (Some d) =
    if d.size == 0 then Ok None
    else (if machine == COFF_MACHINE_X86_64 then (value 12 d >>= λ e. Ok (Some e))
    else (if machine == COFF_MACHINE_ARM64 then (value 8 d >>= λ e. Ok (Some e)) else Ok None))

abbrev pub exceptions_by : List ℕ → ℕ → List SectionTable → ParseOptions → Option OptionalHeaderView → Result (Option ExceptionView) Refusal
exceptions_by b machine sections opts None = Ok None
exceptions_by b machine sections opts (Some o) =
    exceptions_in machine (λ width d. exception_at width b d sections o.windows_fields.file_alignment opts) (present o.data_directories 3)

abbrev pub exceptions_of : List ℕ → HeaderView → List SectionTable → ParseOptions → Result (Option ExceptionView) Refusal
exceptions_of b h sections opts = exceptions_by b (h.coff_header).machine sections opts h.optional_header

-- the options by which an image as loaded is read: each RVA is its own offset
abbrev pub as_loaded : ParseOptions → ParseOptions
as_loaded opts = record opts { resolve_rva = false }

-- what callers see of the image of a module
pub record ModuleImageView : Type 0 where
  pub bytes : List ℕ
  pub sections : List SectionTable
  pub exceptions : Option ExceptionView
  pub opts : ParseOptions

abbrev pub module_image_view : {A : Type 0} → ModuleImage A → ModuleImageView
module_image_view i = record { bytes = i.bytes.now; sections = i.sections.items; exceptions = i.exceptions; opts = i.opts }

-- the image in these bytes, if it is that of a module; the other parts are read of such an image alone
abbrev pub image_of : List ℕ → ParseOptions → Module → Result (Option ModuleImageView) Refusal
image_of b opts m =
    header_at b opts.parse_mode >>= λ h.
    if is_image_of h m then
    (sections_of b h >>= λ s. exceptions_of b h s opts >>= λ e.
    Ok (Some (record { bytes = b; sections = s; exceptions = e; opts = opts })))
    else Ok None

-- the headers of these bytes are those of the image of a module, and all its section headers are there: then memory is asked for
abbrev pub AsksForSections : List ℕ → ParseOptions → Module → Type 0
AsksForSections b opts m = (h : HeaderView) × (header_at b opts.parse_mode ≡ Ok h) × (is_image_of h m ≡ true) × IsOk (sections_of b h)

-- the headers of these bytes are those of the image of a module
abbrev pub Fits : List ℕ → ParseOptions → Module → Type 0
Fits b opts m = (h : HeaderView) × (header_at b opts.parse_mode ≡ Ok h) × (is_image_of h m ≡ true)
