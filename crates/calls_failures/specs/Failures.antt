-- The numbers of a refusal of headers: where it is, and what stands there.
use Rattle.std.specs.Prelude.{◌≡◌, ℕ, ◌+◌, ◌-◌, ◌*◌, ◌==◌, ◌||◌, List, [], ◌∷◌, Bool, nat_le, Option, Some, None, Result, Ok, Err, if◌then◌else◌}
use Rattle.pe_core.specs.Bytes.{le, holds}
use Rattle.pe_core.specs.Directories.{kept}
use Rattle.pe_core.specs.Header.{directories_offset, is_pe32_plus}
use Rattle.pe_core.specs.Options.{is_permissive}
use Rattle.pe_core.specs.Refusals.{BadMagic, HeaderPointer, Refusal, Short, TeSize}
use Rattle.pe_core.specs.declared.options.ParseMode.{ParseMode}
use Rattle.calls_base.specs.HandsOut.{result_number}
use Rattle.calls_base.specs.Modes.{mode_of_number}
use Rattle.calls_base.specs.declared.numbers.Failure.{Failure}
use Rattle.calls_headers.specs.declared.headers.CoffFields.{CoffFields}
use Rattle.calls_base.specs.declared.image.Image.{Image}
use Rattle.calls_headers.specs.declared.te.TeImage.{TeImage}
use Rattle.pe_core.specs.declared.header.TheConstants.{DOS_MAGIC, PE_MAGIC, TE_MAGIC}
use Rattle.pe_core.specs.declared.optional_header.TheConstants.{MAGIC_32}

-- the failure with this number, of n bytes at an offset, which hold this value
abbrev pub failure_at : ℕ → ℕ → ℕ → ℕ → Failure
failure_at number p n value = record { offset = p; needed = n; value = value; result = number; spare = 0 }

-- n bytes are needed at an offset, and the bytes end before
abbrev pub truncated_at : ℕ → ℕ → Failure
truncated_at p n = failure_at (result_number Short) p n 0

-- the number in the n bytes at an offset is refused, by the result with this number
abbrev pub refused_at : ℕ → List ℕ → ℕ → ℕ → Failure
refused_at number b p n = failure_at number p n (le b p n)

-- the failure of the first test that fails
abbrev pub first_failure : List (Bool × Failure) → Option Failure
first_failure [] = None
first_failure (test ∷ tests) = if test.0 then first_failure tests else Some test.1

-- a failure, or else that of what is read after it
abbrev pub or_later : Option Failure → Option Failure → Option Failure
or_later None later = later
or_later (Some f) later = Some f

-- ---- the headers of an image

-- the DOS header: 64 bytes, its signature, its pointer to the PE header
abbrev pub dos_failures : List ℕ → ParseMode → List (Bool × Failure)
dos_failures b mode =
    (holds b 0 64, truncated_at 0 64)
    ∷ (le b 0 2 == DOS_MAGIC, refused_at (result_number BadMagic) b 0 2)
    ∷ (nat_le 64 (le b 60 4) || is_permissive mode, refused_at (result_number HeaderPointer) b 60 4)
    ∷ []

-- the PE signature at offset p and the COFF header after it
abbrev pub pe_failures : List ℕ → ℕ → List (Bool × Failure)
pe_failures b p =
    (holds b p 4, truncated_at p 4)
    ∷ (le b p 4 == PE_MAGIC, refused_at (result_number BadMagic) b p 4)
    ∷ (holds b (p + 4) 20, truncated_at (p + 4) 20)
    ∷ []

-- the size of the fields of the optional header at offset p, after which its directories are
abbrev pub fields_size : List ℕ → ℕ → ℕ
fields_size b p = directories_offset (is_pe32_plus b p)

-- the optional header at offset p: its magic number, its fields, the directories that are kept of those that it counts
abbrev pub optional_failures : List ℕ → ℕ → List (Bool × Failure)
optional_failures b p =
    let size = fields_size b p in
    let directories = 8 * kept (le b (p + (size - 4)) 4) in
    (holds b p 2, truncated_at p 2)
    ∷ (le b p 2 == MAGIC_32 || is_pe32_plus b p, refused_at (result_number BadMagic) b p 2)
    ∷ (holds b p size, truncated_at p size)
    ∷ (holds b (p + size) directories, truncated_at (p + size) directories)
    ∷ []

-- the optional header at offset p, unless the COFF header before it says that it has no bytes
abbrev pub optional_failure : List ℕ → ℕ → Option Failure
optional_failure b p = if le b (p - 4) 2 == 0 then None else first_failure (optional_failures b p)

-- what is wrong first with the headers of an image, if anything is
unfoldable pub header_failure : List ℕ → ParseMode → Option Failure
header_failure b mode =
    let p = le b 60 4 in
    or_later (first_failure (dos_failures b mode)) (or_later (first_failure (pe_failures b p)) (optional_failure b (p + 24)))

abbrev pub image_failure : List ℕ → ℕ → Option Failure
image_failure b mode = header_failure b (mode_of_number mode)

-- ---- section headers

-- 40 bytes for each of so many sections, from an offset on; without sections it may be any
abbrev pub rows_failures : List ℕ → ℕ → ℕ → List (Bool × Failure)
rows_failures b p count =
    let size = 40 * count in
    (count == 0 || holds b p size, truncated_at p size)
    ∷ []

-- those of an image, at the offset that its record has
abbrev pub section_failures : List ℕ → Image → List (Bool × Failure)
section_failures b image = rows_failures b image.sections_offset image.number_of_sections

-- those of a TE image follow the 40 bytes of its header
abbrev pub te_section_failures : List ℕ → TeImage → List (Bool × Failure)
te_section_failures b te = rows_failures b 40 te.number_of_sections

-- those of an object follow its header and the optional header
abbrev pub object_section_failures : List ℕ → CoffFields → List (Bool × Failure)
object_section_failures b c = rows_failures b (20 + c.size_of_optional_header) c.number_of_sections

-- ---- the header of a TE image

-- its 40 bytes, its signature, its stripped size
unfoldable pub te_failures : List ℕ → List (Bool × Failure)
te_failures b =
    (holds b 0 40, truncated_at 0 40)
    ∷ (le b 0 2 == TE_MAGIC, refused_at (result_number BadMagic) b 0 2)
    ∷ (nat_le 40 (le b 6 2), refused_at (result_number TeSize) b 6 2)
    ∷ []

-- ---- what a failure says of a call

-- a call refuses exactly where there is a failure, and by its number
abbrev pub Explains : {X : Type 0} → Result X Refusal → Option Failure → Type 0
Explains (Ok x) None = Unit {0}
Explains (Ok x) (Some f) = ⊥
Explains (Err refusal) None = ⊥
Explains (Err refusal) (Some f) = f.result ≡ result_number refusal
