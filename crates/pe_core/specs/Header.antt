-- The headers of an image: the tests in their order, and the value if all pass.
-- (PE format: MS-DOS stub, signature, COFF file header, optional header. The order of errors is this project's
-- profile.)
use Rattle.std.specs.Prelude.{ℕ, ◌+◌, ◌*◌, ◌==◌, ◌||◌, List, [], ◌∷◌, ◌++◌, Bool, Option, Some, None, Result, nat_le, slice_range, if◌then◌else◌}
use Rattle.pe_core.specs.Bytes.{le, holds}
use Rattle.pe_core.specs.Directories.{kept, kept_rows, directories}
use Rattle.pe_core.specs.Options.{is_permissive}
use Rattle.pe_core.specs.Refusals.{Refusal, Short, BadMagic, HeaderPointer, outcome}
use Rattle.pe_core.specs.Records.{dos_header, coff_header, standard_fields_32, standard_fields_64, windows_fields_32, windows_fields_64}
use Rattle.pe_core.specs.declared.data_directories.DataDirectory.{DataDirectory}
use Rattle.pe_core.specs.declared.header.DosHeader.{DosHeader}
use Rattle.pe_core.specs.declared.header.CoffHeader.{CoffHeader}
use Rattle.pe_core.specs.declared.header.Header.{Header}
use Rattle.pe_core.specs.declared.optional_header.StandardFields.{StandardFields}
use Rattle.pe_core.specs.declared.optional_header.WindowsFields.{WindowsFields}
use Rattle.pe_core.specs.declared.optional_header.OptionalHeader.{OptionalHeader}
use Rattle.pe_core.specs.declared.options.ParseMode.{ParseMode}

-- what is seen of an optional header: its fields, and the directories that it keeps
pub record OptionalHeaderView : Type 0 where
  pub standard_fields : StandardFields
  pub windows_fields : WindowsFields
  pub data_directories : List DataDirectory

-- what is seen of all headers, with the stub as bytes
pub record HeaderView : Type 0 where
  pub dos_header : DosHeader
  pub dos_stub : List ℕ
  pub signature : ℕ
  pub coff_header : CoffHeader
  pub optional_header : Option OptionalHeaderView

-- what is seen of `OptionalHeader`
abbrev pub optional_header_view : OptionalHeader → OptionalHeaderView
optional_header_view h = record { standard_fields = h.standard_fields; windows_fields = h.windows_fields; data_directories = kept_rows h.data_directories }

-- the same, if there is one
abbrev pub optional_view : Option OptionalHeader → Option OptionalHeaderView
optional_view None = None
optional_view (Some h) = Some (optional_header_view h)

-- what is seen of `Header`
abbrev pub header_view : Header → HeaderView
header_view h = record { dos_header = h.dos_header; dos_stub = h.dos_stub.now; signature = h.signature; coff_header = h.coff_header; optional_header = optional_view h.optional_header }

-- ---- the optional header at offset p

-- its magic number is that of PE32+
abbrev pub is_pe32_plus : List ℕ → ℕ → Bool
is_pe32_plus b p = le b p 2 == 0x20B

-- the offset of the data directories in the optional header
abbrev pub directories_offset : Bool → ℕ
directories_offset pe32_plus = if pe32_plus then 112 else 96

-- the optional header at offset p: its fields by its magic number, then the directories that are kept
unfoldable pub optional_header : List ℕ → ℕ → OptionalHeaderView
optional_header b p =
    let windows = if is_pe32_plus b p then windows_fields_64 b (p + 24) else windows_fields_32 b (p + 28) in
    record {
      standard_fields = if is_pe32_plus b p then standard_fields_64 b p else standard_fields_32 b p;
      windows_fields = windows;
      data_directories = directories b (p + directories_offset (is_pe32_plus b p)) windows.number_of_rva_and_sizes;
    }

-- its tests: magic number, fields, directories
unfoldable pub optional_header_tests : List ℕ → ℕ → List (Bool × Refusal)
optional_header_tests b p =
    (holds b p 2, Short)
    ∷ (le b p 2 == 0x10B || is_pe32_plus b p, BadMagic)
    ∷ (holds b p (directories_offset (is_pe32_plus b p)), Short)
    ∷ (holds b (p + directories_offset (is_pe32_plus b p)) (8 * kept (optional_header b p).windows_fields.number_of_rva_and_sizes), Short)
    ∷ []

-- the optional header at offset p, or the first refusal
abbrev pub optional_header_at : List ℕ → ℕ → Result OptionalHeaderView Refusal
optional_header_at b p = outcome (optional_header_tests b p) (optional_header b p)

-- ---- all headers

-- the headers of these bytes; the stub is what is between the DOS header and the PE signature
unfoldable pub header : List ℕ → HeaderView
header b =
    let dos = dos_header b 0 in
    let p = dos.pe_pointer in
    let coff = coff_header b (p + 4) in
    record {
      dos_header = dos;
      dos_stub = slice_range b 64 p;
      signature = le b p 4;
      coff_header = coff;
      optional_header = if coff.size_of_optional_header == 0 then None else Some (optional_header b (p + 24));
    }

-- their tests: DOS header, PE signature, COFF header, optional header unless there is none
unfoldable pub header_tests : List ℕ → ParseMode → List (Bool × Refusal)
header_tests b mode =
    let dos = dos_header b 0 in
    let p = dos.pe_pointer in
    let coff = coff_header b (p + 4) in
    ((holds b 0 64, Short)
    ∷ (dos.signature == 0x5A4D, BadMagic)
    ∷ (nat_le 64 p || is_permissive mode, HeaderPointer)
    ∷ (holds b p 4, Short)
    ∷ (le b p 4 == 0x4550, BadMagic)
    ∷ (holds b (p + 4) 20, Short)
    ∷ [])
    ++ (if coff.size_of_optional_header == 0 then [] else optional_header_tests b (p + 24))

-- the headers of these bytes in this mode, or the first refusal
unfoldable pub header_at : List ℕ → ParseMode → Result HeaderView Refusal
header_at b mode = outcome (header_tests b mode) (header b)
