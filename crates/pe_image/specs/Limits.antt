-- A limit on the imports of an image: where there are more, the image is refused in place of what `PE::parse` has of it.
-- Import records may share their lookup entries, so their imports may not fit in memory. (This project's profile.)
use Rattle.std.specs.Prelude.{◌≡◌, ◌<◌, ◌≤◌, ℕ, List, Option, None, Some, Result, Ok, Err, length, IsOk}
use Rattle.pe_core.specs.Header.{OptionalHeaderView, header_at}
use Rattle.pe_core.specs.Imports.{ImportRecordView, entry_size, import_entries}
use Rattle.pe_core.specs.Refusals.{Refusal, ImportsLimit, UnlessMemory, IfMemory, kind_of, ◌>>=◌}
use Rattle.pe_core.specs.SectionMap.{section_map}
use Rattle.pe_core.specs.Sections.{sections_of}
use Rattle.pe_core.specs.declared.error.Error.{Error}
use Rattle.pe_core.specs.declared.options.ParseOptions.{ParseOptions}
use Rattle.pe_core.specs.declared.section_table.SectionTable.{SectionTable}
use Rattle.pe_image.specs.Core.{import_data_of, import_directory, sections_read}
use Rattle.pe_image.specs.Image.{ImageView, IsImage, image_view}
use Rattle.pe_image.specs.Layout.{alignment, is_64}
use Rattle.pe_image.specs.declared.pe.PE.{PE}

-- how many imports an import directory has; `width` is the size of a lookup entry in bytes
abbrev pub entry_count : ℕ → Option (List ImportRecordView) → ℕ
entry_count width None = 0
entry_count width (Some records) = length (import_entries width records)

-- the number, or 0 if it cannot be read
abbrev pub number_or_0 : Result ℕ Refusal → ℕ
number_or_0 (Ok n) = n
number_or_0 (Err refusal) = 0

-- how many imports an image with these headers and sections has, if its import directory is not refused
abbrev pub imports_with : List ℕ → ParseOptions → Option OptionalHeaderView → List SectionTable → Result ℕ Refusal
imports_with b opts o sections =
    let width = entry_size (is_64 o) in
    import_data_of (section_map opts sections (alignment o)) width b (import_directory opts o) >>= λ records. Ok (entry_count width records)

-- how many imports an image has; 0 if its headers, section headers or import directory are refused
unfoldable pub import_count : List ℕ → ParseOptions → ℕ
import_count b opts = number_or_0 (header_at b opts.parse_mode >>= λ header. sections_of b header >>= λ sections. imports_with b opts header.optional_header sections)

-- this is the image, or its refusal, where it has at most so many imports, and else `ImportsLimit`
pub record IsImageWithin (most : ℕ) (b : List ℕ) (opts : ParseOptions) (r : Result ImageView Refusal) : Type 0 where
  pub within : import_count b opts ≤ most → IsImage b opts r
  pub over : most < import_count b opts → r ≡ Err ImportsLimit

-- the result of reading an image within this limit; memory runs out only after the headers and the section headers were
-- accepted
abbrev pub ReturnsImageWithin : {Z : Type 0} → ℕ → List ℕ → ParseOptions → Result (PE Z) Error → Type 0
ReturnsImageWithin most b opts (Ok p) = IsImageWithin most b opts (Ok (image_view p))
ReturnsImageWithin most b opts (Err e) = UnlessMemory e (IsImageWithin most b opts (Err (kind_of e))) × IfMemory e (IsOk (sections_read b opts))
