-- What the calls return that lay an image out as a loader does, and that relocate it.
use Rattle.std.specs.Prelude.{◌≡◌, ℕ, ◌-◌, ◌^◌, ◌<◌, ◌≤◌, ◌==◌, Bool, true, false, List, ◌++◌, drop, length, slice_index_or, nat_lt, nat_le, Option, Some, None, Result, Ok, Err, if◌then◌else◌}
use Rattle.pe_core.specs.Refusals.{◌>>=◌}
use Rattle.pe_core.specs.declared.section_table.SectionTable.{SectionTable}
use Rattle.pe_directories.specs.DirectoryRefusals.{DirectoryRefusal, directory_kind_of}
use Rattle.pe_directories.specs.ImageParts.{table_of}
use Rattle.pe_directories.specs.LoadedImages.{loaded}
use Rattle.pe_directories.specs.Relocated.{relocated}
use Rattle.pe_directories.specs.declared.base_relocation.BaseRelocation.{BaseRelocation}
use Rattle.pe_directories.specs.declared.base_relocation.TheConstants.{IMAGE_REL_BASED_DIR64, IMAGE_REL_BASED_HIGHLOW}
use Rattle.pe_directories.specs.declared.error.DirectoryError.{DirectoryError}
use Rattle.calls_base.specs.Directories.{if_present, image_parts}
use Rattle.calls_base.specs.DirectoryResults.{directory_number}
use Rattle.calls_base.specs.Images.{directory}
use Rattle.pe_lookup.specs.SectionIndexes.{no_entry, started}
use Rattle.calls_base.specs.Views.{map_of}
use Rattle.calls_base.specs.declared.image.Image.{Image}
use Rattle.calls_base.specs.declared.results.TheConstants.{DONE, NOTHING, ROOM}
use Rattle.pe_core.specs.declared.range_index.RangeEntry.{RangeEntry}
use Rattle.calls_base.specs.declared.view.View.{View}

-- the image of a view as a loader lays it out
abbrev pub loaded_of : View → List ℕ
loaded_of v = loaded (map_of v) v.bytes.now v.image.now.size_of_headers v.image.now.size_of_image

-- by whether the room is too small: then the number is ROOM, and the room is unchanged; else the image is at its start, and what
-- follows is unchanged. The size of the image is written in both cases
abbrev pub PutsImageIf : Bool → View → ℕ → List ℕ → List ℕ → Type 0
PutsImageIf true v number old new = (number ≡ ROOM) × (new ≡ old)
PutsImageIf false v number old new = (number ≡ DONE) × (new ≡ loaded_of v ++ drop v.image.now.size_of_image old)

abbrev pub PutsImage : View → ℕ → List ℕ → List ℕ → ℕ → Type 0
PutsImage v number old new written =
    PutsImageIf (nat_lt (length old) v.image.now.size_of_image) v number old new × (written ≡ v.image.now.size_of_image)

-- the field of the optional header that has the image base, as a relocation: 24 bytes after its start, or 28 in PE32, where the
-- checksum is 64 bytes after it
abbrev pub base_field : Image → Option BaseRelocation
base_field image =
    if image.width == 64 then Some (record { kind = IMAGE_REL_BASED_DIR64; rva = image.checksum_offset - 40; argument = None })
    else if image.width == 32 then Some (record { kind = IMAGE_REL_BASED_HIGHLOW; rva = image.checksum_offset - 36; argument = None })
    else None

-- an image as loaded, relocated by the table of an image, if that has one
abbrev pub relocated_by : List ℕ → Image → List SectionTable → ℕ → List ℕ → Result (Option (List ℕ)) DirectoryRefusal
relocated_by b image sections difference old =
    if_present (directory image 5)
    (table_of (image_parts b image sections) (directory image 5) >>= λ table. relocated difference (base_field image) table old)

-- DONE and the image; NOTHING where there is no table; else the number of the refusal. The image is unchanged but where it is DONE
abbrev pub ChangesRoom : ℕ → List ℕ → List ℕ → Result (Option (List ℕ)) DirectoryRefusal → Type 0
ChangesRoom number old new (Ok (Some image)) = (number ≡ DONE) × (new ≡ image)
ChangesRoom number old new (Ok None) = (number ≡ NOTHING) × (new ≡ old)
ChangesRoom number old new (Err refusal) = (number ≡ directory_number refusal) × (new ≡ old)

-- the same of a call in Rattle, which returns whether there is a table
abbrev pub RelocatesRoom : Result Bool DirectoryError → Result (Option (List ℕ)) DirectoryRefusal → List ℕ → List ℕ → Type 0
RelocatesRoom (Ok true) defined old new = defined ≡ Ok (Some new)
RelocatesRoom (Ok false) defined old new = (defined ≡ Ok None) × (new ≡ old)
RelocatesRoom (Err e) defined old new = (defined ≡ Err (directory_kind_of e)) × (new ≡ old)

-- ---- runs by an index

-- the start of the last of so many entries, the greatest number where there are fewer
abbrev pub start_of_last : List RangeEntry → ℕ → ℕ
start_of_last es count = if nat_le count (length es) then (slice_index_or es (count - 1) no_entry).start else 2 ^ 64 - 1

-- the number in the last of so many entries, 0 without one
abbrev pub number_of_last : List RangeEntry → ℕ → ℕ
number_of_last es count = if count == 0 then 0 else (slice_index_or es (count - 1) no_entry).number

-- as many entries start at or before each RVA from this one up to an end
pub record StartedUntil (es : List RangeEntry) (rva count end : ℕ) : Type 0 where
  pub ahead : rva < end
  pub inside : count ≤ length es
  pub same : (x : ℕ) → rva ≤ x → x < end → started es x 64 0 ≡ count
