-- An index of the sections of an image, and how RVAs are mapped by it. Every list of entries is legal: what it names is tested as
-- a section is without an index.
use Rattle.std.specs.Prelude.{◌≡◌, ℕ, ◌-◌, ◌*◌, ◌&&◌, Bool, true, false, List, [], ◌∷◌, length, Option, nat_lt, take, drop, if◌then◌else◌}
use Rattle.pe_core.specs.declared.section_table.SectionTable.{SectionTable}
use Rattle.std.specs.Int.{is_power_of_two}
use Rattle.std.specs.Option.{option_map}
use Rattle.pe_lookup.specs.SectionIndexes.{number_found, numbered, sections_by}
use Rattle.calls_base.specs.Images.{map_of_image}
use Rattle.calls_base.specs.MapRanges.{range_at}
use Rattle.calls_base.specs.Maps.{section_at}
use Rattle.calls_base.specs.Modes.{resolves}
use Rattle.calls_base.specs.Views.{directory_sections, may_map}
use Rattle.calls_base.specs.declared.image.Image.{Image}
use Rattle.pe_core.specs.declared.range_index.RangeEntry.{RangeEntry}
use Rattle.calls_base.specs.declared.results.TheConstants.{DONE, ROOM}
use Rattle.calls_base.specs.declared.view.View.{View}

-- ---- lookup

-- the index of the section that maps an RVA
abbrev pub section_by : Image → List SectionTable → List RangeEntry → ℕ → Option ℕ
section_by image sections [] x = section_at image sections x
section_by image sections (e ∷ es) x =
    option_map (λ i. number_found (e ∷ es) x - 1) (section_at image (numbered sections (number_found (e ∷ es) x)) x)

-- ---- what a call for an index returns

-- By the entries all RVAs are mapped as they are by all sections in turn, and by the same section, and as many bytes follow. The law
-- `indexes_change_nothing` states these three of a view that has such entries.
pub record IsIndexOf (image : Image) (sections : List SectionTable) (es : List RangeEntry) : Type 0 where
  pub maps : (x : ℕ) → map_of_image image (sections_by sections es x) x ≡ map_of_image image sections x
  pub owners : (x : ℕ) → section_by image sections es x ≡ section_at image sections x
  pub ranges : (b : List ℕ) (x : ℕ) → range_at b image (sections_by sections es x) x ≡ range_at b image sections x

-- the view has an index of its sections
abbrev pub HasIndex : View → Type 0
HasIndex v = IsIndexOf v.image.now v.sections.now v.index.now

-- What a call returns of a view by an index, which the view has, is what it returns by all sections. The call maps the RVA of the
-- directory with this index, and no other
abbrev pub SameByIndex : {Y : Type 0} → (List ℕ → Image → List SectionTable → Y) → ℕ → Type 0
SameByIndex call i =
    (v : View) → HasIndex v → call v.bytes.now v.image.now (directory_sections v i) ≡ call v.bytes.now v.image.now v.sections.now

-- the same of a call that maps other RVAs too
abbrev pub SameByAny : {Y : Type 0} → (List ℕ → Image → (ℕ → List SectionTable) → Y) → Type 0
SameByAny call =
    (v : View) → HasIndex v → call v.bytes.now v.image.now (may_map v) ≡ call v.bytes.now v.image.now (λ _. v.sections.now)

-- sections are searched for RVAs: not in an image as loaded, nor where no section covers any
abbrev pub is_searched : Image → Bool
is_searched image = resolves image.mode && is_power_of_two image.file_alignment

-- how many entries the room has to have: four for each section, of which the first two are the index
abbrev pub entries_needed : Image → List SectionTable → ℕ
entries_needed image sections = if is_searched image then 4 * length sections else 0

-- the index is at the start of the room, and what follows what was needed is unchanged
pub record WritesIndex (image : Image) (sections : List SectionTable) (number : ℕ) (old new : List RangeEntry) (written : ℕ) : Type 0 where
  pub done : number ≡ DONE
  pub count : 2 * written ≡ entries_needed image sections
  pub index : IsIndexOf image sections (take written new)
  pub rest : drop (2 * written) new ≡ drop (2 * written) old

-- by whether the room is too small: then the number is ROOM, the room is unchanged, and what was needed is written
abbrev pub MakesIndexIf : Bool → Image → List SectionTable → ℕ → List RangeEntry → List RangeEntry → ℕ → Type 0
MakesIndexIf true image sections number old new written = (number ≡ ROOM) × (new ≡ old) × (written ≡ entries_needed image sections)
MakesIndexIf false image sections number old new written = WritesIndex image sections number old new written

abbrev pub MakesIndex : Image → List SectionTable → ℕ → List RangeEntry → List RangeEntry → ℕ → Type 0
MakesIndex image sections number old new written =
    MakesIndexIf (nat_lt (length old) (entries_needed image sections)) image sections number old new written
