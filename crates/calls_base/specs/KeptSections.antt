-- The sections that a walk keeps: those of its last RVAs, which a step tests before the others.
use Rattle.std.specs.Prelude.{◌≡◌, ℕ, ◌+◌, ◌<◌, ◌≤◌, ◌==◌, ◌&&◌, ◌++◌, nat_lt, length, Bool, List, Option, Some, None, Result, Ok, Err}
use Rattle.pe_core.specs.SectionMap.{raw_start, reach}
use Rattle.pe_core.specs.declared.section_table.SectionTable.{SectionTable}
use Rattle.pe_lookup.specs.SectionIndexes.{numbered}
use Rattle.calls_base.specs.Images.{map_of_image}
use Rattle.calls_base.specs.Runs.{ReturnsItems}
use Rattle.calls_base.specs.Views.{map_of, may_map}
use Rattle.calls_base.specs.declared.image.Image.{Image}
use Rattle.calls_base.specs.declared.kept_sections.KeptSections.{KeptSections}
use Rattle.calls_base.specs.declared.near_map.Window.{Window}
use Rattle.calls_base.specs.declared.view.View.{View}

-- a walk keeps none at its start
abbrev pub no_sections : KeptSections
no_sections = record { first = 0; second = 0 }

-- the sections with these indices plus 1; 0, and a number past the last section, is none
abbrev pub sections_kept : List SectionTable → KeptSections → List SectionTable
sections_kept sections k = numbered sections k.first ++ numbered sections k.second

-- the file offset of an RVA by the first section that covers it, where those that a walk keeps come before those that may map it
abbrev pub map_kept : View → KeptSections → ℕ → Option ℕ
map_kept v k x = map_of_image v.image.now (sections_kept v.sections.now k ++ may_map v x) x

-- to keep these changes no offset
abbrev pub ChangeNothing : View → KeptSections → Type 0
ChangeNothing v k = (x : ℕ) → map_kept v k x ≡ map_of v x

-- what a walk keeps after a call with this result: where it is not DONE as before, else what changes nothing if that before did not
pub record KeepsOn (v : View) (number : ℕ) (old new : KeptSections) : Type 0 where
  pub right : ChangeNothing v old → ChangeNothing v new
  pub same : 0 < number → new ≡ old

-- a step of a walk by the sections that it keeps: `place` is where it stands, of which `Steps` are the steps by a map of RVAs
pub record StepsKept {W P X R : Type 0} (place : W → P) (kept : W → KeptSections) (Steps : (ℕ → Option ℕ) → P → Result (Option X) R → P → Type 0)
    (v : View) (old : W) (answer : Result (Option X) R) (new : W) : Type 0 where
  pub steps : Steps (map_kept v (kept old)) (place old) answer (place new)
  pub right : ChangeNothing v (kept old) → ChangeNothing v (kept new)
  pub same : answer ≡ Ok None → kept new ≡ kept old
  pub refused : (e : R) → answer ≡ Err e → kept new ≡ kept old

-- a walk that keeps what changes no offset returns the items that one returns which searches all sections
abbrev pub ReturnsAsItKeeps : {W P X R : Type 0} → (W → P) → (W → KeptSections) → (View → (ℕ → Option ℕ) → P → Result (Option X) R → P → Type 0) → Type 0
ReturnsAsItKeeps {W} {P} {X} {R} place kept Steps =
    (v : View) (walk : W) (items : List (Result X R)) → ChangeNothing v (kept walk) → ReturnsItems (Steps v (map_of v)) (place walk) items →
    ReturnsItems (StepsKept place kept (Steps v) v) walk items

-- ---- how one is found that changes nothing. Only private contracts cite these

-- walks over an image keep sections where there are many of them, and no index
abbrev pub keeps_sections : View → Bool
keeps_sections v = nat_lt 32 (length v.sections.now) && length v.index.now == 0

-- the section with this index plus 1 maps RVAs as all sections do
pub record IsAlone (image : Image) (sections : List SectionTable) (number : ℕ) : Type 0 where
  pub maps : (x p : ℕ) → map_of_image image (numbered sections number) x ≡ Some p → map_of_image image sections x ≡ Some p

-- a window starts where the section does, has all RVAs that it covers, and the offset of its data
pub record HasAll (alignment : ℕ) (s : SectionTable) (w : Window) : Type 0 where
  pub starts : w.start ≡ s.virtual_address
  pub ends : s.virtual_address + reach alignment s ≤ w.end
  pub offset : w.offset ≡ raw_start s
