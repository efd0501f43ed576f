-- Lists that keep windows of the section map, or read a table once.
use Rattle.std.proofs.Common.{◌≡◌, ℕ, List, length, Option, Result, Ok, refl, sym, subst, ◌∙◌, ◌==◌, arith}
use Rattle.calls_directories.proofs.Cited.{AddressesView, entry_size, Refusal, ◌>>=◌, same_map, addresses_in, exported_at, exported_in, StepsExports, result_number, StepsImports, StepsLibraryFunctions, StepsLibraryImports, ChangeNothing, StepsKept, no_sections, bytes_at, map_of, AddressTable, Exported, Export, Exports, Import, Imports, LibraryFunction, LibraryFunctions, LibraryImport}
use Rattle.calls_base.specs.DirectoryResults.{directory_number}
use Rattle.calls_base.proofs.FilledLists.{StepsAs, hands_out_as, numbered_as}
use Rattle.calls_base.specs.Lists.{HandsOutList, Numbered, StepsByIndex}
use Rattle.calls_directories.specs.KeptWalks.{StepsKeptExports, StepsKeptImports, StepsKeptLibraryFunctions, StepsNear, StepsNearExports, StepsNearImports, StepsNearLibraryImports}
use Rattle.calls_directories.specs.declared.names.exports.ExportWalk.{ExportWalk}
use Rattle.calls_directories.specs.declared.names.imports.ImportWalk.{ImportWalk}
use Rattle.calls_base.specs.declared.kept_sections.KeptSections.{KeptSections}
use Rattle.calls_base.specs.declared.kept_sections.KeptWalk.{KeptWalk}
use Rattle.calls_directories.specs.declared.names.near_exports.NearExports.{NearExports}
use Rattle.calls_directories.specs.declared.names.near_imports.NearImports.{NearImports}
use Rattle.calls_directories.specs.declared.names.near_imports.NearLibraryImports.{NearLibraryImports}
use Rattle.calls_base.specs.declared.view.View.{View}

near_steps : {S W X R : Type 0} (view : S → View) (walk : S → W) (Steps : View → W → Result (Option X) R → W → Type 0) (v : View)
    → StepsAs (λ (s : S). view s ≡ v) walk (StepsNear view walk Steps) (Steps v)
near_steps view walk Steps v s t answer k h = (h.1 ∙ k, subst (λ (u : View). Steps u (walk s) answer (walk t)) k h.0)

-- a list of a walk that is kept with its image is a list of the walk
pub near_lists : {S W X R : Type 0} (number_of : R → ℕ) (view : S → View) (walk : S → W) (Steps : View → W → Result (Option X) R → W → Type 0) (v : View)
    (number : ℕ) (s t : S) (old new : List X) (before written : ℕ) → view s ≡ v →
    HandsOutList (Numbered number_of (StepsNear view walk Steps)) number s t old new before written → HandsOutList (Numbered number_of (Steps v)) number (walk s) (walk t) old new before written
near_lists {S} number_of view walk Steps v number s t old new before written k h =
    (hands_out_as (λ (s : S). view s ≡ v) walk (Numbered number_of (StepsNear view walk Steps)) (Numbered number_of (Steps v))
    (numbered_as number_of (λ (s : S). view s ≡ v) walk (StepsNear view walk Steps) (Steps v) (near_steps view walk Steps v)) (length old == 0) number s t old new before written k h).1

-- a list by windows is a list of the walk
pub lists_exports : (v : View) (number : ℕ) (s t : NearExports) (old new : List Export) (before written : ℕ) → s.names.view.now ≡ v →
    HandsOutList (Numbered result_number StepsNearExports) number s t old new before written →
    HandsOutList (Numbered result_number (StepsExports (map_of v) v.bytes.now)) number s.walk t.walk old new before written
lists_exports v number s t old new before written k h =
    near_lists result_number (λ (s : NearExports). s.names.view.now) (λ (s : NearExports). s.walk) (λ (v : View). StepsExports (map_of v) v.bytes.now) v number s t old new before written k h

-- a step by the map of the view is one by sections that change nothing, which stay as they are
steps_as_kept : {W P X R : Type 0} (place : W → P) (kept : W → KeptSections) (Steps : (ℕ → Option ℕ) → P → Result (Option X) R → P → Type 0) (v : View) (w u : W) (answer : Result (Option X) R) →
    ChangeNothing v (kept w) → kept u ≡ kept w → Steps (map_of v) (place w) answer (place u) → StepsKept place kept Steps v w answer u
steps_as_kept place kept Steps v w u answer h stays s = grind (arith, same_map)

-- a walk at its start, which keeps no sections
abbrev exports_at : Exports → ExportWalk
exports_at place = record { exports = place; kept = no_sections }

abbrev imports_at : Imports → ImportWalk
imports_at place = record { imports = place; kept = no_sections }

-- a list by windows of a walk that keeps no sections is one of the walk
pub lists_kept_exports : (v : View) (number : ℕ) (s t : NearExports) (k : KeptSections) (old new : List Export) (before written : ℕ) → s.names.view.now ≡ v → k ≡ no_sections →
    HandsOutList (Numbered result_number StepsNearExports) number s t old new before written →
    HandsOutList (Numbered result_number (StepsKeptExports v)) number (record { exports = s.walk; kept = k }) (record { exports = t.walk; kept = k }) old new before written
lists_kept_exports v number s t k old new before written seen none h =
    subst (λ (k : KeptSections). HandsOutList (Numbered result_number (StepsKeptExports v)) number (record { exports = s.walk; kept = k }) (record { exports = t.walk; kept = k }) old new before written) (sym none)
    (hands_out_as (λ (p : Exports). p ≡ p) exports_at (Numbered result_number (StepsExports (map_of v) v.bytes.now)) (Numbered result_number (StepsKeptExports v))
    (numbered_as result_number (λ (p : Exports). p ≡ p) exports_at (StepsExports (map_of v) v.bytes.now) (StepsKeptExports v)
    (λ p q answer is step. (refl, steps_as_kept (λ (w : ExportWalk). w.exports) (λ (w : ExportWalk). w.kept) (λ (m : ℕ → Option ℕ). StepsExports m v.bytes.now) v (exports_at p) (exports_at q) answer (λ x. refl) refl step)))
    (length old == 0) number s.walk t.walk old new before written refl (lists_exports v number s t old new before written seen h)).1

-- the entries of an address table are those of its bytes
pub lists_addresses : (offset : ℕ → Option ℕ) (b table : List ℕ) (t : AddressTable) (addresses : AddressesView) (number next after : ℕ) (old new : List Exported) (before written : ℕ) → bytes_at b t.addresses ≡ Ok table → addresses ≡ addresses_in t table →
    HandsOutList (Numbered result_number (StepsByIndex (λ i. Ok (exported_in offset b addresses i)))) number next after old new before written →
    HandsOutList (Numbered result_number (StepsByIndex (exported_at offset b t))) number next after old new before written
lists_addresses offset b table t addresses number next after old new before written e same h =
    subst (λ (r : Result (List ℕ) Refusal). HandsOutList (Numbered result_number (StepsByIndex (λ i. r >>= λ es. Ok (exported_in offset b (addresses_in t es) i)))) number next after old new before written) (sym e)
    (subst (λ (x : AddressesView). HandsOutList (Numbered result_number (StepsByIndex (λ i. Ok (exported_in offset b x i)))) number next after old new before written) same h)

-- a list by a window is a list of the walk
pub lists_imports : (v : View) (number : ℕ) (s t : NearImports) (old new : List Import) (before written : ℕ) → s.names.view.now ≡ v →
    HandsOutList (Numbered result_number StepsNearImports) number s t old new before written →
    HandsOutList (Numbered result_number (StepsImports (map_of v) (entry_size (v.image.now.width == 64)) v.bytes.now)) number s.walk t.walk old new before written
lists_imports v number s t old new before written k h =
    near_lists result_number (λ (s : NearImports). s.names.view.now) (λ (s : NearImports). s.walk) (λ (v : View). StepsImports (map_of v) (entry_size (v.image.now.width == 64)) v.bytes.now) v number s t old new before written k h

pub lists_kept_imports : (v : View) (number : ℕ) (s t : NearImports) (k : KeptSections) (old new : List Import) (before written : ℕ) → s.names.view.now ≡ v → k ≡ no_sections →
    HandsOutList (Numbered result_number StepsNearImports) number s t old new before written →
    HandsOutList (Numbered result_number (StepsKeptImports v)) number (record { imports = s.walk; kept = k }) (record { imports = t.walk; kept = k }) old new before written
lists_kept_imports v number s t k old new before written seen none h =
    subst (λ (k : KeptSections). HandsOutList (Numbered result_number (StepsKeptImports v)) number (record { imports = s.walk; kept = k }) (record { imports = t.walk; kept = k }) old new before written) (sym none)
    (hands_out_as (λ (p : Imports). p ≡ p) imports_at (Numbered result_number (StepsImports (map_of v) (entry_size (v.image.now.width == 64)) v.bytes.now)) (Numbered result_number (StepsKeptImports v))
    (numbered_as result_number (λ (p : Imports). p ≡ p) imports_at (StepsImports (map_of v) (entry_size (v.image.now.width == 64)) v.bytes.now) (StepsKeptImports v)
    (λ p q answer is step. (refl, steps_as_kept (λ (w : ImportWalk). w.imports) (λ (w : ImportWalk). w.kept) (λ (m : ℕ → Option ℕ). StepsImports m (entry_size (v.image.now.width == 64)) v.bytes.now) v (imports_at p) (imports_at q) answer (λ x. refl) refl step)))
    (length old == 0) number s.walk t.walk old new before written refl (lists_imports v number s t old new before written seen h)).1

pub lists_library_functions : (v : View) (number : ℕ) (s t : KeptWalk LibraryFunctions) (old new : List LibraryFunction) (before written : ℕ) → s.names.view.now ≡ v →
    HandsOutList (Numbered directory_number StepsKeptLibraryFunctions) number s t old new before written →
    HandsOutList (Numbered directory_number (StepsLibraryFunctions (map_of v) v.bytes.now v.image.now)) number s.walk t.walk old new before written
lists_library_functions v number s t old new before written k h =
    near_lists directory_number (λ (s : KeptWalk LibraryFunctions). s.names.view.now) (λ (s : KeptWalk LibraryFunctions). s.walk) (λ (v : View). StepsLibraryFunctions (map_of v) v.bytes.now v.image.now) v number s t old new before written k h

pub lists_library_imports : (v : View) (number : ℕ) (s t : NearLibraryImports) (old new : List LibraryImport) (before written : ℕ) → s.names.view.now ≡ v →
    HandsOutList (Numbered result_number StepsNearLibraryImports) number s t old new before written →
    HandsOutList (Numbered result_number (StepsLibraryImports (map_of v) (entry_size (v.image.now.width == 64)) v.bytes.now)) number s.walk t.walk old new before written
lists_library_imports v number s t old new before written k h =
    near_lists result_number (λ (s : NearLibraryImports). s.names.view.now) (λ (s : NearLibraryImports). s.walk) (λ (v : View). StepsLibraryImports (map_of v) (entry_size (v.image.now.width == 64)) v.bytes.now) v number s t old new before written k h
