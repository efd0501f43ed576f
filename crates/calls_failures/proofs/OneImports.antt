-- What the calls return decides the imports of an image.
use Rattle.std.proofs.Common.{◌≡◌, ℕ, Bool, true, false, List, [], ◌∷◌, ◌++◌, map, Option, Some, None, Result, Ok, Err, refl, sym, ap, subst, ◌∙◌, arith}
use Rattle.std.specs.Prelude.{◌==◌}
use Rattle.std.specs.List.{AllZip}
use Rattle.pe_core.specs.Imports.{ImportRecordView, ImportView, entry_size}
use Rattle.pe_core.specs.Refusals.{Refusal}
use Rattle.pe_core.specs.declared.section_table.SectionTable.{SectionTable}
use Rattle.calls_failures.proofs.OneParts.{one_part, one_range}
use Rattle.calls_failures.proofs.OneRun.{Moves, ReportsOne, no_refusal, one_list, one_run, one_zip, same_values}
use Rattle.calls_failures.specs.ImageParts.{AreImports, AreImportsAfter, AreImportsBy, AreImportsOf, IsLibrary}
use Rattle.calls_base.specs.Images.{map_of_image}
use Rattle.calls_directories.specs.Imports.{StepsImports, StepsLibraries, import_step, libraries_at, library_step}
use Rattle.calls_directories.specs.Parts.{ReportsImport}
use Rattle.calls_base.specs.Ranges.{IsRange}
use Rattle.calls_base.specs.declared.image.Image.{Image}
use Rattle.calls_directories.specs.declared.names.imports.Import.{Import}
use Rattle.calls_directories.specs.declared.names.imports.Libraries.{Libraries}
use Rattle.calls_directories.specs.declared.names.imports.Library.{Library}

-- an import and its DLL
abbrev IsOf : List ℕ → Library → Import → ImportView → Type 0
IsOf b x y i = ReportsImport b y i × IsRange b x.name i.dll

one_import : (b : List ℕ) (x : Library) → ReportsOne (IsOf b x)
one_import b x = grind (arith, one_part, one_range)

imports_move : (offset : ℕ → Option ℕ) (w : ℕ) (b : List ℕ) → Moves (StepsImports offset w b)
imports_move offset w b walk = ((import_step offset w b walk).0, (import_step offset w b walk).1, refl)

one_list_of : (offset : ℕ → Option ℕ) (w : ℕ) (b : List ℕ) → ReportsOne (AreImportsOf offset w b)
one_list_of offset w b x l k g h = one_list (StepsImports offset w b) (IsOf b x) (imports_move offset w b) (one_import b x) x.imports l k g h

one_library : (b : List ℕ) → ReportsOne (IsLibrary b)
one_library b = grind (arith, one_range)

pub libraries_move : (offset : ℕ → Option ℕ) (w : ℕ) (b : List ℕ) → Moves (StepsLibraries offset w b)
libraries_move offset w b walk = ((library_step offset w b walk).0, (library_step offset w b walk).1, refl)

-- records and imports
abbrev Found : Type 0
Found = Option (List ImportRecordView × List ImportView)

abbrev found_with : List ImportRecordView → List ImportView → Result Found Refusal
found_with records imports = Ok (Some (records, imports))

same_refusal : (e f : Refusal) → ◌≡◌ {A = Result (List ImportRecordView) Refusal} (Err e) (Err f) → e ≡ f
same_refusal e f h = cc

one_after : (offset : ℕ → Option ℕ) (w : ℕ) (b : List ℕ) (walk : Libraries) (rs ss : Result (List ImportRecordView) Refusal) (x y : Result Found Refusal) → AreImportsAfter offset w b walk rs x → AreImportsAfter offset w b walk ss y → x ≡ y
one_after offset w b walk (Ok rs) (Ok ss) x y g h =
    let same : g.0 ≡ h.0 = same_values g.0 h.0 (one_run (StepsLibraries offset w b) (libraries_move offset w b) walk (map (λ v. Ok v) g.0) (map (λ v. Ok v) h.0) g.2 h.2) in
    let records : rs ≡ ss = one_zip (IsLibrary b) (one_library b) g.0 rs ss g.3 (subst (λ (v : List Library). AllZip (IsLibrary b) v ss) (sym same) h.3) in
    let lists : g.1 ≡ h.1 = one_zip (AreImportsOf offset w b) (one_list_of offset w b) g.0 g.1 h.1 g.4 (subst (λ (v : List Library). AllZip (AreImportsOf offset w b) v h.1) (sym same) h.4) in
    grind (arith, g.5, records, lists, h.5)
one_after offset w b walk (Ok rs) (Err f) x y g h =
    absurd (no_refusal g.0 h.0.0 f (one_run (StepsLibraries offset w b) (libraries_move offset w b) walk (map (λ v. Ok v) g.0) (map (λ v. Ok v) h.0.0 ++ Err f ∷ []) g.2 h.0.2))
one_after offset w b walk (Err e) (Ok ss) x y g h =
    absurd (no_refusal h.0 g.0.0 e (one_run (StepsLibraries offset w b) (libraries_move offset w b) walk (map (λ v. Ok v) h.0) (map (λ v. Ok v) g.0.0 ++ Err e ∷ []) h.2 g.0.2))
one_after offset w b walk (Err e) (Err f) x y g h =
    let same : e ≡ f = same_refusal e f (one_list (StepsLibraries offset w b) (IsLibrary b) (libraries_move offset w b) (one_library b) walk (Err e) (Err f) g.0 h.0) in
    g.1 ∙ ap (λ (v : Refusal). Err v) same ∙ sym h.1

one_by : (b : List ℕ) (image : Image) (sections : List SectionTable) (wanted : Bool) (start : Result (Option Libraries) Refusal) (x y : Result Found Refusal) → AreImportsBy wanted b image sections start x → AreImportsBy wanted b image sections start y → x ≡ y
one_by b image sections false start x y g h = g ∙ sym h
one_by b image sections true (Err e) x y g h = g ∙ sym h
one_by b image sections true (Ok None) x y g h = g ∙ sym h
one_by b image sections true (Ok (Some walk)) x y g h = one_after (map_of_image image sections) (entry_size (image.width == 64)) b walk g.0 h.0 x y g.1 h.1

pub one_imports : (wanted : Bool) (b : List ℕ) (image : Image) (sections : List SectionTable) (x y : Result Found Refusal) → AreImports wanted b image sections x → AreImports wanted b image sections y → x ≡ y
one_imports wanted b image sections x y g h = one_by b image sections wanted (libraries_at image (map_of_image image sections)) x y g h
