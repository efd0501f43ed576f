-- The libraries of an image are those whose names the walk over libraries returns.
use Rattle.std.proofs.Common.{◌≡◌, ℕ, ◌≤◌, ◌^◌, Bool, true, false, List, [], ◌∷◌, length, map, Option, Some, None, Result, Ok, Err, sym, ap, subst, arith}
use Rattle.pe_c.proofs.Cited.{◌==◌, ◌↔◌, AllZip, option_map, given, same_inside, AreBytes, HeaderView, AreLibraries, ImportRecordView, ImportView, entry_size, Refusal, sections_at, ParseMode, ParseOptions, SectionTable, AreLibrariesOf, ImageView, IsImage, libraries_move, one_range, ReportsOne, one_run, one_zip, same_values, header_of, IsImageAfter, IsImageWith, Parts, image_of_parts, mode_of, part_by_mode, AreImportsAfter, AreImportsBy, IsLibrary, in_turn, image_at, map_of_image, StepsLibraries, libraries_at, Image, Libraries, Library}
use Rattle.pe_c.proofs.ImagesByCalls.{SomeResource, image_of_calls}
use Rattle.pe_c.specs.ImageOfCalls.{AreLibrariesOfCalls, AreNamesAfter, AreNamesBy, IsNameOf}

-- records and imports
abbrev Found : Type 0
Found = Option (List ImportRecordView × List ImportView)

abbrev names_of : List ImportRecordView → List (List ℕ)
names_of rs = map (λ r. r.name) rs

-- the records of an import directory, if there is one
abbrev records_in : Found → Option (List ImportRecordView)
records_in i = option_map (λ x. x.0) i

-- ---- by the walk

named : (b : List ℕ) (xs : List Library) (rs : List ImportRecordView) → AllZip (IsLibrary b) xs rs → AllZip (IsNameOf b) xs (names_of rs)
named b [] [] h = tt
named b [] (r ∷ rs) h = absurd h
named b (x ∷ xs) [] h = absurd h
named b (x ∷ xs) (r ∷ rs) h = (h.0.name, named b xs rs h.1)

one_name : (b : List ℕ) → ReportsOne (IsNameOf b)
one_name b x m n g h = one_range b x.name m n g h

no_value : {X : Type 0} (e : Refusal) (x : X) → ◌≡◌ {A = Result X Refusal} (Ok x) (Err e) → ⊥
no_value e x h = cc

-- after all libraries, by their records
by_records : (offset : ℕ → Option ℕ) (w : ℕ) (b : List ℕ) (walk : Libraries) (records : Result (List ImportRecordView) Refusal) (i : Found) (sorted : List (List ℕ)) → AreImportsAfter offset w b walk records (Ok i) →
    (AreLibrariesOf (records_in i) sorted ↔ AreNamesAfter offset w b walk sorted)
by_records offset w b walk (Err e) i sorted is = absurd (no_value e i is.1)
by_records offset w b walk (Ok rs) i sorted is =
    let given_imports = given (in_turn is.1) (λ imports. Ok (Some (rs, imports))) i (sym is.5) in
    let found : Some (rs, given_imports.0) ≡ i = same_inside (Some (rs, given_imports.0)) i given_imports.2 in
    let records : Some rs ≡ records_in i = ap records_in found in
    let names : AllZip (IsNameOf b) is.0 (names_of rs) = named b is.0 rs is.3 in (
      λ are. (is.0, names_of rs, is.2, names, subst (λ (r : Option (List ImportRecordView)). AreLibrariesOf r sorted) (sym records) are),
      λ are.
          let same : are.0 ≡ is.0 = same_values are.0 is.0 (one_run (StepsLibraries offset w b) (libraries_move offset w b) walk (map (λ v. Ok v) are.0) (map (λ v. Ok v) is.0) are.2 is.2) in
          let one : are.1 ≡ names_of rs = one_zip (IsNameOf b) (one_name b) is.0 are.1 (names_of rs) (subst (λ (v : List Library). AllZip (IsNameOf b) v are.1) same are.3) names in
          let listed : AreLibraries (names_of rs) sorted = subst (λ (v : List (List ℕ)). AreLibraries v sorted) one are.4 in
          subst (λ (r : Option (List ImportRecordView)). AreLibrariesOf r sorted) records listed,
    )

none_found : (i : Found) (sorted : List (List ℕ)) → ◌≡◌ {A = Result Found Refusal} (Ok i) (Ok None) → (AreLibrariesOf (records_in i) sorted ↔ (sorted ≡ []))
none_found i sorted e = grind (arith, same_inside)

by_imports : (b : List ℕ) (image : Image) (sections : List SectionTable) (wanted : Bool) (start : Result (Option Libraries) Refusal) (i : Found) (sorted : List (List ℕ)) → AreImportsBy wanted b image sections start (Ok i) →
    (AreLibrariesOf (records_in i) sorted ↔ AreNamesBy wanted b image sections start sorted)
by_imports b image sections false start i sorted is = none_found i sorted is
by_imports b image sections true (Err e) i sorted is = absurd (no_value e i is)
by_imports b image sections true (Ok None) i sorted is = none_found i sorted is
by_imports b image sections true (Ok (Some walk)) i sorted is = by_records (map_of_image image sections) (entry_size (image.width == 64)) b walk is.0 i sorted is.1

-- ---- by the image

-- the imports of an image that has its parts
imports_in : (mode : ParseMode) (header : HeaderView) (image : Image) (sections : List SectionTable) (p : Parts) (x : ImageView) → Ok x ≡ image_of_parts mode header image sections p →
    (i : Found) × (p.imports ≡ Ok i) × (x.import_data ≡ records_in i)
unfolding image_of_parts
imports_in mode header image sections p x e =
    let imports = given p.imports _ x (sym e) in
    let debug_data = given (part_by_mode mode p.debug_data) _ x imports.2 in
    let exception_data = given (part_by_mode mode p.exception_data) _ x debug_data.2 in
    let relocation_data = given (part_by_mode mode p.relocation_data) _ x exception_data.2 in
    let certificates = given (part_by_mode mode p.certificates) _ x relocation_data.2 in
    let resource_data = given (part_by_mode mode p.resource_data) _ x certificates.2 in
    (imports.0, imports.1, sym (ap (λ (v : ImageView). v.import_data) (same_inside _ x resource_data.2)))

with_sections : (b : List ℕ) (o : ParseOptions) (image : Image) (sections : List SectionTable) (x : ImageView) (sorted : List (List ℕ)) → IsImageWith b o image (Ok sections) (Ok x) →
    (AreLibrariesOf x.import_data sorted ↔ AreLibrariesOfCalls b o image sections sorted)
with_sections b o image sections x sorted is =
    let found = imports_in o.parse_mode (header_of b is.0) image sections is.1 x is.4 in
    let imports = subst (λ (r : Result Found Refusal). AreImportsBy o.parse_imports b image sections (libraries_at image (map_of_image image sections)) r) found.1 is.3.imports in
    subst (λ (r : Option (List ImportRecordView)). AreLibrariesOf r sorted ↔ AreLibrariesOfCalls b o image sections sorted) (sym found.2)
    (by_imports b image sections o.parse_imports (libraries_at image (map_of_image image sections)) found.0 sorted imports)

pub libraries_are_of_calls : SomeResource → (b : List ℕ) (o : ParseOptions) (image : Image) (sections : List SectionTable) (x : ImageView) (sorted : List (List ℕ)) → AreBytes b → length b ≤ 2 ^ 63 →
    image_at b (mode_of o) ≡ Ok image → sections_at b image.sections_offset image.number_of_sections ≡ Ok sections → IsImage b o (Ok x) → (AreLibrariesOf x.import_data sorted ↔ AreLibrariesOfCalls b o image sections sorted)
libraries_are_of_calls resource b o image sections x sorted bytes small at there is =
    let after : IsImageAfter b o (Ok image) (Ok x) = subst (λ (r : Result Image Refusal). IsImageAfter b o r (Ok x)) at (image_of_calls resource b o (Ok x) bytes small is) in
    with_sections b o image sections x sorted (subst (λ (r : Result (List SectionTable) Refusal). IsImageWith b o image r (Ok x)) there after)
