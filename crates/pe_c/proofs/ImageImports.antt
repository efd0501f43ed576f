-- Imports: what calls return of the libraries and of the imports of each is what an image has.
use Rattle.std.proofs.Common.{◌≡◌, ℕ, ◌/◌, ◌≤◌, ◌^◌, Bool, true, false, List, [], ◌∷◌, length, map, Option, Some, None, Result, Ok, Err, refl, sym, ap, subst, ◌∙◌, arith}
use Rattle.pe_c.proofs.Cited.{◌==◌, if◌then◌else◌, AllZip, range_with_len, option_map, append-nil, each_as_map, same_inside}
use Rattle.pe_c.proofs.Cited.{AreBytes, all_or_refusal, with_rest, OptionalHeaderView, EntryView, ImportRecordView, ImportView}
use Rattle.pe_c.proofs.Cited.{entry_size, import_data_at, import_entries, import_entry_at, import_of, import_records, imports}
use Rattle.pe_c.proofs.Cited.{named_import, Refusal, ◌>>=◌, each, mapped, section_map, DataDirectory, ParseOptions, SectionTable}
use Rattle.pe_c.proofs.Cited.{import_data_of, imports_of, alignment, is_64, AreImports, AreImportsAfter, AreImportsBy, AreImportsOf}
use Rattle.pe_c.proofs.Cited.{IsLibrary, in_turn, import_directory, is_absent, map_of_image, or_absent, libraries_at}
use Rattle.pe_c.proofs.Cited.{libraries_from, ReportsImport, ReportsLibrary, IsRange, Image, Import, Libraries, Library}
use Rattle.pe_image.specs.Core as core
use Rattle.pe_c.proofs.ImageFields.{IsThere, Says, same_map, there}
use Rattle.pe_c.proofs.ImportRuns.{imports_in_turn, libraries_in_turn, refused_in_turn}

-- ---- the DLL of an import is that of its record

dll_at : (b : List ℕ) (e : EntryView) (at : Option ℕ) (i : ImportView) → (mapped at >>= named_import b e) ≡ Ok i → i.dll ≡ e.dll
dll_at b e at i is = grind (arith, same_inside)

-- what is reported of imports, and that their DLL has this name
abbrev OfDll : List ℕ → List ℕ → Import → ImportView → Type 0
OfDll b dll y i = ReportsImport b y i × (i.dll ≡ dll)

dlls_by : (b dll : List ℕ) (first : Result ImportView Refusal) (rest : Result (List ImportView) Refusal) (reported : List Import) (is : List ImportView) →
    ((i : ImportView) → first ≡ Ok i → i.dll ≡ dll) →
    ((ys : List Import) (js : List ImportView) → rest ≡ Ok js → AllZip (ReportsImport b) ys js → AllZip (OfDll b dll) ys js) →
    (first >>= λ i. with_rest (i ∷ []) rest) ≡ Ok is → AllZip (ReportsImport b) reported is → AllZip (OfDll b dll) reported is
dlls_by b dll (Err e) rest reported is h more given all = absurd cc
dlls_by b dll (Ok i) (Err e) reported is h more given all = absurd cc
dlls_by b dll (Ok i) (Ok js) reported [] h more given all = absurd cc
dlls_by b dll (Ok i) (Ok js) [] (j ∷ is) h more given all = absurd all
dlls_by b dll (Ok i) (Ok js) (y ∷ ys) (j ∷ is) h more given all =
    let first : i ≡ j = cc in
    let rest : js ≡ is = cc in
    ((all.0, subst (λ (x : ImportView). x.dll ≡ dll) first (h i refl)), more ys is (ap (λ (x : List ImportView). Ok x) rest) all.1)

dlls : (offset : ℕ → Option ℕ) (w : ℕ) (b : List ℕ) (r : ImportRecordView) (ks : List ℕ) (reported : List Import) (is : List ImportView) →
    all_or_refusal (map (import_of offset w b) (map (import_entry_at w r) ks)) ≡ Ok is → AllZip (ReportsImport b) reported is → AllZip (OfDll b r.name) reported is
unfolding import_of
dlls offset w b r [] reported [] given all = no_more reported all where
  no_more : (ys : List Import) → AllZip (ReportsImport b) ys [] → AllZip (OfDll b r.name) ys []
  no_more [] h = tt
  no_more (y ∷ ys) h = absurd h
dlls offset w b r [] reported (i ∷ is) given all = absurd cc
dlls offset w b r (k ∷ ks) reported is given all =
    dlls_by b r.name (import_of offset w b (import_entry_at w r k)) (all_or_refusal (map (import_of offset w b) (map (import_entry_at w r) ks))) reported is
    (λ i e. grind (arith, same_inside, dll_at))
    (λ ys js e h. dlls offset w b r ks ys js e h)
    (sym (grind arith) ∙ given) all

its_entries : (w : ℕ) (r : ImportRecordView) → import_entries w (r ∷ []) ≡ map (import_entry_at w r) (range_with_len 0 (length r.lookups / w))
unfolding import_entries
its_entries w r = append-nil (each (import_entry_at w r) (length r.lookups / w)) ∙ sym (each_as_map (import_entry_at w r) (length r.lookups / w))

-- ---- the imports of a library

-- what is reported of an import, and the range of its DLL's name
abbrev IsOf : List ℕ → Library → Import → ImportView → Type 0
IsOf b x y i = ReportsImport b y i × IsRange b x.name i.dll

with_range : (b : List ℕ) (x : Library) (dll : List ℕ) (ys : List Import) (is : List ImportView) → IsRange b x.name dll → AllZip (OfDll b dll) ys is → AllZip (IsOf b x) ys is
with_range b x dll [] [] h all = tt
with_range b x dll [] (i ∷ is) h all = absurd all
with_range b x dll (y ∷ ys) [] h all = absurd all
with_range b x dll (y ∷ ys) (i ∷ is) h all = ((all.0.0, subst (λ (n : List ℕ). IsRange b x.name n) (sym all.0.1) h), with_range b x dll ys is h all.1)

-- imports before a refusal, as those of this DLL
abbrev with_dll : List ℕ → ImportView → ImportView
with_dll dll i = record i { dll = dll }

abbrev renamed : List ℕ → List ImportView → List ImportView
renamed dll is = map (with_dll dll) is

before_refusal : (b : List ℕ) (x : Library) (dll : List ℕ) (ys : List Import) (is : List ImportView) → IsRange b x.name dll → AllZip (ReportsImport b) ys is → AllZip (IsOf b x) ys (renamed dll is)
before_refusal b x dll [] [] h all = tt
before_refusal b x dll [] (i ∷ is) h all = absurd all
before_refusal b x dll (y ∷ ys) [] h all = absurd all
before_refusal b x dll (y ∷ ys) (i ∷ is) h all = ((record { name = all.0.name; has_name = all.0.has_name; ordinal = all.0.ordinal; rva = all.0.rva }, h), before_refusal b x dll ys is h all.1)

imports_by : (offset : ℕ → Option ℕ) (w : ℕ) (b : List ℕ) (x : Library) (r : ImportRecordView) (q : Result (List ImportView) Refusal) → ReportsLibrary offset w b x r → imports offset w b (r ∷ []) ≡ q → AreImportsOf offset w b x q
unfolding imports
imports_by offset w b x r (Ok is) h e =
    let found = h.given is e in
    (found.0, found.1, with_range b x r.name found.0 is h.name (grind (arith, dlls, its_entries, found.2)))
imports_by offset w b x r (Err refusal) h e =
    let found = h.refused refusal e in
    (found.0, renamed r.name found.1, found.2, before_refusal b x r.name found.0 found.1 h.name found.3)

-- the imports of each record
abbrev lists_of : (ℕ → Option ℕ) → ℕ → List ℕ → List ImportRecordView → List (Result (List ImportView) Refusal)
lists_of offset w b rs = map (λ r. imports offset w b (r ∷ [])) rs

libraries_are : (offset : ℕ → Option ℕ) (w : ℕ) (b : List ℕ) (xs : List Library) (rs : List ImportRecordView) → AllZip (ReportsLibrary offset w b) xs rs → AllZip (IsLibrary b) xs rs
libraries_are offset w b [] [] all = tt
libraries_are offset w b [] (r ∷ rs) all = absurd all
libraries_are offset w b (x ∷ xs) [] all = absurd all
libraries_are offset w b (x ∷ xs) (r ∷ rs) all = (record { name = all.0.name; list = all.0.list; numbers = all.0.numbers }, libraries_are offset w b xs rs all.1)

lists_are : (offset : ℕ → Option ℕ) (w : ℕ) (b : List ℕ) (xs : List Library) (rs : List ImportRecordView) → AllZip (ReportsLibrary offset w b) xs rs → AllZip (AreImportsOf offset w b) xs (lists_of offset w b rs)
lists_are offset w b [] [] all = tt
lists_are offset w b [] (r ∷ rs) all = absurd all
lists_are offset w b (x ∷ xs) [] all = absurd all
lists_are offset w b (x ∷ xs) (r ∷ rs) all = (imports_by offset w b x r (imports offset w b (r ∷ [])) all.0 refl, lists_are offset w b xs rs all.1)

all_in_turn : (offset : ℕ → Option ℕ) (w : ℕ) (b : List ℕ) (rs : List ImportRecordView) → imports offset w b rs ≡ in_turn (lists_of offset w b rs)
unfolding imports import_entries
all_in_turn offset w b [] = refl
all_in_turn offset w b (r ∷ rs) = grind (arith, imports_in_turn, all_in_turn offset w b rs)

-- ---- the directory

-- records and imports of a directory, as one part
abbrev pub imports_part : (ℕ → Option ℕ) → ℕ → List ℕ → Option DataDirectory → Result (Option (List ImportRecordView × List ImportView)) Refusal
imports_part offset w b d = import_data_of offset w b d >>= λ found. imports_of offset w b found >>= λ list. Ok (option_map (λ records. (records, list)) found)

by_records : (b : List ℕ) (image : Image) (sections : List SectionTable) (walk : Libraries) (records : Result (List ImportRecordView) Refusal) → AreBytes b → length b ≤ 2 ^ 63 →
    libraries_at image (map_of_image image sections) ≡ Ok (Some walk) →
    import_data_at (map_of_image image sections) (entry_size (image.width == 64)) b (import_directory image).virtual_address ≡ records →
    AreImportsAfter (map_of_image image sections) (entry_size (image.width == 64)) b walk records
    (records >>= λ rs. imports (map_of_image image sections) (entry_size (image.width == 64)) b rs >>= λ list. Ok (Some (rs, list)))
by_records b image sections walk records bytes small start e =
    grind (arith, libraries_in_turn, libraries_are, lists_are, all_in_turn, refused_in_turn)

-- the records of a directory that a walk is at, or that is not mapped
abbrev records_at : Image → List SectionTable → List ℕ → Option ℕ → Result (List ImportRecordView) Refusal
records_at image sections b at = mapped at >>= import_records (map_of_image image sections) (entry_size (image.width == 64)) b

by_offset : (b : List ℕ) (image : Image) (sections : List SectionTable) (at : Option ℕ) → AreBytes b → length b ≤ 2 ^ 63 → is_absent (import_directory image) ≡ false →
    map_of_image image sections (import_directory image).virtual_address ≡ at →
    AreImportsBy true b image sections (mapped at >>= λ p. Ok (Some (libraries_from p)))
    (records_at image sections b at >>= λ rs. imports (map_of_image image sections) (entry_size (image.width == 64)) b rs >>= λ list. Ok (Some (rs, list)))
by_offset b image sections None bytes small h e = refl
by_offset b image sections (Some p) bytes small h e =
    let start : libraries_at image (map_of_image image sections) ≡ Ok (Some (libraries_from p)) = rw h (rw e refl) in
    let same : import_data_at (map_of_image image sections) (entry_size (image.width == 64)) b (import_directory image).virtual_address ≡ records_at image sections b (Some p) = ap (records_at image sections b) e in
    (records_at image sections b (Some p), by_records b image sections (libraries_from p) (records_at image sections b (Some p)) bytes small start same)

-- the part of a directory, where that is wanted
abbrev part_if : Bool → (ℕ → Option ℕ) → ℕ → List ℕ → Option DataDirectory → Result (Option (List ImportRecordView × List ImportView)) Refusal
part_if wanted offset w b d = imports_part offset w b (if wanted then d else None)

imports_are_by : (b : List ℕ) (image : Image) (sections : List SectionTable) (wanted : Bool) (d : Option DataDirectory) → AreBytes b → length b ≤ 2 ^ 63 → IsThere d → import_directory image ≡ or_absent d →
    AreImports wanted b image sections (part_if wanted (map_of_image image sections) (entry_size (image.width == 64)) b d)
imports_are_by b image sections false d bytes small h e = refl
imports_are_by b image sections true None bytes small h e = grind (arith)
imports_are_by b image sections true (Some d) bytes small h e =
    let offset = map_of_image image sections in
    let w = entry_size (image.width == 64) in
    let there : is_absent (import_directory image) ≡ false = ap is_absent e ∙ h in
    let start : libraries_at image (map_of_image image sections) ≡ (mapped (offset (import_directory image).virtual_address) >>= λ p. Ok (Some (libraries_from p))) = rw there refl in
    let at : records_at image sections b (offset (import_directory image).virtual_address) ≡ import_data_at offset w b d.virtual_address = ap (λ (x : DataDirectory). records_at image sections b (offset x.virtual_address)) e in
    let part : (records_at image sections b (offset (import_directory image).virtual_address) >>= λ rs. imports offset w b rs >>= λ list. Ok (Some (rs, list))) ≡ imports_part offset w b (Some d) =
    ap (λ (q : Result (List ImportRecordView) Refusal). q >>= λ rs. imports offset w b rs >>= λ list. Ok (Some (rs, list))) at ∙ sym (grind arith) in
    subst (λ (r : Result (Option Libraries) Refusal). AreImportsBy true b image sections r (imports_part offset w b (Some d))) (sym start)
    (subst (λ (p : Result (Option (List ImportRecordView × List ImportView)) Refusal). AreImportsBy true b image sections (mapped (offset (import_directory image).virtual_address) >>= λ p. Ok (Some (libraries_from p))) p) part
    (by_offset b image sections (offset (import_directory image).virtual_address) bytes small there refl))

pub imports_are : (b : List ℕ) (o : ParseOptions) (machine flags : ℕ) (header : Option OptionalHeaderView) (image : Image) (sections : List SectionTable) → AreBytes b → length b ≤ 2 ^ 63 → Says o machine flags header image →
    AreImports o.parse_imports b image sections (imports_part (section_map o sections (alignment header)) (entry_size (is_64 header)) b (core.import_directory o header))
imports_are b o machine flags header image sections bytes small s = grind (arith, same_map, imports_are_by, there)
