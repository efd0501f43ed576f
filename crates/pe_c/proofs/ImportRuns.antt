-- The walks over libraries and their imports tell what the import directory lists.
use Rattle.std.proofs.Common.{◌≡◌, ℕ, zero, suc, ◌+◌, ◌-◌, ◌*◌, ◌/◌, ◌%◌, ◌^◌, ◌<◌, ◌≤◌, ◌==◌, Bool, List, [], ◌∷◌, ◌++◌, map, length, Option, Some, None, Result, Ok, Err, refl, sym, ap, subst, ◌∙◌, arith}
use Rattle.pe_c.proofs.Cited.{if◌then◌else◌, AllZip, option_map, nat_tests, append-nil, map-append, le_small, length_range}
use Rattle.pe_c.proofs.Cited.{each_front, each_same, none_of_none, AreBytes, holds, le, range, record_at, all_or_refusal}
use Rattle.pe_c.proofs.Cited.{up_to_none, with_rest, EntryView, ImportRecordView, ImportView, import_entries, import_entry_at}
use Rattle.pe_c.proofs.Cited.{entry_size, import_data_at, import_of, import_record, import_record_at, import_records, imports}
use Rattle.pe_c.proofs.Cited.{is_last, lookups_at, lookups_rva, name_or_refusal, named_import, import_entry, Refusal, Short, ◌>>=◌}
use Rattle.pe_c.proofs.Cited.{each, mapped, text_at, SectionTable, Image, Import, Libraries, Library, Range, import_directory}
use Rattle.pe_c.proofs.Cited.{map_of_image, import_at, import_by, import_step, import_reported, StepsImports, StepsLibraries}
use Rattle.pe_c.proofs.Cited.{libraries_at, libraries_from, library_by, library_step, library_reported, no_imports, no_libraries}
use Rattle.pe_c.proofs.Cited.{slot_entry, ImportsInTurn, ReportsImport, ReportsLibrary, IsRange, range_from, ReturnsItems, IsOver}
use Rattle.pe_c.proofs.Cited.{ReturnsReported, given, same_inside}
use Rattle.std.proofs.lemmas.Nat.{column_fits, div-mul-add}
use Rattle.std.proofs.Math.Nat.{mul-suc}
use Rattle.pe_core.proofs.Map.{offset_is}
use Rattle.pe_core.specs.declared.import.ImportDirectoryEntry.{ImportDirectoryEntry}
use Rattle.calls_directories.specs.declared.names.imports.Imports.{Imports}
use Rattle.calls_base.proofs.Runs.{makes_by, reports_more, reports_none, reports_refused}
use Rattle.calls_base.proofs.TextRanges.{text_stands}
use Rattle.pe_image.proofs.StandingLists.{held, le_of_range, list_inside, not_last, rows_front, some_inside}
use Rattle.pe_core.proofs.EntryLists.{some_size}
use Rattle.calls_directories.proofs.LastImports.{over, step_last}

-- ---- an import

-- what is reported agrees with what an entry imports
abbrev Agrees : List ℕ → Result ImportView Refusal → Result Import Refusal → Type 0
Agrees b (Ok i) (Ok x) = ReportsImport b x i
Agrees b (Ok i) (Err e) = ⊥
Agrees b (Err e) (Ok x) = ⊥
Agrees b (Err e) (Err f) = e ≡ f

agrees_by_offset : (offset : ℕ → Option ℕ) (b dll : List ℕ) (entry rva : ℕ) (at : Option ℕ) → offset (entry % 2 ^ 31) ≡ at →
    Agrees b (mapped at >>= named_import b (record { dll = dll; entry = entry; rva = rva })) ((mapped at >>= named_import b (slot_entry entry rva)) >>= λ i. Ok (import_reported offset entry i))
agrees_by_offset offset b dll entry rva None at = refl
agrees_by_offset offset b dll entry rva (Some p) at = grind (arith, text_stands)

agrees : (offset : ℕ → Option ℕ) (w : ℕ) (b dll : List ℕ) (entry rva : ℕ) → Agrees b (import_of offset w b (record { dll = dll; entry = entry; rva = rva })) (import_at offset w b entry rva)
unfolding import_of
agrees offset w b dll entry rva = grind (arith, agrees_by_offset)

-- ---- the imports of a library

-- the entries from q on
abbrev slots : ℕ → List ℕ → List ℕ → ℕ → ℕ → ℕ → EntryView
slots w b dll q rva k = record { dll = dll; entry = le b (q + w * k) w; rva = rva + w * k }

-- the first import and those after it
one : (offset : ℕ → Option ℕ) (w : ℕ) (b : List ℕ) (walk next : Imports) (r : Result ImportView Refusal) (x : Result Import Refusal) (rest : List (Result ImportView Refusal)) →
    Agrees b r x → import_step offset w b walk ≡ import_by w walk x → record { left = record { offset = walk.left.offset + w; length = walk.left.length - w }; rva = (walk.rva + w) % 2 ^ 64 } ≡ next →
    ReturnsReported (StepsImports offset w b) (ReportsImport b) next (all_or_refusal rest) → ReturnsReported (StepsImports offset w b) (ReportsImport b) walk (all_or_refusal (r ∷ rest))
one offset w b walk next (Ok i) (Ok x) rest agree is after more =
    reports_more (StepsImports offset w b) (ReportsImport b) walk next x i (all_or_refusal rest) (makes_by (import_step offset w b) walk next (Ok (Some x)) (is ∙ ap (λ (n : Imports). (Ok (Some x), n)) after)) agree more
one offset w b walk next (Ok i) (Err e) rest agree is after more = absurd agree
one offset w b walk next (Err e) (Ok x) rest agree is after more = absurd agree
one offset w b walk next (Err e) (Err f) rest agree is after more =
    reports_refused (StepsImports offset w b) (ReportsImport b) walk (no_imports walk) e (makes_by (import_step offset w b) walk (no_imports walk) (Err e) (is ∙ ap (λ (r : Refusal). (Err r, no_imports walk)) (sym agree)))
    (makes_by (import_step offset w b) (no_imports walk) (no_imports walk) (Ok None) (step_last offset w b 0 walk.rva (omega arith)))

slots_front : (w : ℕ) (b dll : List ℕ) (q rva n : ℕ) → each (slots w b dll q rva) (suc n) ≡ record { dll = dll; entry = le b q w; rva = rva } ∷ each (slots w b dll (q + w) (rva + w)) n
slots_front w b dll q rva n = grind (arith, each_front, mul-suc)

next_walk : (w q rva n : ℕ) → rva + w * suc n < 2 ^ 64 → record { left = record { offset = q + w; length = w * suc n - w }; rva = (rva + w) % 2 ^ 64 } ≡ over (q + w) (w * n) (rva + w)
next_walk w q rva n small = grind (arith, mul-suc)

run : (offset : ℕ → Option ℕ) (w : ℕ) (b dll : List ℕ) → 0 < w → (n q rva : ℕ) → q + w * n ≤ length b → rva + w * n < 2 ^ 64 →
    ReturnsReported (StepsImports offset w b) (ReportsImport b) (over q (w * n) rva) (all_or_refusal (map (import_of offset w b) (each (slots w b dll q rva) n)))
unfolding import_step
run offset w b dll some zero q rva inside small =
    let none : w * 0 ≡ 0 = omega arith in
    let here : import_step offset w b (over q (w * 0) rva) ≡ (Ok None, over q 0 rva) = ap (λ (m : ℕ). import_step offset w b (over q m rva)) none ∙ step_last offset w b q rva (omega (arith, inside)) in
    subst (λ (es : List EntryView). ReturnsReported (StepsImports offset w b) (ReportsImport b) (over q (w * 0) rva) (all_or_refusal (map (import_of offset w b) es))) (sym (none_of_none (slots w b dll q rva)))
    (reports_none (StepsImports offset w b) (ReportsImport b) (over q (w * 0) rva) (over q 0 rva) (makes_by (import_step offset w b) (over q (w * 0) rva) (over q 0 rva) (Ok None) here)
    (makes_by (import_step offset w b) (over q 0 rva) (over q 0 rva) (Ok None) (step_last offset w b q rva (omega (arith, inside)))))
run offset w b dll some (suc n) q rva inside small =
    let long : w * suc n ≡ w * n + w = mul-suc w n in
    subst (λ (es : List EntryView). ReturnsReported (StepsImports offset w b) (ReportsImport b) (over q (w * suc n) rva) (all_or_refusal (map (import_of offset w b) es))) (sym (slots_front w b dll q rva n))
    (one offset w b (over q (w * suc n) rva) (over (q + w) (w * n) (rva + w)) _ _ _
    (agrees offset w b dll (le b q w) rva)
    (grind (arith, le_of_range, over, nat_tests))
    (next_walk w q rva n small)
    (run offset w b dll some n (q + w) (rva + w) (omega (arith, long, inside)) (omega (arith, long, small))))

-- ---- lists

-- a list stands where its range is, and is of whole entries
record ListStands (w : ℕ) (b : List ℕ) (r : Range) (list : List ℕ) : Type 0 where
  count : ℕ
  long : r.length ≡ w * count
  within : r.offset + w * count ≤ length b
  same : range b r.offset (w * count) ≡ list

is_range : (w : ℕ) (b : List ℕ) (r : Range) (list : List ℕ) → ListStands w b r list → IsRange b r list
is_range w b r list s = record { inside = omega (arith, s.long, s.within); same = ap (λ (n : ℕ). range b r.offset n) s.long ∙ s.same }

-- ---- the imports of a record

its_slots : (w : ℕ) (b : List ℕ) (r : ImportRecordView) (q n : ℕ) → 0 < w → q + w * n ≤ length b → range b q (w * n) ≡ r.lookups →
    each (import_entry_at w r) (length r.lookups / w) ≡ each (slots w b r.name q r.import_directory_entry.address_table_rva) n
its_slots w b r q n some h same =
    let long : length r.lookups ≡ n * w + 0 = ap length (sym same) ∙ length_range b q (w * n) h ∙ grind arith in
    let count : length r.lookups / w ≡ n = ap (λ (m : ℕ). m / w) long ∙ div-mul-add n w 0 some in
    ap (λ (m : ℕ). each (import_entry_at w r) m) count
    ∙ each_same (import_entry_at w r) (slots w b r.name q r.import_directory_entry.address_table_rva) n
    (λ k lt.
    ap (λ (e : ℕ). record { dll = r.name; entry = e; rva = r.import_directory_entry.address_table_rva + w * k })
    (ap (λ (l : List ℕ). le l (w * k) w) (sym same) ∙ le_of_range b q (w * n) (w * k) w h (column_fits w k w n lt (omega arith))))

record_imports : (offset : ℕ → Option ℕ) (w : ℕ) (b : List ℕ) (r : ImportRecordView) (left : Range) → 0 < w → length b ≤ 2 ^ 63 → ListStands w b left r.lookups → r.import_directory_entry.address_table_rva < 4294967296 →
    ReturnsReported (StepsImports offset w b) (ReportsImport b) (record { left = left; rva = r.import_directory_entry.address_table_rva }) (imports offset w b (r ∷ []))
unfolding imports import_entries
record_imports offset w b r left some small s low =
    let rva : ℕ = r.import_directory_entry.address_table_rva in
    let same : import_entries w (r ∷ []) ≡ each (slots w b r.name left.offset rva) s.count = append-nil (each (import_entry_at w r) (length r.lookups / w)) ∙ its_slots w b r left.offset s.count some s.within s.same in
    subst (λ (m : ℕ). ReturnsReported (StepsImports offset w b) (ReportsImport b) (over left.offset m rva) (all_or_refusal (map (import_of offset w b) (import_entries w (r ∷ []))))) (sym s.long)
    (subst (λ (es : List EntryView). ReturnsReported (StepsImports offset w b) (ReportsImport b) (over left.offset (w * s.count) rva) (all_or_refusal (map (import_of offset w b) es))) (sym same)
    (run offset w b r.name some s.count left.offset rva s.within (omega (arith, s.within, small, low))))

-- ---- a library

pub there_by : {Y : Type 0} (here : Bool) (y z : Y) → if◌then◌else◌ {A = Result Y Refusal} here (Ok y) (Err Short) ≡ Ok z → z ≡ y
there_by here y z e = grind (arith, same_inside)

there_is : {Y : Type 0} (b : List ℕ) (p : ℕ) (y z : Y) → record_at b p 20 y ≡ Ok z → z ≡ y
there_is b p y z e = there_by (holds b p 20) y z e

low_address : (b : List ℕ) (p : ℕ) → AreBytes b → (import_entry b p).address_table_rva < 4294967296
unfolding import_entry
low_address b p small = le_small b (p + 16) small

entry_reports : (offset : ℕ → Option ℕ) (w : ℕ) (b : List ℕ) (e : ImportDirectoryEntry) (r : ImportRecordView) → 0 < w → length b ≤ 2 ^ 63 → e.address_table_rva < 4294967296 → import_record offset w b e ≡ Ok (Some r) →
    ReportsLibrary offset w b (library_reported offset r) r
unfolding import_record
entry_reports offset w b e r some small low h =
    let p = given (mapped (offset e.name_rva)) _ (Some r) h in
    let name = given (name_or_refusal (text_at b p.0)) _ (Some r) p.2 in
    let list = given (lookups_at w b (offset (lookups_rva e))) _ (Some r) name.2 in
    let made : ImportRecordView = record { import_directory_entry = e; name = name.0; lookups = list.0 } in
    let left : Range = range_from (length list.0) (offset (lookups_rva e)) in
    let stands : ListStands w b left list.0 = grind (arith, same_inside, given, list_inside, length_range, list.1) in
    let run : ReturnsReported (StepsImports offset w b) (ReportsImport b) (record { left = left; rva = e.address_table_rva }) (imports offset w b (made ∷ [])) = record_imports offset w b made left some small stands low in
    subst (λ (x : ImportRecordView). ReportsLibrary offset w b (library_reported offset x) x) (some_inside made r list.2) (record {
      name = subst (λ (o : Option ℕ). IsRange b (range_from (length name.0) o) name.0) (sym (offset_is (offset e.name_rva) p.0 p.1)) (text_stands b p.0 name.0 (grind (arith, same_inside, name.1)));
      list = is_range w b left list.0 stands;
      numbers = refl;
      given = λ is whole. subst (ReturnsReported (StepsImports offset w b) (ReportsImport b) (record { left = left; rva = e.address_table_rva })) whole run;
      refused = λ refusal is_error. subst (ReturnsReported (StepsImports offset w b) (ReportsImport b) (record { left = left; rva = e.address_table_rva })) is_error run;
    })

record_reports : (offset : ℕ → Option ℕ) (w : ℕ) (b : List ℕ) (p : ℕ) (r : ImportRecordView) → 0 < w → AreBytes b → length b ≤ 2 ^ 63 → import_record_at offset w b p ≡ Ok (Some r) →
    ReportsLibrary offset w b (library_reported offset r) r
unfolding import_record_at
record_reports offset w b p r some bytes small h =
    let e = given (record_at b p 20 (import_entry b p)) _ (Some r) h in
    let same : e.0 ≡ import_entry b p = there_is b p (import_entry b p) e.0 e.1 in
    entry_reports offset w b e.0 r some small (subst (λ (x : ImportDirectoryEntry). x.address_table_rva < 4294967296) (sym same) (low_address b p bytes))
    (not_last (is_last e.0) r (import_record offset w b e.0) e.2)

record_there : (offset : ℕ → Option ℕ) (w : ℕ) (b : List ℕ) (p : ℕ) (r : ImportRecordView) → import_record_at offset w b p ≡ Ok (Some r) → p + 20 ≤ length b
unfolding import_record_at
record_there offset w b p r h =
    let e = given (record_at b p 20 (import_entry b p)) _ (Some r) h in
    held b p 20 (import_entry b p) e.0 e.1

-- ---- the libraries of a directory

abbrev library_of_row : (ℕ → Option ℕ) → ℕ → Result (Option ImportRecordView) Refusal → Result (Option Library) Refusal × Libraries
library_of_row offset p row = library_by (libraries_from p) (row >>= λ r. Ok (option_map (library_reported offset) r))

is_over : (offset : ℕ → Option ℕ) (w : ℕ) (b : List ℕ) → IsOver (StepsLibraries offset w b) no_libraries
unfolding library_step
is_over offset w b = makes_by (library_step offset w b) no_libraries no_libraries (Ok None) refl

first_library : (offset : ℕ → Option ℕ) (w : ℕ) (b : List ℕ) (p : ℕ) (row : Result (Option ImportRecordView) Refusal) (rows : List (Result (Option ImportRecordView) Refusal)) → import_record_at offset w b p ≡ row →
    ((r : ImportRecordView) → row ≡ Ok (Some r) → ReturnsReported (StepsLibraries offset w b) (ReportsLibrary offset w b) (libraries_from (p + 20)) (up_to_none rows)) →
    ((r : ImportRecordView) → row ≡ Ok (Some r) → ReportsLibrary offset w b (library_reported offset r) r) →
    ReturnsReported (StepsLibraries offset w b) (ReportsLibrary offset w b) (libraries_from p) (up_to_none (row ∷ rows))
unfolding library_step
first_library offset w b p (Ok None) rows e more reports = grind (arith, reports_none, makes_by, is_over)
first_library offset w b p (Ok (Some r)) rows e more reports =
    reports_more (StepsLibraries offset w b) (ReportsLibrary offset w b) (libraries_from p) (libraries_from (p + 20)) (library_reported offset r) r (up_to_none rows)
    (makes_by (library_step offset w b) (libraries_from p) (libraries_from (p + 20)) (Ok (Some (library_reported offset r))) (ap (library_of_row offset p) e)) (reports r refl) (more r refl)
first_library offset w b p (Err refusal) rows e more reports =
    reports_refused (StepsLibraries offset w b) (ReportsLibrary offset w b) (libraries_from p) no_libraries refusal (makes_by (library_step offset w b) (libraries_from p) no_libraries (Err refusal) (ap (library_of_row offset p) e))
    (is_over offset w b)

libraries_run : (offset : ℕ → Option ℕ) (w : ℕ) (b : List ℕ) → 0 < w → AreBytes b → length b ≤ 2 ^ 63 → (n p : ℕ) → length b < p + 20 * suc n →
    ReturnsReported (StepsLibraries offset w b) (ReportsLibrary offset w b) (libraries_from p) (up_to_none (each (λ i. import_record_at offset w b (p + 20 * i)) (suc n)))
libraries_run offset w b some bytes small zero p enough =
    subst (λ (rows : List (Result (Option ImportRecordView) Refusal)). ReturnsReported (StepsLibraries offset w b) (ReportsLibrary offset w b) (libraries_from p) (up_to_none rows)) (sym (rows_front (import_record_at offset w b) 20 p 0))
    (first_library offset w b p (import_record_at offset w b p) _ refl
    (λ r e. let room : p + 20 ≤ length b = record_there offset w b p r e in absurd (omega (arith, room, enough)))
    (λ r e. record_reports offset w b p r some bytes small e))
libraries_run offset w b some bytes small (suc n) p enough =
    subst (λ (rows : List (Result (Option ImportRecordView) Refusal)). ReturnsReported (StepsLibraries offset w b) (ReportsLibrary offset w b) (libraries_from p) (up_to_none rows)) (sym (rows_front (import_record_at offset w b) 20 p (suc n)))
    (first_library offset w b p (import_record_at offset w b p) _ refl
    (λ r e. libraries_run offset w b some bytes small n (p + 20) (omega (arith, enough)))
    (λ r e. record_reports offset w b p r some bytes small e))

directory_run : (offset : ℕ → Option ℕ) (w : ℕ) (b : List ℕ) (p : ℕ) → 0 < w → AreBytes b → length b ≤ 2 ^ 63 →
    ReturnsReported (StepsLibraries offset w b) (ReportsLibrary offset w b) (libraries_from p) (import_records offset w b p)
unfolding import_records
directory_run offset w b p some bytes small = libraries_run offset w b some bytes small (length b) p (omega arith)

reported_of_image : (b : List ℕ) (image : Image) (sections : List SectionTable) (walk : Libraries) → AreBytes b → length b ≤ 2 ^ 63 → libraries_at image (map_of_image image sections) ≡ Ok (Some walk) →
    ReturnsReported (StepsLibraries (map_of_image image sections) (entry_size (image.width == 64)) b) (ReportsLibrary (map_of_image image sections) (entry_size (image.width == 64)) b) walk
    (import_data_at (map_of_image image sections) (entry_size (image.width == 64)) b (import_directory image).virtual_address)
reported_of_image b image sections walk bytes small e = grind (arith, some_size, some_inside, directory_run)

pub libraries_in_turn : (b : List ℕ) (image : Image) (sections : List SectionTable) (walk : Libraries) (rs : List ImportRecordView) → AreBytes b → length b ≤ 2 ^ 63 → libraries_at image (map_of_image image sections) ≡ Ok (Some walk) →
    import_data_at (map_of_image image sections) (entry_size (image.width == 64)) b (import_directory image).virtual_address ≡ Ok rs →
    (reported : List Library) × ReturnsItems (StepsLibraries (map_of_image image sections) (entry_size (image.width == 64)) b) walk (map (λ x. Ok x) reported) ×
    AllZip (ReportsLibrary (map_of_image image sections) (entry_size (image.width == 64)) b) reported rs
libraries_in_turn b image sections walk rs bytes small e whole = grind (arith, reported_of_image)

pub refused_in_turn : (b : List ℕ) (image : Image) (sections : List SectionTable) (walk : Libraries) (refusal : Refusal) → AreBytes b → length b ≤ 2 ^ 63 → libraries_at image (map_of_image image sections) ≡ Ok (Some walk) →
    import_data_at (map_of_image image sections) (entry_size (image.width == 64)) b (import_directory image).virtual_address ≡ Err refusal →
    (reported : List Library) × (rs : List ImportRecordView) ×
    ReturnsItems (StepsLibraries (map_of_image image sections) (entry_size (image.width == 64)) b) walk (map (λ x. Ok x) reported ++ Err refusal ∷ []) ×
    AllZip (ReportsLibrary (map_of_image image sections) (entry_size (image.width == 64)) b) reported rs
refused_in_turn b image sections walk refusal bytes small e is_error = grind (arith, reported_of_image)

-- ---- records in turn

all_in_turn : {X : Type 0} (xs ys : List (Result X Refusal)) → all_or_refusal (xs ++ ys) ≡ (all_or_refusal xs >>= λ first. all_or_refusal ys >>= λ more. Ok (first ++ more))
all_in_turn [] ys = grind arith
all_in_turn (Ok x ∷ xs) ys = ap (with_rest (x ∷ [])) (all_in_turn xs ys) ∙ grind arith
all_in_turn (Err e ∷ xs) ys = refl

pub imports_in_turn : ImportsInTurn
unfolding imports import_entries
imports_in_turn = grind (arith, map-append, all_in_turn, append-nil)
