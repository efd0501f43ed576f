-- The lists of lookup entries of parsed records stand in the file, each where its RVA leads.
use Rattle.std.proofs.Common.{◌≡◌, ℕ, zero, suc, ◌+◌, ◌*◌, ◌≤◌, Bool, List, [], ◌∷◌, length, Option, Some, None, Result, Ok, Err, refl, sym, ap, subst, ◌∙◌, arith}
use Rattle.pe_image.proofs.Cited.{IfSome, if◌then◌else◌, All, nat_tests, places, All-cons, All-nil, All-same, le, range, record_at}
use Rattle.pe_image.proofs.Cited.{up_to_none, with_rest, ImportRecordView, import_data_at, import_record, import_record_at}
use Rattle.pe_image.proofs.Cited.{import_records, is_last, lookup_at, lookup_entries, lookups_at, lookups_rva, name_or_refusal}
use Rattle.pe_image.proofs.Cited.{import_entry, Refusal, each, mapped, text_at, DataDirectory, each_front, none_of_none, given}
use Rattle.pe_image.proofs.Cited.{same_inside, import_data_of, AllStand, StandsAt, list_offset}
use Rattle.std.proofs.Math.Nat.{mul-suc}
use Rattle.pe_core.specs.declared.import.ImportDirectoryEntry.{ImportDirectoryEntry}

pub le_of_range : (b : List ℕ) (q m p n : ℕ) → q + m ≤ length b → p + n ≤ m → le (range b q m) p n ≡ le b (q + p) n
unfolding le
le_of_range b q m p zero h i = refl
le_of_range b q m p (suc n) h i = let fewer : le (range b q m) p n ≡ le b (q + p) n = le_of_range b q m p n h (omega (arith, i)) in grind (arith, places)

-- rows of one width from an offset on: the first, and those after it
pub rows_front : {X : Type 0} (row : ℕ → X) (w q n : ℕ) → each (λ k. row (q + w * k)) (suc n) ≡ row q ∷ each (λ k. row (q + w + w * k)) n
rows_front row w q n = grind (arith, each_front, mul-suc)

pub after_first : {X : Type 0} (x : X) (rest : Result (List X) Refusal) (xs : List X) → with_rest (x ∷ []) rest ≡ Ok xs → (ys : List X) × (rest ≡ Ok ys) × (x ∷ ys ≡ xs)
after_first x rest xs e = grind (arith, same_inside)

pub held : {Y : Type 0} (b : List ℕ) (p n : ℕ) (y z : Y) → record_at b p n y ≡ Ok z → p + n ≤ length b
held b p n y z e = grind (arith, nat_tests)

-- the entries of a list that is returned are all there
inside_by : (w : ℕ) (b : List ℕ) (q : ℕ) (es : List ℕ) (row : Result (Option ℕ) Refusal) (rows : List (Result (Option ℕ) Refusal)) → lookup_at w b q ≡ row → up_to_none (row ∷ rows) ≡ Ok es →
    ((ys : List ℕ) → up_to_none rows ≡ Ok ys → q + w ≤ length b → q + w + w * length ys ≤ length b) → q + w * length es ≤ length b
inside_by w b q es row rows e given more = grind (arith, same_inside, given, held, after_first, mul-suc)

inside : (w : ℕ) (b : List ℕ) (n q : ℕ) (es : List ℕ) → up_to_none (each (λ k. lookup_at w b (q + w * k)) n) ≡ Ok es → q ≤ length b → q + w * length es ≤ length b
inside w b zero q es e h = grind (arith, none_of_none, same_inside)
inside w b (suc n) q es e h =
    inside_by w b q es (lookup_at w b q) (each (λ k. lookup_at w b (q + w + w * k)) n) refl (ap up_to_none (sym (rows_front (lookup_at w b) w q n)) ∙ e) (λ ys f i. inside w b n (q + w) ys f i)

pub list_inside : (w : ℕ) (b : List ℕ) (q : ℕ) (es : List ℕ) → lookup_entries w b q ≡ Ok es → q + w * length es ≤ length b
unfolding lookup_entries
list_inside w b q es e =
    inside_by w b q es (lookup_at w b q) (each (λ k. lookup_at w b (q + w + w * k)) (length b)) refl (ap up_to_none (sym (rows_front (lookup_at w b) w q (length b))) ∙ e) (λ ys f i. inside w b (length b) (q + w) ys f i)

pub some_inside : {X : Type 0} (x y : X) → ◌≡◌ {A = Result (Option X) Refusal} (Ok (Some x)) (Ok (Some y)) → x ≡ y
some_inside x y e = cc

pub not_last : (last : Bool) (r : ImportRecordView) (more : Result (Option ImportRecordView) Refusal) → if◌then◌else◌ last (Ok None) more ≡ Ok (Some r) → more ≡ Ok (Some r)
not_last last r more e = grind arith

-- ---- the lists of records

stands : (w : ℕ) (b list : List ℕ) (at : Option ℕ) → lookups_at w b at ≡ Ok list → StandsAt w b list at
stands w b list at e = grind (arith, same_inside, given, list_inside)

-- the list of a record stands at its offset
abbrev Stands : (ℕ → Option ℕ) → ℕ → List ℕ → ImportRecordView → Type 0
Stands offset w b r = StandsAt w b r.lookups (list_offset offset r)

record_stands : (offset : ℕ → Option ℕ) (w : ℕ) (b : List ℕ) (e : ImportDirectoryEntry) (r : ImportRecordView) → import_record offset w b e ≡ Ok (Some r) → Stands offset w b r
unfolding import_record
record_stands offset w b e r h =
    let p = given (mapped (offset e.name_rva)) _ (Some r) h in
    let name = given (name_or_refusal (text_at b p.0)) _ (Some r) p.2 in
    let list = given (lookups_at w b (offset (lookups_rva e))) _ (Some r) name.2 in
    subst (Stands offset w b) (some_inside (record { import_directory_entry = e; name = name.0; lookups = list.0 }) r list.2) (stands w b list.0 (offset (lookups_rva e)) list.1)

row_stands : (offset : ℕ → Option ℕ) (w : ℕ) (b : List ℕ) (p : ℕ) (r : ImportRecordView) → import_record_at offset w b p ≡ Ok (Some r) → Stands offset w b r
unfolding import_record_at
row_stands offset w b p r h =
    let entry = given (record_at b p 20 (import_entry b p)) _ (Some r) h in
    record_stands offset w b entry.0 r (not_last (is_last entry.0) r (import_record offset w b entry.0) entry.2)

all_gathered : (P : ImportRecordView → Type 0) (row : ℕ → Result (Option ImportRecordView) Refusal) → ((p : ℕ) (r : ImportRecordView) → row p ≡ Ok (Some r) → P r)
    → (n p : ℕ) (rs : List ImportRecordView) → up_to_none (each (λ k. row (p + 20 * k)) n) ≡ Ok rs → All P rs
all_gathered P row h zero p rs is = grind (arith, none_of_none, same_inside)
all_gathered P row h (suc n) p rs is = by_row (row p) refl (ap up_to_none (sym (rows_front row 20 p n)) ∙ is) (all_gathered P row h n (p + 20))
  where
    by_row : (first : Result (Option ImportRecordView) Refusal) → row p ≡ first → up_to_none (first ∷ each (λ k. row (p + 20 + 20 * k)) n) ≡ Ok rs
        → ((more : List ImportRecordView) → up_to_none (each (λ k. row (p + 20 + 20 * k)) n) ≡ Ok more → All P more) → All P rs
    by_row (Ok None) at is rest = All-same P rs [] (sym (same_inside [] rs is)) (All-nil P)
    by_row (Ok (Some r)) at is rest =
        let after = after_first r (up_to_none (each (λ k. row (p + 20 + 20 * k)) n)) rs is in
        All-same P rs (r ∷ after.0) (sym after.2) (All-cons P r after.0 (h p r at) (rest after.0 after.1))
    by_row (Err e) at is rest = absurd cc

records_stand : (offset : ℕ → Option ℕ) (w : ℕ) (b : List ℕ) (p : ℕ) (rs : List ImportRecordView) → import_records offset w b p ≡ Ok rs → AllStand offset w b rs
unfolding import_records
records_stand offset w b p rs is = all_gathered (Stands offset w b) (import_record_at offset w b) (row_stands offset w b) (suc (length b)) p rs is

-- the lists of all records of an import directory, if there is one
pub all_stand : (offset : ℕ → Option ℕ) (w : ℕ) (b : List ℕ) (d : Option DataDirectory) (found : Option (List ImportRecordView)) → import_data_of offset w b d ≡ Ok found → IfSome found (AllStand offset w b)
all_stand offset w b None found is = let none : None ≡ found = same_inside None found is in subst (λ (o : Option (List ImportRecordView)). IfSome o (AllStand offset w b)) none tt
all_stand offset w b (Some d) found is =
    let records = given (import_data_at offset w b d.virtual_address) (λ rs. Ok (Some rs)) found is in
    let at = given (mapped (offset d.virtual_address)) (import_records offset w b) records.0 records.1 in
    subst (λ (o : Option (List ImportRecordView)). IfSome o (AllStand offset w b)) (same_inside (Some records.0) found records.2) (records_stand offset w b at.0 records.0 at.2)
