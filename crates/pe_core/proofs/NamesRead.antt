-- The names of libraries, each offset once; and that the names of parsed records are read again at their RVAs.
use Rattle.std.proofs.Common.{◌≡◌, ℕ, zero, suc, ◌+◌, ◌*◌, ◌^◌, ◌<◌, ◌==◌, Bool, true, false, cond, List, [], ◌∷◌, map, length, Option, Some, None, Result, Ok, Err, refl, sym, ap, subst, ◌∙◌, arith}
use Rattle.std.specs.Prelude.{IfSome}
use Rattle.std.specs.Borrow.{Bor}
use Rattle.std.specs.List.{All, Contains, cons_option, dedup, filter_map}
use Rattle.std.specs.List.Retain.{DiffersFromLast, IsFiltered}
use Rattle.std.specs.List.Sorted.{IsPermutation}
use Rattle.std.specs.Option.{option_and_then}
use Rattle.std.proofs.lemmas.List.Elements.{All-cons, All-contains, All-contains_itself, All-head, All-nil, All-push, All-same, All-tail, All-weaker}
use Rattle.std.proofs.lemmas.List.Filters.{All-dedup, dedup_is}
use Rattle.std.proofs.lemmas.List.Kept.{Contains-dedup_nat}
use Rattle.std.proofs.lemmas.List.Sorted.{All-permutation, Contains-permutation}
use Rattle.pe_core.specs.declared.import.ImportDirectoryEntry.{ImportDirectoryEntry}
use Rattle.pe_core.specs.Bytes.{holds}
use Rattle.pe_core.specs.Gathered.{up_to_none, with_rest}
use Rattle.pe_core.specs.Imports.{AreLibraries, ImportRecordView, import_data_at, import_record, import_record_at, import_records, is_last, lookups_at, lookups_rva, name_or_refusal, name_read_of}
use Rattle.pe_core.specs.ImportSteps.{AreSameNumbers}
use Rattle.pe_core.specs.Records.{import_entry}
use Rattle.pe_core.specs.Refusals.{Refusal, Short, ◌>>=◌}
use Rattle.pe_core.specs.Rows.{each}
use Rattle.pe_core.specs.SectionIndex.{offset_or_end}
use Rattle.pe_core.specs.SectionMap.{mapped}
use Rattle.pe_core.specs.Text.{text_at, texts_of}
use Rattle.pe_core.proofs.ExportLists.{text_or_end}

-- ---- each number once

pub same_numbers : (xs ys zs : List ℕ) → IsPermutation xs ys → IsFiltered (DiffersFromLast (λ x y. x == y)) [] ys zs → AreSameNumbers xs zs
same_numbers xs ys zs moved kept =
    let once : zs ≡ dedup (λ x y. x == y) ys = dedup_is (λ x y. x == y) ys zs kept in
    record {
      kept = All-weaker (Contains xs) (Contains zs) (λ x h. subst (λ l. Contains l x) (sym once) (Contains-dedup_nat ys x (Contains-permutation xs ys x moved h))) xs (All-contains_itself xs);
      only = subst (λ l. All (Contains xs) l) (sym once) (All-dedup (λ x y. x == y) (Contains xs) ys (All-permutation (Contains xs) xs ys moved (All-contains_itself xs)));
    }

-- ---- what is listed

if_some : {Y : Type 0} (r : Option Y) (P Q : Y → Type 0) → ((y : Y) → P y → Q y) → IfSome r P → IfSome r Q
if_some None P Q f h = h
if_some (Some y) P Q f h = f y h

first_listed : {Y : Type 0} (r : Option Y) (ys : List Y) → IfSome r (Contains (cons_option r ys))
first_listed None ys = tt
first_listed (Some y) ys = (0, omega arith, refl)

still_listed : {Y : Type 0} (r : Option Y) (ys : List Y) (y : Y) → Contains ys y → Contains (cons_option r ys) y
still_listed None ys y h = h
still_listed (Some x) ys y h = (suc h.0, omega (arith, h.1), h.2)

-- what h finds of an element is listed
all_listed : {X Y : Type 0} (h : X → Option Y) (xs : List X) → All (λ x. IfSome (h x) (Contains (filter_map h xs))) xs
all_listed h [] = All-nil _
all_listed h (x ∷ xs) = All-cons (λ y. IfSome (h y) (Contains (filter_map h (x ∷ xs)))) x xs (first_listed (h x) (filter_map h xs))
    (All-weaker (λ y. IfSome (h y) (Contains (filter_map h xs))) (λ y. IfSome (h y) (Contains (filter_map h (x ∷ xs)))) (λ y found. if_some (h y) (Contains (filter_map h xs)) (Contains (filter_map h (x ∷ xs))) (λ z there. still_listed (h x) (filter_map h xs) z there) found) xs (all_listed h xs))

all_cons_option : {Y : Type 0} (P : Y → Type 0) (r : Option Y) (ys : List Y) → IfSome r P → All P ys → All P (cons_option r ys)
all_cons_option P None ys h all = all
all_cons_option P (Some y) ys h all = All-cons P y ys h all

-- what holds of all that h finds holds of the list
only_listed : {X Y : Type 0} (P : Y → Type 0) (h : X → Option Y) (xs : List X) → All (λ x. IfSome (h x) P) xs → All P (filter_map h xs)
only_listed P h [] all = All-nil P
only_listed P h (x ∷ xs) all = all_cons_option P (h x) (filter_map h xs) (All-head (λ y. IfSome (h y) P) x xs all) (only_listed P h xs (All-tail (λ y. IfSome (h y) P) x xs all))

-- of the same numbers the same is listed
all_among : {Y : Type 0} (h : ℕ → Option Y) (xs ys : List ℕ) → All (Contains ys) xs → All (Contains (filter_map h ys)) (filter_map h xs)
all_among h xs ys among = only_listed (Contains (filter_map h ys)) h xs
    (All-weaker (Contains ys) (λ x. IfSome (h x) (Contains (filter_map h ys))) (λ x there. All-contains (λ x. IfSome (h x) (Contains (filter_map h ys))) ys x (all_listed h ys) there) xs among)

same_libraries : (xs ys libraries : List (List ℕ)) → All (Contains ys) xs → All (Contains xs) ys → AreLibraries xs libraries → AreLibraries ys libraries
same_libraries xs ys libraries forth back are = record {
  in_order = are.in_order;
  named = All-weaker (Contains xs) (Contains ys) (λ x h. All-contains (Contains ys) xs x forth h) libraries are.named;
  whole = All-weaker (Contains xs) (Contains libraries) (λ x h. All-contains (Contains libraries) xs x are.whole h) ys back;
}

-- ---- the names of the records

texts_found : (b offsets : List ℕ) → filter_map (λ text. text) (map (text_at b) offsets) ≡ filter_map (text_at b) offsets
texts_found b [] = refl
texts_found b (p ∷ ps) = ap (cons_option (text_at b p)) (texts_found b ps)

names_at : (offset : ℕ → Option ℕ) (b : List ℕ) (records : List ImportRecordView) → length b < 2 ^ 64
    → filter_map (text_at b) (map (λ r. offset_or_end (offset r.import_directory_entry.name_rva)) records) ≡ filter_map (name_read_of offset b) records
names_at offset b [] small = refl
names_at offset b (r ∷ records) small =
    ap (λ t. cons_option t (filter_map (text_at b) (map (λ r. offset_or_end (offset r.import_directory_entry.name_rva)) records))) (text_or_end b (offset r.import_directory_entry.name_rva) small)
    ∙ ap (cons_option (name_read_of offset b r)) (names_at offset b records small)

pub libraries_read : (offset : ℕ → Option ℕ) (b : List ℕ) (records : List ImportRecordView) (offsets once : List ℕ) (texts : List (Option (Bor (List ℕ)))) (names libraries : List (List ℕ)) → length b < 2 ^ 64
    → offsets ≡ map (λ r. offset_or_end (offset r.import_directory_entry.name_rva)) records → AreSameNumbers offsets once → texts_of texts ≡ map (text_at b) once
    → names ≡ filter_map (λ text. text) (texts_of texts) → AreLibraries names libraries → AreLibraries (filter_map (name_read_of offset b) records) libraries
libraries_read offset b records offsets once texts names libraries small are same read there listed =
    let found : names ≡ filter_map (text_at b) once = there ∙ ap (filter_map (λ (text : Option (List ℕ)). text)) read ∙ texts_found b once in
    let whole : filter_map (text_at b) offsets ≡ filter_map (name_read_of offset b) records = ap (filter_map (text_at b)) are ∙ names_at offset b records small in
    subst (λ l. AreLibraries l libraries) whole
    (same_libraries (filter_map (text_at b) once) (filter_map (text_at b) offsets) libraries (all_among (text_at b) once offsets same.only) (all_among (text_at b) offsets once same.kept)
    (subst (λ l. AreLibraries l libraries) found listed))

-- ---- parsed records have the names at their RVAs

one_more : {X : Type 0} (x : X) (r : Result (List X) Refusal) (xs : List X) → with_rest (x ∷ []) r ≡ Ok xs → (ys : List X) × (r ≡ Ok ys) × (xs ≡ x ∷ ys)
one_more x (Ok ys) xs is = (ys, refl, cc)
one_more x (Err e) xs is = absurd cc

-- P holds of the value of a row
abbrev IsOf : {X : Type 0} → (X → Type 0) → Result (Option X) Refusal → Type 0
IsOf {X} P r = (x : X) → r ≡ Ok (Some x) → P x

all_gathered : {X : Type 0} (P : X → Type 0) (rows : List (Result (Option X) Refusal)) (xs : List X) → All (IsOf P) rows → up_to_none rows ≡ Ok xs → All P xs
all_gathered P [] xs all is = let none : xs ≡ [] = cc in All-same P xs [] none (All-nil P)
all_gathered P (Ok None ∷ rows) xs all is = let none : xs ≡ [] = cc in All-same P xs [] none (All-nil P)
all_gathered P (Ok (Some x) ∷ rows) xs all is =
    let more = one_more x (up_to_none rows) xs is in
    All-same P xs (x ∷ more.0) more.2 (All-cons P x more.0 (All-head (IsOf P) (Ok (Some x)) rows all x refl) (all_gathered P rows more.0 (All-tail (IsOf P) (Ok (Some x)) rows all) more.1))
all_gathered P (Err e ∷ rows) xs all is = absurd cc

all_each : {X : Type 0} (Q : X → Type 0) (f : ℕ → X) (n : ℕ) → ((i : ℕ) → Q (f i)) → All Q (each f n)
unfolding each
all_each Q f zero h = All-nil Q
all_each Q f (suc n) h = All-push Q (each f n) (f n) (all_each Q f n h) (h n)

after_bytes : (t : Bool) (e : ImportDirectoryEntry) (f : ImportDirectoryEntry → Result (Option ImportRecordView) Refusal) (x : ImportRecordView) → (cond t (Ok e) (Err Short) >>= f) ≡ Ok (Some x) → f e ≡ Ok (Some x)
after_bytes true e f x is = is
after_bytes false e f x is = absurd cc

after_last : (t : Bool) (r : Result (Option ImportRecordView) Refusal) (x : ImportRecordView) → cond t (Ok None) r ≡ Ok (Some x) → r ≡ Ok (Some x)
after_last true r x is = absurd cc
after_last false r x is = is

after_mapped : (o : Option ℕ) (f : ℕ → Result (Option ImportRecordView) Refusal) (x : ImportRecordView) → (mapped o >>= f) ≡ Ok (Some x) → (p : ℕ) × (o ≡ Some p) × (f p ≡ Ok (Some x))
after_mapped None f x is = absurd cc
after_mapped (Some p) f x is = (p, refl, is)

after_name : (t : Option (List ℕ)) (f : List ℕ → Result (Option ImportRecordView) Refusal) (x : ImportRecordView) → (name_or_refusal t >>= f) ≡ Ok (Some x) → (name : List ℕ) × (t ≡ Some name) × (f name ≡ Ok (Some x))
after_name None f x is = absurd cc
after_name (Some name) f x is = (name, refl, is)

after_lookups : (r : Result (List ℕ) Refusal) (e : ImportDirectoryEntry) (name : List ℕ) (x : ImportRecordView)
    → (r >>= λ lookups. Ok (Some (record { import_directory_entry = e; name = name; lookups = lookups }))) ≡ Ok (Some x) → (x.import_directory_entry ≡ e) × (x.name ≡ name)
after_lookups (Ok lookups) e name x is =
    let same : x ≡ record { import_directory_entry = e; name = name; lookups = lookups } = cc in
    (ap (λ (y : ImportRecordView). y.import_directory_entry) same, ap (λ (y : ImportRecordView). y.name) same)
after_lookups (Err refusal) e name x is = absurd cc

named_there : (offset : ℕ → Option ℕ) (w : ℕ) (b : List ℕ) (e : ImportDirectoryEntry) (x : ImportRecordView) → import_record offset w b e ≡ Ok (Some x) → name_read_of offset b x ≡ Some x.name
unfolding import_record
named_there offset w b e x is =
    let at = after_mapped (offset e.name_rva) _ x is in
    let text = after_name (text_at b at.0) _ x at.2 in
    let fields = after_lookups (lookups_at w b (offset (lookups_rva e))) e text.0 x text.2 in
    ap (λ (i : ImportDirectoryEntry). option_and_then (text_at b) (offset i.name_rva)) fields.0
    ∙ ap (option_and_then (text_at b)) at.1
    ∙ text.1
    ∙ ap (λ (l : List ℕ). Some l) (sym fields.1)

read_there : (offset : ℕ → Option ℕ) (w : ℕ) (b : List ℕ) (p : ℕ) (x : ImportRecordView) → import_record_at offset w b p ≡ Ok (Some x) → name_read_of offset b x ≡ Some x.name
unfolding import_record_at
read_there offset w b p x is = named_there offset w b (import_entry b p) x (after_last (is_last (import_entry b p)) _ x (after_bytes (holds b p 20) (import_entry b p) (λ e. cond (is_last e) (Ok None) (import_record offset w b e)) x is))

names_there : (offset : ℕ → Option ℕ) (b : List ℕ) (records : List ImportRecordView) → All (λ r. name_read_of offset b r ≡ Some r.name) records → filter_map (name_read_of offset b) records ≡ map (λ r. r.name) records
names_there offset b [] all = refl
names_there offset b (r ∷ records) all =
    let first : name_read_of offset b r ≡ Some r.name = All-head (λ r. name_read_of offset b r ≡ Some r.name) r records all in
    ap (λ t. cons_option t (filter_map (name_read_of offset b) records)) first
    ∙ ap (λ l. r.name ∷ l) (names_there offset b records (All-tail (λ r. name_read_of offset b r ≡ Some r.name) r records all))

names_of_records : (offset : ℕ → Option ℕ) (w : ℕ) (b : List ℕ) (p : ℕ) (records : List ImportRecordView) → import_records offset w b p ≡ Ok records → filter_map (name_read_of offset b) records ≡ map (λ r. r.name) records
unfolding import_records
names_of_records offset w b p records is = names_there offset b records
    (all_gathered (λ r. name_read_of offset b r ≡ Some r.name) (each (λ i. import_record_at offset w b (p + 20 * i)) (suc (length b))) records
    (all_each (IsOf (λ r. name_read_of offset b r ≡ Some r.name)) (λ i. import_record_at offset w b (p + 20 * i)) (suc (length b)) (λ i x is. read_there offset w b (p + 20 * i) x is)) is)

from_mapped : (offset : ℕ → Option ℕ) (o : Option ℕ) (w : ℕ) (b : List ℕ) (records : List ImportRecordView) → (mapped o >>= import_records offset w b) ≡ Ok records → filter_map (name_read_of offset b) records ≡ map (λ r. r.name) records
from_mapped offset None w b records is = absurd cc
from_mapped offset (Some p) w b records is = names_of_records offset w b p records is

pub names_read_again : (offset : ℕ → Option ℕ) (w : ℕ) (b : List ℕ) (rva : ℕ) (records : List ImportRecordView) → import_data_at offset w b rva ≡ Ok records → filter_map (name_read_of offset b) records ≡ map (λ r. r.name) records
names_read_again offset w b rva records is = from_mapped offset (offset rva) w b records is
