-- The first entries of all records, and how many there are.
use Rattle.std.proofs.Common.{◌≡◌, ℕ, zero, suc, ◌+◌, ◌-◌, ◌/◌, ◌^◌, ◌<◌, ◌≤◌, List, [], ◌∷◌, ◌++◌, map, length, get_or, Option, Ok, take, drop, refl, sym, ap, subst, ◌∙◌, arith, ⊎_elim, length-append, append_assoc, zero-add}
use Rattle.std.specs.Prelude.{min}
use Rattle.std.proofs.lemmas.Bool.{cases_lt}
use Rattle.std.proofs.lemmas.List.{append-nil, drop_all, drop_more, take-append-le, take_all}
use Rattle.pe_core.proofs.EntryItems.{length-each}
use Rattle.pe_core.specs.Imports.{EntryView, ImportRecordView, first_imports, import_entries, import_entry_at, import_of, import_record_view, imports}
use Rattle.pe_core.specs.Gathered.{all_or_refusal}
use Rattle.pe_core.specs.Rows.{each}
use Rattle.pe_core.specs.declared.import.SyntheticImportDirectoryEntry.{SyntheticImportDirectoryEntry}

-- the entries of the records from record i on
abbrev left : ℕ → List SyntheticImportDirectoryEntry → ℕ → List EntryView
left w records i = import_entries w (map import_record_view (drop i records))

-- the number of entries of a record
abbrev many : ℕ → SyntheticImportDirectoryEntry → ℕ
many w r = length r.lookups.now / w

left-next : (w : ℕ) (records : List SyntheticImportDirectoryEntry) (i : ℕ) (d : SyntheticImportDirectoryEntry) → i < length records
    → left w records i ≡ each (import_entry_at w (import_record_view (get_or records i d))) (many w (get_or records i d)) ++ left w records (i + 1)
unfolding import_entries
left-next w records i d lt =
    ap (λ l. import_entries w (map import_record_view l)) (drop_more records i d lt)

left-none : (w : ℕ) (records : List SyntheticImportDirectoryEntry) (i : ℕ) → length records ≤ i → left w records i ≡ []
unfolding import_entries
left-none w records i le = ap (λ l. import_entries w (map import_record_view l)) (drop_all i records le)

empty_is : {X : Type 0} (xs : List X) → length xs ≡ 0 → xs ≡ []
empty_is [] e = refl
empty_is (x ∷ xs) e = absurd cc

-- ---- how many

-- so many are counted of the first i records
pub record EntriesCounted (w : ℕ) (records : List SyntheticImportDirectoryEntry) (i count : ℕ) : Type 0 where
  pub small : count ≤ 2 ^ 64 - 1
  pub rest : min (count + length (left w records i)) (2 ^ 64 - 1) ≡ min (length (import_entries w (map import_record_view records))) (2 ^ 64 - 1)

pub counted-start : (w : ℕ) (records : List SyntheticImportDirectoryEntry) → EntriesCounted w records 0 0
counted-start w records = record { small = omega arith; rest = ap (λ k. min k (2 ^ 64 - 1)) (zero-add (length (import_entries w (map import_record_view records)))) }

pub counted-more : (w : ℕ) (records : List SyntheticImportDirectoryEntry) (i count sum n : ℕ) (d : SyntheticImportDirectoryEntry) → EntriesCounted w records i count → i < length records
    → n ≡ many w (get_or records i d) → sum ≡ min (count + n) (2 ^ 64 - 1) → EntriesCounted w records (i + 1) sum
counted-more w records i count sum n d c lt is more =
    let there : length (left w records i) ≡ n + length (left w records (i + 1)) =
    ap length (left-next w records i d lt) ∙ length-append (each (import_entry_at w (import_record_view (get_or records i d))) (many w (get_or records i d))) (left w records (i + 1))
    ∙ ap (λ k. k + length (left w records (i + 1))) (length-each (import_entry_at w (import_record_view (get_or records i d))) (many w (get_or records i d)) ∙ sym is) in
    record { small = omega (arith, more); rest = omega (arith, c.rest, there, more) }

pub counted-done : (w : ℕ) (records : List SyntheticImportDirectoryEntry) (i count : ℕ) → EntriesCounted w records i count → length records ≤ i
    → count ≡ min (length (import_entries w (map import_record_view records))) (2 ^ 64 - 1)
counted-done w records i count c le =
    let none : length (left w records i) ≡ 0 = ap length (left-none w records i le) in
    let all : count ≡ min (count + length (left w records i)) (2 ^ 64 - 1) = omega (arith, none, c.small) in
    all ∙ c.rest

pub ruleset entries_counted = (counted-start, counted-more, counted-done)

-- without an entry there are no imports; nor are there any among the first 0
pub none_imported : (offset : ℕ → Option ℕ) (w : ℕ) (b : List ℕ) (records : List ImportRecordView) → min (length (import_entries w records)) (2 ^ 64 - 1) ≡ 0 → imports offset w b records ≡ Ok []
unfolding imports
none_imported offset w b records none =
    let empty : import_entries w records ≡ [] = empty_is (import_entries w records) (omega (arith, none)) in
    ap (λ (es : List EntryView). all_or_refusal (map (import_of offset w b) es)) empty

pub none_among : (offset : ℕ → Option ℕ) (w : ℕ) (b : List ℕ) (records : List ImportRecordView) (most : ℕ) → min most (min (length (import_entries w records)) (2 ^ 64 - 1)) ≡ 0 → first_imports offset w b records most ≡ Ok []
unfolding first_imports
none_among offset w b records most none =
    let es : List EntryView = import_entries w records in
    let taken : take most es ≡ [] = ⊎_elim
    (λ (h : most < length es). let zero_most : most ≡ 0 = omega (arith, h, none) in ap (λ (n : ℕ). take n es) zero_most)
    (λ (h : length es ≤ most). take_all most es h ∙ empty_is es (omega (arith, h, none)))
    (cases_lt most (length es)) in
    ap (λ (xs : List EntryView). all_or_refusal (map (import_of offset w b) xs)) taken

-- ---- the first of them

-- these are the first entries of the first i records, at most so many
pub record EntriesRead (w : ℕ) (records : List SyntheticImportDirectoryEntry) (most i : ℕ) (entries : List EntryView) : Type 0 where
  pub few : length entries ≤ most
  pub rest : entries ++ take (most - length entries) (left w records i) ≡ take most (import_entries w (map import_record_view records))

pub read-start : (w : ℕ) (records : List SyntheticImportDirectoryEntry) (most : ℕ) → EntriesRead w records most 0 []
read-start w records most =
    let all : most - 0 ≡ most = omega arith in
    record { few = omega arith; rest = ap (λ k. take k (import_entries w (map import_record_view records))) all }

take-each : {X : Type 0} (f : ℕ → X) (n m : ℕ) → m ≤ n → take m (each f n) ≡ each f m
unfolding each
take-each f zero m le =
    let none : m ≡ 0 = omega arith in
    subst (λ i. take i (each f zero) ≡ each f i) (sym none) refl
take-each f (suc n) m le = ⊎_elim
    (λ (h : m < suc n). take-append-le m (each f n) (f n ∷ []) (omega (arith, h, length-each f n)) ∙ take-each f n m (omega (arith, h)))
    (λ (h : suc n ≤ m).
    let all : suc n ≡ m = omega (arith, h, le) in
    take_all m (each f (suc n)) (omega (arith, h, length-each f (suc n))) ∙ ap (each f) all)
    (cases_lt m (suc n))

take-past : {X : Type 0} (xs ys : List X) (m k : ℕ) → m ≡ length xs + k → take m (xs ++ ys) ≡ xs ++ take k ys
take-past [] ys m k e =
    let same : m ≡ k = omega (arith, e) in
    ap (λ i. take i ys) same
take-past (x ∷ xs) ys m k e =
    let same : m ≡ suc (length xs + k) = omega (arith, e) in
    ap (λ i. take i (x ∷ (xs ++ ys))) same ∙ ap (λ l. x ∷ l) (take-past xs ys (length xs + k) k refl)

pub read-more : (w : ℕ) (records : List SyntheticImportDirectoryEntry) (most i n : ℕ) (entries pushed : List EntryView) (d : SyntheticImportDirectoryEntry) → EntriesRead w records most i entries → i < length records
    → n ≡ min (many w (get_or records i d)) (most - length entries) → pushed ≡ entries ++ each (import_entry_at w (import_record_view (get_or records i d))) n → EntriesRead w records most (i + 1) pushed
read-more w records most i n entries pushed d r lt is more =
    let record_of : ImportRecordView = import_record_view (get_or records i d) in
    let room : ℕ = most - length entries in
    let long : length pushed ≡ length entries + n = ap length more ∙ length-append entries (each (import_entry_at w record_of) n) ∙ ap (λ k. length entries + k) (length-each (import_entry_at w record_of) n) in
    let split : take room (left w records i) ≡ each (import_entry_at w record_of) n ++ take (most - length pushed) (left w records (i + 1)) =
    ap (take room) (left-next w records i d lt)
    ∙ ⊎_elim
    (λ (h : room < many w (get_or records i d)).
    let all : n ≡ room = omega (arith, is, h) in
    let full : most - length pushed ≡ 0 = omega (arith, long, all, r.few) in
    take-append-le room (each (import_entry_at w record_of) (many w (get_or records i d))) (left w records (i + 1)) (omega (arith, h, length-each (import_entry_at w record_of) (many w (get_or records i d))))
    ∙ take-each (import_entry_at w record_of) (many w (get_or records i d)) room (omega (arith, h))
    ∙ ap (each (import_entry_at w record_of)) (sym all)
    ∙ sym (append-nil (each (import_entry_at w record_of) n))
    ∙ ap (λ k. each (import_entry_at w record_of) n ++ take k (left w records (i + 1))) (sym full))
    (λ (h : many w (get_or records i d) ≤ room).
    let all : many w (get_or records i d) ≡ n = omega (arith, is, h) in
    take-past (each (import_entry_at w record_of) (many w (get_or records i d))) (left w records (i + 1)) room (most - length pushed) (omega (arith, long, all, r.few, h, length-each (import_entry_at w record_of) (many w (get_or records i d))))
    ∙ ap (λ k. each (import_entry_at w record_of) k ++ take (most - length pushed) (left w records (i + 1))) all)
    (cases_lt room (many w (get_or records i d))) in
    record {
      few = omega (arith, long, is, r.few);
      rest =
          ap (λ l. l ++ take (most - length pushed) (left w records (i + 1))) more
          ∙ append_assoc entries (each (import_entry_at w record_of) n) (take (most - length pushed) (left w records (i + 1)))
          ∙ ap (λ l. entries ++ l) (sym split)
          ∙ r.rest;
    }

pub read-done : (w : ℕ) (records : List SyntheticImportDirectoryEntry) (most i : ℕ) (entries : List EntryView) → EntriesRead w records most i entries → length records ≤ i
    → entries ≡ take most (import_entries w (map import_record_view records))
read-done w records most i entries r le =
    sym (append-nil entries) ∙ ap (λ l. entries ++ l) (sym (take_all (most - length entries) [] (omega arith)) ∙ ap (take (most - length entries)) (sym (left-none w records i le))) ∙ r.rest

pub ruleset entries_read = (read-start, read-more, read-done)

-- ---- all of them

pub all_are_first : (offset : ℕ → Option ℕ) (w : ℕ) (b : List ℕ) (records : List ImportRecordView) (most : ℕ) → length (import_entries w records) ≤ most → first_imports offset w b records most ≡ imports offset w b records
unfolding first_imports imports
all_are_first offset w b records most le = ap (λ l. all_or_refusal (map (import_of offset w b) l)) (take_all most (import_entries w records) le)
