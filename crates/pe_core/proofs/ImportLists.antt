-- The entries of an import's list and the records of the directory, read from the front.
use Rattle.std.proofs.Common.{◌≡◌, ℕ, suc, ◌+◌, ◌*◌, ◌-◌, ◌^◌, ◌<◌, ◌≤◌, Bool, true, false, cond, List, [], ◌∷◌, ◌++◌, map, length, get_or, drop, Option, Some, None, Ok, Err, refl, sym, ap, ◌∙◌, arith, inl, inr, eq-zero-or-pos, length-append}
use Rattle.std.specs.Prelude.{nat_le}
use Rattle.std.specs.Borrow.{Bor}
use Rattle.std.specs.Option.{option_map}
use Rattle.std.proofs.Math.Nat.{mul-suc, mul-le-mul_right}
use Rattle.std.proofs.lemmas.Bool.Decides.{nat_tests}
use Rattle.std.proofs.Math.Seq.{drop-cons}
use Rattle.std.proofs.lemmas.List.{append-nil, drop_all, get_or-map, length-map, map-append}
use Rattle.pe_core.proofs.EntryItems.{length-each, get_or-each}
use Rattle.pe_core.specs.declared.error.Error.{Error}
use Rattle.pe_core.specs.declared.error.Error.TheVariants as errors
use Rattle.pe_core.specs.declared.import_list.Entry.{Entry}
use Rattle.pe_core.specs.declared.import_list.Import.{Import}
use Rattle.pe_core.specs.declared.import.ImportDirectoryEntry.{ImportDirectoryEntry}
use Rattle.pe_core.specs.declared.import.SyntheticImportDirectoryEntry.{SyntheticImportDirectoryEntry}
use Rattle.pe_core.specs.Bytes.{le, holds, range, record_at}
use Rattle.pe_core.specs.Gathered.{all_or_refusal, with_rest}
use Rattle.pe_core.specs.ImportSteps.{AreEntryNames, AreNames, StandInFront, entry_view, hint_offset_of}
use Rattle.pe_core.specs.Imports.{EntryView, ImportRecordView, ImportView, import_of, import_view, lookup_at, lookup_entries, lookups_at, import_record, import_record_at, import_record_view, import_records, is_last}
use Rattle.pe_core.specs.Records.{import_entry}
use Rattle.pe_core.specs.Refusals.{Refusal, Short, UnlessMemory, kind_of, ◌>>=◌}
use Rattle.pe_core.specs.Rows.{each}
use Rattle.pe_core.specs.SectionIndex.{offset_or_end}
use Rattle.pe_core.specs.Text.{text_at, texts_of}
use Rattle.pe_core.proofs.ExportLists.{text_or_end}
use Rattle.pe_core.proofs.Gathering.{Gathered, gathered-start, gathered-more, gathered-done, gathered-refused, with_none, with_one}

-- the first k entries are there and none is zero
pub record EntriesRead (w : ℕ) (b : List ℕ) (p k : ℕ) : Type 0 where
  pub entries : List ℕ
  pub many : length entries ≡ k
  pub few : k ≤ length b
  pub inside : 0 < k → p + w * k ≤ length b
  pub gathered : Gathered (each (λ k. lookup_at w b (p + w * k)) (suc (length b))) k entries

pub entries-start : (w : ℕ) (b : List ℕ) (p : ℕ) → EntriesRead w b p 0
entries-start w b p = record { entries = []; many = refl; few = omega arith; inside = λ h. absurd (omega arith); gathered = gathered-start _ }

entry-some : (w : ℕ) (b : List ℕ) (p : ℕ) → p + w ≤ length b → 0 < le b p w → lookup_at w b p ≡ Ok (Some (le b p w))
entry-some w b p le some = grind (arith, nat_tests)

entry-none : (w : ℕ) (b : List ℕ) (p : ℕ) → p + w ≤ length b → le b p w ≡ 0 → lookup_at w b p ≡ Ok None
entry-none w b p le none = grind (arith, nat_tests)

entry-cut : (w : ℕ) (b : List ℕ) (p : ℕ) → length b < p + w → lookup_at w b p ≡ Err Short
entry-cut w b p lt = grind (arith, nat_tests)

step_size : (w k : ℕ) → w * (k + 1) ≡ w * k + w
step_size w k = let e : k + 1 ≡ suc k = omega arith in ap (λ i. w * i) e ∙ mul-suc w k

-- so many steps take as many bytes at least
room : (w k : ℕ) → 0 < w → k ≤ w * k
room w k some = omega (arith, mul-le-mul_right {m = 1} {n = w} k some)

pub entries-more : (w : ℕ) (b : List ℕ) (p k : ℕ) → EntriesRead w b p k → 0 < w → p + w * k + w ≤ length b → 0 < le b (p + w * k) w → EntriesRead w b p (k + 1)
entries-more w b p k r some le_end entry =
    let left : k < suc (length b) = omega (arith, r.few) in
    let here : lookup_at w b (p + w * k) ≡ Ok (Some (le b (p + w * k) w)) = entry-some w b (p + w * k) le_end entry in
    record {
      entries = r.entries ++ le b (p + w * k) w ∷ [];
      many = length-append r.entries (le b (p + w * k) w ∷ []) ∙ (omega (arith, r.many));
      few = omega (arith, room w (k + 1) some, step_size w k, le_end);
      inside = λ h. omega (arith, step_size w k, le_end);
      gathered = gathered-more (λ i. lookup_at w b (p + w * i)) (suc (length b)) k r.entries (le b (p + w * k) w) r.gathered left here;
    }

pub entries-done : (w : ℕ) (b : List ℕ) (p k : ℕ) → EntriesRead w b p k → p + w * k + w ≤ length b → le b (p + w * k) w ≡ 0 → lookups_at w b (Some p) ≡ Ok (range b p (w * k))
unfolding lookup_entries
entries-done w b p k r le_end none =
    let left : k < suc (length b) = omega (arith, r.few) in
    ap (λ r. r >>= λ (entries : List ℕ). Ok (range b p (w * length entries))) (gathered-done (λ i. lookup_at w b (p + w * i)) (suc (length b)) k r.entries r.gathered left (entry-none w b (p + w * k) le_end none))
    ∙ ap (λ n. Ok (range b p (w * n))) r.many

-- what a read of bytes is refused as
refused_cut : {Y : Type 0} (t : Bool) (e : Refusal) (y : Y) → cond t (Ok y) (Err Short) ≡ Err e → (t ≡ false) × (Short ≡ e)
refused_cut true e y is = absurd cc
refused_cut false e y is = (refl, cc)

cut : (n p w : ℕ) → nat_le (p + w) n ≡ false → n < p + w
cut n p w is = grind (arith, nat_tests)

pub entries-refused : (w : ℕ) (b : List ℕ) (p k : ℕ) (e : Refusal) (u : Unit {0}) → EntriesRead w b p k → record_at b (p + w * k) w u ≡ Err e → lookups_at w b (Some p) ≡ Err e
unfolding lookup_entries
entries-refused w b p k e u r is =
    let left : k < suc (length b) = omega (arith, r.few) in
    let short = refused_cut (holds b (p + w * k) w) e u is in
    let here : lookup_at w b (p + w * k) ≡ Err e = entry-cut w b (p + w * k) (cut (length b) (p + w * k) w short.0) ∙ ap (λ (x : Refusal). Err x) short.1 in
    ap (λ r. r >>= λ (entries : List ℕ). Ok (range b p (w * length entries))) (gathered-refused (λ i. lookup_at w b (p + w * i)) (suc (length b)) k r.entries e r.gathered left here)

pub ruleset entries_read = (entries-start, entries-more, entries-done, entries-refused)

-- ---- the records of the directory

few_records : (b : List ℕ) (p n : ℕ) → StandInFront b p n → n ≤ length b
few_records b p n s = elim (eq-zero-or-pos n) [
  | inl z ↦ omega (arith, z)
  | inr some ↦ omega (arith, s.there (n - 1) (omega arith))
]

record-there : (offset : ℕ → Option ℕ) (w : ℕ) (b : List ℕ) (p : ℕ) (last : Bool) → p + 20 ≤ length b → is_last (import_entry b p) ≡ last → import_record_at offset w b p ≡ cond last (Ok None) (import_record offset w b (import_entry b p))
unfolding import_record_at
record-there offset w b p last le_end is =
    let here : holds b p 20 ≡ true = grind (arith, nat_tests) in
    rw (here, is) refl

record-cut : (offset : ℕ → Option ℕ) (w : ℕ) (b : List ℕ) (p : ℕ) (e : Refusal) (u : Unit {0}) → record_at b p 20 u ≡ Err e → import_record_at offset w b p ≡ Err e
unfolding import_record_at
record-cut offset w b p e u is =
    let short = refused_cut (holds b p 20) e u is in
    rw (short.0, short.1) refl

-- these are the first i records, and none ends the directory
pub record RecordsRead (offset : ℕ → Option ℕ) (w : ℕ) (b : List ℕ) (p i : ℕ) (xs : List ImportRecordView) : Type 0 where
  pub gathered : Gathered (each (λ k. import_record_at offset w b (p + 20 * k)) (suc (length b))) i xs

pub records-start : (offset : ℕ → Option ℕ) (w : ℕ) (b : List ℕ) (p : ℕ) → RecordsRead offset w b p 0 []
records-start offset w b p = record { gathered = gathered-start _ }

pub records-pushed : (offset : ℕ → Option ℕ) (w : ℕ) (b : List ℕ) (p n i : ℕ) (items pushed : List SyntheticImportDirectoryEntry) (r : SyntheticImportDirectoryEntry) (entry : ImportDirectoryEntry)
    → StandInFront b p n → i < n → RecordsRead offset w b p i (map import_record_view items)
    → entry ≡ import_entry b (p + 20 * i) → import_record offset w b entry ≡ Ok (Some (import_record_view r)) → pushed ≡ items ++ r ∷ []
    → RecordsRead offset w b p (i + 1) (map import_record_view pushed)
records-pushed offset w b p n i items pushed r entry s lt g at is push =
    let row : import_record_at offset w b (p + 20 * i) ≡ Ok (Some (import_record_view r)) = record-there offset w b (p + 20 * i) false (s.there i lt) (s.go_on i lt) ∙ ap (import_record offset w b) (sym at) ∙ is in
    let more = gathered-more (λ k. import_record_at offset w b (p + 20 * k)) (suc (length b)) i (map import_record_view items) (import_record_view r) g.gathered (omega (arith, lt, few_records b p n s)) row in
    rw (push, map-append import_record_view items (r ∷ [])) (record { gathered = more })

pub records-refused : (offset : ℕ → Option ℕ) (w : ℕ) (b : List ℕ) (p n i : ℕ) (xs : List ImportRecordView) (e : Refusal) (entry : ImportDirectoryEntry)
    → StandInFront b p n → i < n → RecordsRead offset w b p i xs
    → entry ≡ import_entry b (p + 20 * i) → import_record offset w b entry ≡ Err e → import_records offset w b p ≡ Err e
unfolding import_records
records-refused offset w b p n i xs e entry s lt g at is =
    let row : import_record_at offset w b (p + 20 * i) ≡ Err e = record-there offset w b (p + 20 * i) false (s.there i lt) (s.go_on i lt) ∙ ap (import_record offset w b) (sym at) ∙ is in
    gathered-refused (λ k. import_record_at offset w b (p + 20 * k)) (suc (length b)) i xs e g.gathered (omega (arith, lt, few_records b p n s)) row

pub records-cut : (offset : ℕ → Option ℕ) (w : ℕ) (b : List ℕ) (p n i : ℕ) (xs : List ImportRecordView) (e : Refusal) (u : Unit {0})
    → StandInFront b p n → i ≡ n → RecordsRead offset w b p i xs
    → record_at b (p + 20 * n) 20 u ≡ Err e → import_records offset w b p ≡ Err e
unfolding import_records
records-cut offset w b p n i xs e u s end g is =
    let row : import_record_at offset w b (p + 20 * i) ≡ Err e = ap (λ k. import_record_at offset w b (p + 20 * k)) end ∙ record-cut offset w b (p + 20 * n) e u is in
    gathered-refused (λ k. import_record_at offset w b (p + 20 * k)) (suc (length b)) i xs e g.gathered (omega (arith, end, few_records b p n s)) row

given : {Y : Type 0} (n p w : ℕ) (y z : Y) → cond (nat_le (p + w) n) (Ok y) (Err Short) ≡ Ok z → p + w ≤ n
given n p w y z is = grind (arith, nat_tests)

pub records-done : (offset : ℕ → Option ℕ) (w : ℕ) (b : List ℕ) (p n i : ℕ) (xs : List ImportRecordView) (u v : Unit {0})
    → StandInFront b p n → i ≡ n → RecordsRead offset w b p i xs
    → record_at b (p + 20 * n) 20 u ≡ Ok v → import_records offset w b p ≡ Ok xs
unfolding import_records
records-done offset w b p n i xs u v s end g is =
    let le_end : p + 20 * n + 20 ≤ length b = given (length b) (p + 20 * n) 20 u v is in
    let row : import_record_at offset w b (p + 20 * i) ≡ Ok None = ap (λ k. import_record_at offset w b (p + 20 * k)) end ∙ record-there offset w b (p + 20 * n) true le_end (s.last le_end) in
    gathered-done (λ k. import_record_at offset w b (p + 20 * k)) (suc (length b)) i xs g.gathered (omega (arith, end, few_records b p n s)) row

pub unless_memory : (e : Error) (P : Type 0) → P → UnlessMemory e P
unless_memory (errors.Memory m) P x = tt
unless_memory other P x = x

-- the same of an error
pub refused-in_record : (offset : ℕ → Option ℕ) (w : ℕ) (b : List ℕ) (p n i : ℕ) (xs : List ImportRecordView) (e : Error) (entry : ImportDirectoryEntry)
    → StandInFront b p n → i < n → RecordsRead offset w b p i xs → entry ≡ import_entry b (p + 20 * i) → import_record offset w b entry ≡ Err (kind_of e) → UnlessMemory e (import_records offset w b p ≡ Err (kind_of e))
refused-in_record offset w b p n i xs e entry s lt g at is = unless_memory e _ (records-refused offset w b p n i xs (kind_of e) entry s lt g at is)

pub refused-at_end : (offset : ℕ → Option ℕ) (w : ℕ) (b : List ℕ) (p n i : ℕ) (xs : List ImportRecordView) (e : Error) (u : Unit {0})
    → StandInFront b p n → i ≡ n → RecordsRead offset w b p i xs → record_at b (p + 20 * n) 20 u ≡ Err (kind_of e) → UnlessMemory e (import_records offset w b p ≡ Err (kind_of e))
refused-at_end offset w b p n i xs e u s end g is = unless_memory e _ (records-cut offset w b p n i xs (kind_of e) u s end g is)

pub ruleset records_read = (records-start, records-pushed, refused-in_record, refused-at_end, records-done)

-- the texts at the offsets of the names are the names
pub names_are : (offset : ℕ → Option ℕ) (b : List ℕ) (p n : ℕ) (offsets : List ℕ) (names : List (Option (Bor (List ℕ)))) → length b < 2 ^ 64
    → offsets ≡ each (λ i. offset_or_end (offset (import_entry b (p + 20 * i)).name_rva)) n → texts_of names ≡ map (text_at b) offsets → AreNames offset b p names
names_are offset b p n offsets names small are texts = record {
  are = λ i d lt.
      let f : ℕ → ℕ = λ i. offset_or_end (offset (import_entry b (p + 20 * i)).name_rva) in
      let many : length names ≡ n = sym (length-map names (option_map (λ (s : Bor (List ℕ)). s.now))) ∙ ap length texts ∙ length-map offsets (text_at b) ∙ ap length are ∙ length-each f n in
      sym (get_or-map (option_map (λ (s : Bor (List ℕ)). s.now)) names i d None lt)
      ∙ ap (λ (l : List (Option (List ℕ))). get_or l i None) (texts ∙ ap (map (text_at b)) are)
      ∙ get_or-map (text_at b) (each f n) i 0 None (omega (arith, lt, many, length-each f n))
      ∙ ap (text_at b) (get_or-each f n i 0 (omega (arith, lt, many)))
      ∙ text_or_end b (offset (import_entry b (p + 20 * i)).name_rva) small;
}

pub as_many : (b : List ℕ) (n : ℕ) (f : ℕ → ℕ) (offsets : List ℕ) (names : List (Option (Bor (List ℕ)))) → offsets ≡ each f n → texts_of names ≡ map (text_at b) offsets → n ≡ length names
as_many b n f offsets names are texts = sym (ap length are ∙ length-each f n) ∙ sym (length-map offsets (text_at b)) ∙ sym (ap length texts) ∙ length-map names (option_map (λ (s : Bor (List ℕ)). s.now))

pub ruleset all_named = (names_are, as_many)

-- ---- the imports of all entries

-- these are the imports of the first i entries
pub record ImportsRead (offset : ℕ → Option ℕ) (w : ℕ) (b : List ℕ) (entries : List EntryView) (i : ℕ) (xs : List ImportView) : Type 0 where
  pub rest : with_rest xs (all_or_refusal (map (import_of offset w b) (drop i entries))) ≡ all_or_refusal (map (import_of offset w b) entries)

pub imports-start : (offset : ℕ → Option ℕ) (w : ℕ) (b : List ℕ) (entries : List EntryView) → ImportsRead offset w b entries 0 []
imports-start offset w b entries = record { rest = with_none (all_or_refusal (map (import_of offset w b) entries)) }

rest_of-entry : (offset : ℕ → Option ℕ) (w : ℕ) (b : List ℕ) (entries : List Entry) (i : ℕ) (entry : EntryView) (d : Entry) → i < length entries → entry ≡ entry_view (get_or entries i d)
    → drop i (map entry_view entries) ≡ entry ∷ drop (i + 1) (map entry_view entries)
rest_of-entry offset w b entries i entry d lt at =
    let after : suc i ≡ i + 1 = omega arith in
    drop-cons (map entry_view entries) i entry (omega (arith, lt, length-map entries entry_view))
    ∙ ap (λ x. x ∷ drop (suc i) (map entry_view entries)) (get_or-map entry_view entries i d entry lt ∙ sym at)
    ∙ ap (λ k. entry ∷ drop k (map entry_view entries)) after

pub imports-pushed : (offset : ℕ → Option ℕ) (w : ℕ) (b : List ℕ) (entries : List Entry) (i : ℕ) (items pushed : List Import) (r : Import) (entry : EntryView) (d : Entry)
    → i < length entries → ImportsRead offset w b (map entry_view entries) i (map import_view items) → entry ≡ entry_view (get_or entries i d)
    → import_of offset w b entry ≡ Ok (import_view r) → pushed ≡ items ++ r ∷ []
    → ImportsRead offset w b (map entry_view entries) (i + 1) (map import_view pushed)
imports-pushed offset w b entries i items pushed r entry d lt g at is push =
    let after : suc i ≡ i + 1 = omega arith in
    let next = rest_of-entry offset w b entries i entry d lt at in
    record {
      rest =
          ap (λ l. with_rest (map import_view l) (all_or_refusal (map (import_of offset w b) (drop (i + 1) (map entry_view entries))))) push
          ∙ ap (λ l. with_rest l (all_or_refusal (map (import_of offset w b) (drop (i + 1) (map entry_view entries))))) (map-append import_view items (r ∷ []))
          ∙ with_one (map import_view items) (import_view r) (all_or_refusal (map (import_of offset w b) (drop (i + 1) (map entry_view entries))))
          ∙ ap (λ x. with_rest (map import_view items) (all_or_refusal (x ∷ map (import_of offset w b) (drop (i + 1) (map entry_view entries))))) (sym is)
          ∙ ap (λ l. with_rest (map import_view items) (all_or_refusal (map (import_of offset w b) l))) (sym next)
          ∙ g.rest;
    }

pub imports-refused : (offset : ℕ → Option ℕ) (w : ℕ) (b : List ℕ) (entries : List Entry) (i : ℕ) (xs : List ImportView) (e : Error) (entry : EntryView) (d : Entry)
    → i < length entries → ImportsRead offset w b (map entry_view entries) i xs → entry ≡ entry_view (get_or entries i d)
    → import_of offset w b entry ≡ Err (kind_of e) → UnlessMemory e (all_or_refusal (map (import_of offset w b) (map entry_view entries)) ≡ Err (kind_of e))
imports-refused offset w b entries i xs e entry d lt g at is =
    let next = rest_of-entry offset w b entries i entry d lt at in
    unless_memory e _ (
    sym g.rest
    ∙ ap (λ l. with_rest xs (all_or_refusal (map (import_of offset w b) l))) next
    ∙ ap (λ x. with_rest xs (all_or_refusal (x ∷ map (import_of offset w b) (drop (i + 1) (map entry_view entries))))) is)

pub imports-done : (offset : ℕ → Option ℕ) (w : ℕ) (b : List ℕ) (entries : List Entry) (i : ℕ) (xs : List ImportView)
    → length entries ≤ i → ImportsRead offset w b (map entry_view entries) i xs → all_or_refusal (map (import_of offset w b) (map entry_view entries)) ≡ Ok xs
imports-done offset w b entries i xs end g =
    let none : drop i (map entry_view entries) ≡ [] = drop_all i (map entry_view entries) (omega (arith, end, length-map entries entry_view)) in
    sym g.rest ∙ ap (λ l. with_rest xs (all_or_refusal (map (import_of offset w b) l))) none ∙ ap (λ (l : List ImportView). Ok l) (append-nil xs)

pub ruleset imports_read = (imports-start, imports-pushed, imports-refused, imports-done)

-- the texts at the offsets of the names are the names
pub entry_names_are : (offset : ℕ → Option ℕ) (w : ℕ) (b : List ℕ) (entries : List Entry) (offsets : List ℕ) (names : List (Option (Bor (List ℕ))))
    → offsets ≡ map (hint_offset_of offset w) (map entry_view entries) → texts_of names ≡ map (text_at b) offsets → AreEntryNames offset w b entries names
entry_names_are offset w b entries offsets names are texts = record {
  are = λ i d e lt.
      let many : length names ≡ length entries = sym (length-map names (option_map (λ (s : Bor (List ℕ)). s.now))) ∙ ap length texts ∙ length-map offsets (text_at b) ∙ ap length are ∙ length-map (map entry_view entries) (hint_offset_of offset w) ∙ length-map entries entry_view in
      sym (get_or-map (option_map (λ (s : Bor (List ℕ)). s.now)) names i d None lt)
      ∙ ap (λ (l : List (Option (List ℕ))). get_or l i None) (texts ∙ ap (map (text_at b)) are)
      ∙ get_or-map (text_at b) (map (hint_offset_of offset w) (map entry_view entries)) i 0 None (omega (arith, lt, many, length-map (map entry_view entries) (hint_offset_of offset w), length-map entries entry_view))
      ∙ ap (text_at b) (get_or-map (hint_offset_of offset w) (map entry_view entries) i (entry_view e) 0 (omega (arith, lt, many, length-map entries entry_view)) ∙ ap (hint_offset_of offset w) (get_or-map entry_view entries i e (entry_view e) (omega (arith, lt, many))));
}
