-- The first refusal among imports is the first among those whose entries no record before has.
use Rattle.std.proofs.Common.{◌≡◌, ◌≢◌, ℕ, zero, suc, ◌+◌, ◌-◌, ◌*◌, ◌/◌, ◌<◌, ◌≤◌, Bool, false, List, [], ◌∷◌, ◌++◌, map, length, get_or, take, replicate, Option, Some, None, Result, Ok, Err, refl, sym, ap, subst, ◌∙◌, arith, ⊎_elim, rules}
use Rattle.std.specs.Borrow.{Bor}
use Rattle.pe_image.proofs.Cited.{max, slice_index, slice_range, slice_set, IsOk, cases_lt, flat_map-append, append-nil, get_or-map}
use Rattle.pe_image.proofs.Cited.{get_or-replicate, get_or-set_other, get_or-set_same, get_or_past, length-map, length-replicate}
use Rattle.pe_image.proofs.Cited.{length-set, map-append, places, take_all, take_more, each_same, length_range, le, range}
use Rattle.pe_image.proofs.Cited.{all_or_refusal, with_rest, EntryView, ImportRecordView, ImportView, import_entries}
use Rattle.pe_image.proofs.Cited.{import_entry_at, import_of, import_record_view, imports, entry_size, Refusal, ◌>>=◌, each}
use Rattle.pe_image.proofs.Cited.{AllStand, StandsAt, counts_after, entries_left, if_listed, list_offset, tested}
use Rattle.std.proofs.lemmas.Nat.{column_fits, div-mul-add}
use Rattle.pe_core.proofs.EntryLists.{some_size}
use Rattle.pe_image.proofs.StandingLists.{le_of_range}
use Rattle.pe_core.specs.declared.import.SyntheticImportDirectoryEntry.{SyntheticImportDirectoryEntry}

-- ---- the first refusal of results in turn

abbrev Tested : Type 0
Tested = Result (List ImportView) Refusal

abbrev tests : List (Result ImportView Refusal) → Tested
tests rs = if_listed false (all_or_refusal rs)

one_more : (x : ImportView) (r : Tested) → if_listed false (with_rest (x ∷ []) r) ≡ if_listed false r
one_more x r = grind arith

both : (xs ys : List (Result ImportView Refusal)) → tests (xs ++ ys) ≡ (tests xs >>= λ u. tests ys)
both [] ys = refl
both (Ok x ∷ xs) ys = one_more x (all_or_refusal (xs ++ ys)) ∙ both xs ys ∙ ap (λ (r : Tested). r >>= λ u. tests ys) (sym (one_more x (all_or_refusal xs)))
both (Err e ∷ xs) ys = refl

settled : (r : Tested) → (if_listed false r >>= λ u. Ok []) ≡ if_listed false r
settled r = grind arith

passed : (r s : Tested) → IsOk (r >>= λ u. s) → IsOk r × IsOk s
passed r s h = grind arith

-- what follows counts only where nothing is refused before
once_passed : (r s t : Tested) → (IsOk r → s ≡ t) → (r >>= λ u. s) ≡ (r >>= λ u. t)
once_passed r s t h = grind arith

-- ---- of entries in a row

abbrev Read : Type 0
Read = EntryView → Result ImportView Refusal

abbrev run : Read → (ℕ → EntryView) → ℕ → Tested
run F f n = tests (map F (each f n))

one_last : (F : Read) (f : ℕ → EntryView) (n : ℕ) → run F f (suc n) ≡ (run F f n >>= λ u. tests (F (f n) ∷ []))
unfolding each
one_last F f n = ap tests (map-append F (each f n) (f n ∷ [])) ∙ both (map F (each f n)) (F (f n) ∷ [])

-- the last entries add nothing where they are accepted
shortened : (F : Read) (f : ℕ → EntryView) (d n : ℕ) → ((k : ℕ) → d ≤ k → k < d + n → IsOk (F (f k))) → run F f (d + n) ≡ run F f d
shortened F f d zero h = let none : d + 0 ≡ d = omega arith in ap (run F f) none
shortened F f d (suc n) h =
    let more : d + suc n ≡ suc (d + n) = omega arith in
    ap (run F f) more
    ∙ one_last F f (d + n)
    ∙ ap (λ (r : Tested). r >>= λ u. tests (F (f (d + n)) ∷ [])) (shortened F f d n (λ k from lt. h k from (omega (arith, lt))))
    ∙ ap (λ (r : Tested). run F f d >>= λ u. r) (grind (arith, h (d + n) (omega arith) (omega arith)))
    ∙ settled (all_or_refusal (map F (each f d)))

each_accepted : (F : Read) (f : ℕ → EntryView) (n : ℕ) → IsOk (run F f n) → (k : ℕ) → k < n → IsOk (F (f k))
each_accepted F f zero h k lt = absurd (omega (arith, lt))
each_accepted F f (suc n) h k lt =
    let parts = passed (run F f n) (tests (F (f n) ∷ [])) (subst (λ (r : Tested). IsOk r) (one_last F f n) h) in
    ⊎_elim
    (λ (l : k < n). each_accepted F f n parts.0 k l)
    (λ (g : n ≤ k). let same : n ≡ k = omega (arith, lt, g) in subst (λ (i : ℕ). IsOk (F (f i))) same (grind (arith, parts.1)))
    (cases_lt k n)

-- ---- an entry's number decides whether its import is refused

same_entry : (offset : ℕ → Option ℕ) (w : ℕ) (b : List ℕ) (n : ℕ) (d e : EntryView) → d.entry ≡ n → e.entry ≡ n → IsOk (import_of offset w b d) → IsOk (import_of offset w b e)
unfolding import_of
same_entry offset w b n d e dn en ok = search (rules, arith)

-- an entry with this number is accepted
abbrev Accepted : (ℕ → Option ℕ) → ℕ → List ℕ → ℕ → Type 0
Accepted offset w b n = IsOk (import_of offset w b (record { dll = []; entry = n; rva = 0 }))

-- so many entries before an offset are accepted
abbrev AcceptedBefore : (ℕ → Option ℕ) → ℕ → List ℕ → ℕ → ℕ → Type 0
AcceptedBefore offset w b end count = (j : ℕ) → 0 < j → j ≤ count → Accepted offset w b (le b (end - w * j) w)

-- ---- lists where they stand

le_of_front : (b : List ℕ) (m p n : ℕ) → m ≤ length b → p + n ≤ m → le (slice_range b 0 m) p n ≡ le b p n
unfolding le
le_of_front b m p zero h i = refl
le_of_front b m p (suc n) h i = let fewer : le (slice_range b 0 m) p n ≡ le b p n = le_of_front b m p n h (omega (arith, i)) in grind (arith, places)

whole : (w n length : ℕ) → 0 < w → length ≡ w * n → length / w ≡ n
whole w n length some is = ap (λ (m : ℕ). m / w) (is ∙ grind arith) ∙ div-mul-add n w 0 some

-- the entries that are left of a record are its first ones
first_entries : (w d n : ℕ) (r : ImportRecordView) → 0 < w → d ≤ n → length r.lookups ≡ w * n →
    (short : ImportRecordView) → short ≡ record r { lookups = slice_range r.lookups 0 (w * d) } → each (import_entry_at w short) (length short.lookups / w) ≡ each (import_entry_at w r) d
first_entries w d n r some few long short is =
    let fits : w * d ≤ length r.lookups = omega (arith, long, column_fits_all w d n few) in
    let left : length (slice_range r.lookups 0 (w * d)) ≡ w * d = grind (arith, places) in
    ap (λ (s : ImportRecordView). each (import_entry_at w s) (length s.lookups / w)) is
    ∙ ap (λ (m : ℕ). each (import_entry_at w (record r { lookups = slice_range r.lookups 0 (w * d) })) m) (whole w d _ some left)
    ∙ each_same _ _ d
    (λ k lt.
    ap (λ (e : ℕ). record { dll = r.name; entry = e; rva = r.import_directory_entry.address_table_rva + w * k })
    (le_of_front r.lookups (w * d) (w * k) w fits (column_fits w k w d lt (omega arith))))
  where
    column_fits_all : (w d n : ℕ) → d ≤ n → w * d ≤ w * n
    column_fits_all w d n few = let split : n ≡ d + (n - d) = omega (arith, few) in omega (arith, ap (λ (k : ℕ). w * k) split)

-- ---- records in turn

tested_more : (offset : ℕ → Option ℕ) (w : ℕ) (b : List ℕ) (records : List ImportRecordView) (r : ImportRecordView)
    → tested offset w b (records ++ r ∷ []) ≡ (tested offset w b records >>= λ u. run (import_of offset w b) (import_entry_at w r) (length r.lookups / w))
unfolding imports import_entries
tested_more offset w b records r = grind (arith, flat_map-append, append-nil, map-append, both)

-- the records that are kept have the first refusal of all of these, and where there is none, what was read is accepted
pub record Reduced (offset : ℕ → Option ℕ) (w : ℕ) (b : List ℕ) (records kept : List ImportRecordView) (counts : List ℕ) : Type 0 where
  pub long : length counts ≡ length b + 1
  pub same : tested offset w b kept ≡ tested offset w b records
  pub read : IsOk (tested offset w b records) → (end : ℕ) → AcceptedBefore offset w b end (slice_index counts end)

pub reduced-start : (offset : ℕ → Option ℕ) (w : ℕ) (b counts : List ℕ) (n : ℕ) → counts ≡ replicate n 0 → n ≡ length b + 1 → Reduced offset w b [] [] counts
reduced-start offset w b counts n is many = grind (arith, length-replicate, get_or-replicate, get_or_past, cases_lt)

entry_there : (w : ℕ) (b : List ℕ) (p n k end : ℕ) (r : ImportRecordView) → p + w * n ≤ length b → r.lookups ≡ range b p (w * n) → end ≡ p + w * n → k < n
    → (import_entry_at w r k).entry ≡ le b (end - w * (n - k)) w
entry_there w b p n k end r inside same is lt =
    ap (λ (l : List ℕ). le l (w * k) w) same ∙ le_of_range b p (w * n) (w * k) w inside (column_fits w k w n lt (omega arith))
    ∙ ap (λ (q : ℕ). le b q w) (sym (grind arith))

-- one more record whose list stands at an offset
listed_there : (offset : ℕ → Option ℕ) (w : ℕ) (b : List ℕ) (records kept : List ImportRecordView) (counts : List ℕ) (r short : ImportRecordView) (p n : ℕ) → 0 < w
    → Reduced offset w b records kept counts → p + w * n ≤ length b → r.lookups ≡ range b p (w * n) → length r.lookups ≡ w * n → length r.lookups / w ≡ n
    → short ≡ record r { lookups = slice_range r.lookups 0 (w * (n - slice_index counts (p + w * n))) }
    → Reduced offset w b (records ++ r ∷ []) (kept ++ short ∷ []) (slice_set counts (p + w * n) (max (slice_index counts (p + w * n)) n))
listed_there offset w b records kept counts r short p n some g inside same long many is = record {
  long = length-set counts end (max seen n) ∙ g.long;
  same =
      tested_more offset w b kept short
      ∙ ap (λ (t : Tested). t >>= λ u. run F (import_entry_at w short) (length short.lookups / w)) g.same
      ∙ ap (λ (es : List EntryView). tested offset w b records >>= λ u. tests (map F es)) (first_entries w left n r some (omega arith) long short is)
      ∙ once_passed (tested offset w b records) (run F f left) (run F f n) (λ ok. sym (last_accepted ok))
      ∙ ap (λ (m : ℕ). tested offset w b records >>= λ u. run F f m) (sym many)
      ∙ sym (tested_more offset w b records r);
  read = λ ok.
      let parts = passed (tested offset w b records) (run F f (length r.lookups / w)) (subst (λ (t : Tested). IsOk t) (tested_more offset w b records r) ok) in
      read_then parts.0 (subst (λ (m : ℕ). IsOk (run F f m)) many parts.1);
}
  where
    F : Read
    F = import_of offset w b

    f : ℕ → EntryView
    f = import_entry_at w r

    end : ℕ
    end = p + w * n

    seen : ℕ
    seen = slice_index counts end

    left : ℕ
    left = n - seen

    by_number : (k : ℕ) → k < n → Accepted offset w b (le b (end - w * (n - k)) w) → IsOk (F (f k))
    by_number k lt ok = same_entry offset w b (le b (end - w * (n - k)) w) (record { dll = []; entry = le b (end - w * (n - k)) w; rva = 0 }) (f k) refl (entry_there w b p n k end r inside same refl lt) ok

    to_number : (k : ℕ) → k < n → IsOk (F (f k)) → Accepted offset w b (le b (end - w * (n - k)) w)
    to_number k lt ok = same_entry offset w b (le b (end - w * (n - k)) w) (f k) (record { dll = []; entry = le b (end - w * (n - k)) w; rva = 0 }) (entry_there w b p n k end r inside same refl lt) refl ok

    last_accepted : IsOk (tested offset w b records) → run F f n ≡ run F f left
    last_accepted ok =
        let split : n ≡ left + (n - left) = omega arith in
        ap (run F f) split ∙ shortened F f left (n - left) (λ k from lt. by_number k (omega (arith, lt)) (g.read ok end (n - k) (omega (arith, lt)) (omega (arith, from))))

    read_there : IsOk (tested offset w b records) → IsOk (run F f n) → AcceptedBefore offset w b end (max seen n)
    read_there ok all j some_j few = ⊎_elim
        (λ (h : n < j). g.read ok end j some_j (omega (arith, h, few)))
        (λ (h : j ≤ n).
        let same_j : n - (n - j) ≡ j = omega (arith, h) in
        subst (λ (i : ℕ). Accepted offset w b (le b (end - w * i) w)) same_j (to_number (n - j) (omega (arith, some_j, h)) (each_accepted F f n all (n - j) (omega (arith, some_j, h)))))
        (cases_lt n j)

    at_end : slice_index (slice_set counts end (max seen n)) end ≡ max seen n
    at_end = get_or-set_same counts end (max seen n) 0 (omega (arith, g.long, inside))

    elsewhere : IsOk (tested offset w b records) → (other : ℕ) → other ≢ end → AcceptedBefore offset w b other (slice_index (slice_set counts end (max seen n)) other)
    elsewhere ok other differs = subst (AcceptedBefore offset w b other) (sym (get_or-set_other counts end other (max seen n) 0 differs)) (g.read ok other)

    read_then : IsOk (tested offset w b records) → IsOk (run F f n) → (other : ℕ) → AcceptedBefore offset w b other (slice_index (slice_set counts end (max seen n)) other)
    read_then ok all other = ⊎_elim
        (λ (h : other < end). elsewhere ok other (λ e. omega (arith, e, h)))
        (λ (h : end ≤ other). ⊎_elim
        (λ (l : end < other). elsewhere ok other (λ e. omega (arith, e, l)))
        (λ (l : other ≤ end). let here : end ≡ other = omega (arith, h, l) in
        subst (λ (q : ℕ). AcceptedBefore offset w b q (slice_index (slice_set counts end (max seen n)) q)) here (subst (AcceptedBefore offset w b end) (sym at_end) (read_there ok all)))
        (cases_lt end other))
        (cases_lt other end)

-- one more record
one_record : (offset : ℕ → Option ℕ) (w : ℕ) (b : List ℕ) (records kept : List ImportRecordView) (counts after : List ℕ) (r short : ImportRecordView) (at : Option ℕ) → 0 < w
    → Reduced offset w b records kept counts → StandsAt w b r.lookups at
    → short ≡ record r { lookups = entries_left w counts r.lookups at } → after ≡ counts_after w counts r.lookups at
    → Reduced offset w b (records ++ r ∷ []) (kept ++ short ∷ []) after
one_record offset w b records kept counts after r short None some g none is are = rw (is, are) (record {
  long = g.long;
  same = tested_more offset w b kept r ∙ ap (λ (t : Tested). t >>= λ u. run (import_of offset w b) (import_entry_at w r) (length r.lookups / w)) g.same ∙ sym (tested_more offset w b records r);
  read = λ ok. g.read (passed (tested offset w b records) (run (import_of offset w b) (import_entry_at w r) (length r.lookups / w)) (subst (λ (t : Tested). IsOk t) (tested_more offset w b records r) ok)).0;
})
one_record offset w b records kept counts after r short (Some p) some g (n, inside, same) is are =
    let long : length r.lookups ≡ w * n = ap length same ∙ length_range b p (w * n) inside in
    let many : length r.lookups / w ≡ n = whole w n (length r.lookups) some long in
    rw are (rw (many, long) (listed_there offset w b records kept counts r short p n some g inside same long many (is ∙ rw (many, long) refl)))

-- ---- the same of lists of records

pub stands_there : (offset : ℕ → Option ℕ) (w : ℕ) (b : List ℕ) (items shown : List SyntheticImportDirectoryEntry) (i : ℕ) (d : SyntheticImportDirectoryEntry)
    → shown ≡ items → AllStand offset w b (map import_record_view items) → i < length shown → StandsAt w b (get_or shown i d).lookups.now (list_offset offset (import_record_view (get_or shown i d)))
stands_there offset w b items shown i d same all lt =
    let r : ImportRecordView = import_record_view (get_or shown i d) in
    let there : AllStand offset w b (map import_record_view shown) = subst (λ (l : List SyntheticImportDirectoryEntry). AllStand offset w b (map import_record_view l)) (sym same) all in
    subst (λ (x : ImportRecordView). StandsAt w b x.lookups (list_offset offset x)) (get_or-map import_record_view shown i d r lt) (there i r (omega (arith, lt, length-map shown import_record_view)))

pub reduced-more : (offset : ℕ → Option ℕ) (is_64 : Bool) (b : List ℕ) (items shown kept pushed : List SyntheticImportDirectoryEntry) (i : ℕ) (d : SyntheticImportDirectoryEntry) (counts old new after : List ℕ) (left : Bor (List ℕ))
    → shown ≡ items → AllStand offset (entry_size is_64) b (map import_record_view items) → i < length shown
    → Reduced offset (entry_size is_64) b (map import_record_view (take i items)) (map import_record_view kept) counts
    → old ≡ counts → left.now ≡ entries_left (entry_size is_64) old (get_or shown i d).lookups.now (list_offset offset (import_record_view (get_or shown i d)))
    → new ≡ counts_after (entry_size is_64) old (get_or shown i d).lookups.now (list_offset offset (import_record_view (get_or shown i d))) → after ≡ new
    → pushed ≡ kept ++ record { import_directory_entry = (get_or shown i d).import_directory_entry; name = (get_or shown i d).name; lookups = left } ∷ []
    → Reduced offset (entry_size is_64) b (map import_record_view (take (i + 1) items)) (map import_record_view pushed) after
reduced-more offset is_64 b items shown kept pushed i d counts old new after left same all lt g was is are wrote push =
    let w : ℕ = entry_size is_64 in
    let r : ImportRecordView = import_record_view (get_or shown i d) in
    let short : ImportRecordView = record r { lookups = left.now } in
    let records : map import_record_view (take (i + 1) items) ≡ map import_record_view (take i items) ++ r ∷ [] =
    ap (λ (l : List SyntheticImportDirectoryEntry). map import_record_view (take (i + 1) l)) (sym same) ∙ ap (map import_record_view) (take_more shown i d lt) ∙ map-append import_record_view (take i shown) (get_or shown i d ∷ [])
    ∙ ap (λ (l : List SyntheticImportDirectoryEntry). map import_record_view (take i l) ++ r ∷ []) same in
    let more : map import_record_view pushed ≡ map import_record_view kept ++ short ∷ [] = ap (map import_record_view) push ∙ map-append import_record_view kept (_ ∷ []) in
    rw (records, more) (one_record offset w b (map import_record_view (take i items)) (map import_record_view kept) counts after r short (list_offset offset r) (some_size is_64) g
    (stands_there offset w b items shown i d same all lt)
    (ap (λ (l : List ℕ). record r { lookups = l }) (is ∙ ap (λ (l : List ℕ). entries_left w l r.lookups (list_offset offset r)) was))
    (wrote ∙ are ∙ ap (λ (l : List ℕ). counts_after w l r.lookups (list_offset offset r)) was))

pub reduced-done : (offset : ℕ → Option ℕ) (w : ℕ) (b : List ℕ) (items kept : List SyntheticImportDirectoryEntry) (i : ℕ) (counts : List ℕ) → Reduced offset w b (map import_record_view (take i items)) (map import_record_view kept) counts → length items ≤ i
    → tested offset w b (map import_record_view kept) ≡ tested offset w b (map import_record_view items)
reduced-done offset w b items kept i counts g le = g.same ∙ ap (λ (l : List SyntheticImportDirectoryEntry). tested offset w b (map import_record_view l)) (take_all i items le)

pub ruleset reduced = (stands_there, reduced-start, reduced-done)
