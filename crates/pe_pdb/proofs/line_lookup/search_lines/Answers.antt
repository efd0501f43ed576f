use Rattle.std.proofs.Common.{arith, ◌-◌, ◌<◌, ◌≤◌, ℕ, get_or, ap, sym, ◌∙◌, ◌≡◌, zero, suc, ◌+◌, ◌*◌, ◌^◌, List, [], ◌∷◌, length, subst, inl, inr}
use Rattle.std.specs.List.{All, Contains}
use Rattle.std.specs.List.Sorted.{IsNonDecreasingBy}
use Rattle.std.proofs.lemmas.Bool.{cases_lt}
use Rattle.std.proofs.lemmas.List.{get_or_default}
use Rattle.std.proofs.lemmas.List.Sorted.{All-permutation, Contains-permutation, IsPermutation-sym}
use Rattle.pe_pdb.specs.LineEntries.{entries_from}
use Rattle.pe_pdb.specs.LineIndexes.{AreEntries, IsLastBefore}
use Rattle.pe_pdb.specs.LineKeys.{line_key}
use Rattle.pe_pdb.specs.declared.line_entries.CodeLine.{CodeLine}
use Rattle.pe_pdb.specs.declared.line_entries.LineEntry.{LineEntry}
use Rattle.pe_pdb.proofs.LineEntries.{length_entries}
use Rattle.pe_pdb.proofs.line_lookup.search_lines.Goals as goal

-- The last line at or before an RVA, in entries that are sorted.

-- the entry of a line
entry_of : (n : ℕ) (xs : List CodeLine) (i : ℕ) (e : LineEntry) (x : CodeLine) → i < length xs → get_or (entries_from n xs) i e ≡ record { line = get_or xs i x; index = n + i }
unfolding entries_from
entry_of n [] i e x lt = absurd (omega (arith, lt))
entry_of n (y ∷ ys) zero e x lt = let same : n ≡ n + 0 = omega arith in ap (λ (k : ℕ). record { line = y; index = k }) same
entry_of n (y ∷ ys) (suc i) e x lt =
    let same : (n + 1) + i ≡ n + suc i = omega arith in
    entry_of (n + 1) ys i e x (omega (arith, lt)) ∙ ap (λ (k : ℕ). record { line = get_or ys i x; index = k }) same

-- what holds of the entries of some lines, holds of each line
of_each : (P : LineEntry → Type 0) (xs : List CodeLine) → All P (entries_from 0 xs) → (i : ℕ) (x : CodeLine) → i < length xs → P (record { line = get_or xs i x; index = i })
of_each P xs all i x lt =
    let size : length (entries_from 0 xs) ≡ length xs = length_entries 0 xs in
    let e : LineEntry = record { line = x; index = 0 } in
    let zero_more : 0 + i ≡ i = omega arith in
    let is : get_or (entries_from 0 xs) i e ≡ record { line = get_or xs i x; index = i } = entry_of 0 xs i e x lt ∙ ap (λ (k : ℕ). record { line = get_or xs i x; index = k }) zero_more in
    subst P is (all i e (omega (arith, lt, size)))

-- an entry of an index is that of a line
line_of : (xs : List CodeLine) (e : LineEntry) → Contains (entries_from 0 xs) e → (i : ℕ) × (i < length xs) × (e.index ≡ i) × ((d : CodeLine) → get_or xs i d ≡ e.line)
line_of xs e has =
    let size : length (entries_from 0 xs) ≡ length xs = length_entries 0 xs in
    let lt : has.0 < length xs = (let l = has.1 in omega (arith, size, l)) in
    let is : (d : CodeLine) → e ≡ record { line = get_or xs has.0 d; index = has.0 } = (let zero_more : 0 + has.0 ≡ has.0 = omega arith in λ d. sym has.2 ∙ entry_of 0 xs has.0 e d lt ∙ ap (λ (k : ℕ). record { line = get_or xs has.0 d; index = k }) zero_more) in
    (has.0, lt, ap (λ (e : LineEntry). e.index) (is e.line), λ d. sym (ap (λ (e : LineEntry). e.line) (is d)))

-- ---- in a sorted list the first n entries are at or before the RVA

-- of the entries at or before the RVA this one has the greatest key
record IsNearestEntry (es : List LineEntry) (rva : ℕ) (e : LineEntry) : Type 0 where
  listed : Contains es e
  before : e.line.rva ≤ rva
  last : All (λ k. k.line.rva ≤ rva → line_key k ≤ line_key e) es

nearest_of : (es : List LineEntry) (x n : ℕ) → IsNonDecreasingBy line_key es → 0 < n → n ≤ length es →
    ((k : ℕ) (d : LineEntry) → k < n → k < length es → (get_or es k d).line.rva ≤ x) →
    ((k : ℕ) (d : LineEntry) → n ≤ k → k < length es → x < (get_or es k d).line.rva) →
    (e : LineEntry) → ((d : LineEntry) → get_or es (n - 1) d ≡ e) → IsNearestEntry es x e
nearest_of es x n up some within before after e is = record {
  listed = (n - 1, omega (arith, some, within), is e);
  before = subst (λ (e : LineEntry). e.line.rva ≤ x) (is e) (before (n - 1) e (omega (arith, some)) (omega (arith, within, some)));
  last = λ k d lt le. elim (cases_lt k n) [
    | inl low ↦ subst (λ (e : LineEntry). line_key (get_or es k d) ≤ line_key e) (is d) (up k (n - 1) d (omega (arith, low)) (omega (arith, within, some)))
    | inr high ↦ let h = after k d high lt in absurd (omega (arith, h, le))
  ];
}

-- ---- the line

-- of two keys the greater has the greater RVA, or at one RVA the greater index
key_rva : (a b i k : ℕ) → i < 2 ^ 32 → k < 2 ^ 32 → b * 2 ^ 32 + k ≤ a * 2 ^ 32 + i → b ≤ a
key_rva a b i k low small le = omega (arith, low, small, le)

last_of : (xs : List CodeLine) (rva : ℕ) (e : LineEntry) → length xs ≤ 2 ^ 32 → IsNearestEntry (entries_from 0 xs) rva e → (i : ℕ) × IsLastBefore xs rva i × ((d : CodeLine) → get_or xs i d ≡ e.line)
last_of xs rva e small near =
    let at = line_of xs e near.listed in
    let i = at.0 in
    let index : e.index ≡ i = at.2 in
    let key : (k : ℕ) (d : CodeLine) → k < length xs → (get_or xs k d).rva ≤ rva → (get_or xs k d).rva * 2 ^ 32 + k ≤ e.line.rva * 2 ^ 32 + i =
    λ k d lt le. subst (λ (n : ℕ). (get_or xs k d).rva * 2 ^ 32 + k ≤ e.line.rva * 2 ^ 32 + n) index (of_each (λ k. k.line.rva ≤ rva → line_key k ≤ line_key e) xs near.last k d lt le) in (
      i,
      record {
        listed = at.1;
        before = λ d. subst (λ (x : CodeLine). x.rva ≤ rva) (sym (at.3 d)) near.before;
        last = λ k d lt le. subst (λ (x : CodeLine). (get_or xs k d).rva ≤ x.rva) (sym (at.3 d)) (let h = key k d lt le in key_rva e.line.rva (get_or xs k d).rva i k (let l = at.1 in omega (arith, l, small)) (omega (arith, lt, small)) h);
        latest = λ k d lt same.
            let own : (get_or xs k d).rva ≡ e.line.rva = same ∙ ap (λ (x : CodeLine). x.rva) (at.3 d) in
            let b = near.before in
            omega (arith, own, key k d lt (omega (arith, own, b)));
      },
      at.3,
    )

-- in another order
last_permuted : (xs : List CodeLine) (es : List LineEntry) (rva : ℕ) (e : LineEntry) → AreEntries xs es → IsNearestEntry es rva e → (i : ℕ) × IsLastBefore xs rva i × ((d : CodeLine) → get_or xs i d ≡ e.line)
last_permuted xs es rva e are near =
    let back = IsPermutation-sym (entries_from 0 xs) es are.1 in
    last_of xs rva e are.0 (record {
      listed = Contains-permutation es (entries_from 0 xs) e back near.listed;
      before = near.before;
      last = All-permutation (λ k. k.line.rva ≤ rva → line_key k ≤ line_key e) es (entries_from 0 xs) back near.last;
    })

none_permuted : (xs : List CodeLine) (es : List LineEntry) (rva : ℕ) → AreEntries xs es → All (λ e. rva < e.line.rva) es → All (λ x. rva < x.rva) xs
none_permuted xs es rva are all = λ i d lt.
    of_each (λ e. rva < e.line.rva) xs (All-permutation (λ e. rva < e.line.rva) es (entries_from 0 xs) (IsPermutation-sym (entries_from 0 xs) es are.1) all) i d lt

-- RVAs rise with the keys
rvas_rise : (es : List LineEntry) → ((e : LineEntry) → Contains es e → e.index < 2 ^ 32) → IsNonDecreasingBy line_key es → IsNonDecreasingBy (λ e. e.line.rva) es
rvas_rise es small up i j d le lt =
    let h = up i j d le lt in
    key_rva (get_or es j d).line.rva (get_or es i d).line.rva (get_or es j d).index (get_or es i d).index
    (small (get_or es j d) (j, lt, get_or_default es j (get_or es j d) d lt)) (small (get_or es i d) (i, omega (arith, le, lt), get_or_default es i (get_or es i d) d (omega (arith, le, lt)))) h

-- the indexes of entries have 32 bits
index_small : (xs : List CodeLine) (es : List LineEntry) → AreEntries xs es → (e : LineEntry) → Contains es e → e.index < 2 ^ 32
index_small xs es are e has =
    let at = line_of xs e (Contains-permutation es (entries_from 0 xs) e (IsPermutation-sym (entries_from 0 xs) es are.1) has) in
    let index : e.index ≡ at.0 = at.2 in
    let lt : at.0 < length xs = at.1 in
    let few : length xs ≤ 2 ^ 32 = are.0 in
    omega (arith, index, lt, few)

pub returns-then-after-eq0-clause-found : goal.returns-then-after-eq0-clause-found
returns-then-after-eq0-clause-found c = λ up xs are.
    let es = c.args.entries.now.entries.now in
    let rise = rvas_rise es (index_small xs es are) up in
    none_permuted xs es c.args.rva are (λ k d lt.
    let h : c.from.result < (get_or es k d).line.rva = c.count_up_to-after.ensures.cut.after rise k d (omega (arith, c.if-after-eq0.true)) lt in omega (arith, h, c.from.ensures))

pub returns-clause-found : goal.returns-clause-found
returns-clause-found c = λ up xs are.
    let es = c.args.entries.now.entries.now in
    let x : ℕ = c.args.rva in
    let n = c.count_up_to-after.result in
    let cut = c.count_up_to-after.ensures.cut in
    let some : 0 < n = omega (arith, c.if-after-eq0.false) in
    let rise = rvas_rise es (index_small xs es are) up in
    last_permuted xs es x _ are (nearest_of es x n up some cut.within
    (λ k d low lt. let h : (get_or es k d).line.rva ≤ c.from.result = cut.before rise k d low in omega (arith, h, c.from.ensures))
    (λ k d high lt. let h : c.from.result < (get_or es k d).line.rva = cut.after rise k d high lt in omega (arith, h, c.from.ensures))
    c.get.result (λ d. sym (c.get.ensures.value d ∙ ap (λ r. get_or r.now (n - 1) d) c.count_up_to-after.ensures.kept)))
