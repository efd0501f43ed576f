-- What the search by halves keeps, and what it finds.
use Rattle.std.proofs.Common.{◌≡◌, ℕ, zero, suc, ◌+◌, ◌*◌, ◌/◌, ◌<◌, ◌≤◌, Bool, true, false, List, [], ◌∷◌, ◌++◌, length, get_or, take, drop, Option, Some, None, filter, refl, ap, sym, ◌∙◌, subst, ◌^◌, leb, arith, IfSome, Contains}
use Rattle.std.specs.List.{last_or}
use Rattle.std.specs.Int.Digits.{digits_of}
use Rattle.std.proofs.lemmas.Int.Digits.{length-digits_of_step, length-digits_of-le, number_lt, number_digits_of, all_below_base_digits_of}
use Rattle.std.proofs.lemmas.List.{take_more, take-append-drop}
use Rattle.std.proofs.Math.Nat.{mul-add, mul-div-le, mul-le-mul_left, mul-one}
use Rattle.std.proofs.Math.Seq.{take-nil}
use Rattle.std.proofs.lemmas.Bool.{cases_lt}
use Rattle.std.proofs.lemmas.Bool.Decides.{nat_tests}
use Rattle.pe_core.proofs.EntryItems.{count_of_whole_entries, get_or-whole_entries}
use Rattle.pe_core.specs.CountedTable.{one_more}
use Rattle.pe_core.specs.Rows.{whole_entries}
use Rattle.pe_unwind.specs.declared.function_table.RuntimeFunction.{RuntimeFunction}
use Rattle.pe_unwind.specs.FunctionTable.{function_at, functions, scan, if_before_end, Finds, StopsBetween}
use Rattle.pe_unwind.specs.Lookup.{FindsStart, IsSortedBy, StartsAfter, StopsAfter, digits}

pub length_functions : (b : List ℕ) → length (functions b) ≡ length b / 12
unfolding functions
length_functions b = count_of_whole_entries function_at 12 b

-- the first half passes, the rest does not: a filter keeps the first half
pub filter_first : {X : Type 0} (p : X → Bool) (xs : List X) (i : ℕ) → ((k : ℕ) (d : X) → k < i → k < length xs → p (get_or xs k d) ≡ true) → ((k : ℕ) (d : X) → i ≤ k → k < length xs → p (get_or xs k d) ≡ false) → filter p xs ≡ take i xs
filter_first p [] i passes fails = sym (take-nil i)
filter_first p (x ∷ xs) zero passes fails =
    let none : filter p xs ≡ [] = filter_first p xs zero (λ k d h l. absurd (omega arith)) (λ k d h l. fails (suc k) d (omega arith) (omega arith)) in
    rw (fails 0 x (omega arith) (omega arith)) none
filter_first p (x ∷ xs) (suc i) passes fails =
    let rest : filter p xs ≡ take i xs = filter_first p xs i (λ k d h l. passes (suc k) d (omega arith) (omega arith)) (λ k d h l. fails (suc k) d (omega arith) (omega arith)) in
    rw (passes 0 x (omega arith) (omega arith)) (ap (λ ys. x ∷ ys) rest)

pub last_or-append : {X : Type 0} (o : Option X) (xs : List X) (x : X) → last_or o (xs ++ x ∷ []) ≡ Some x
last_or-append o [] x = refl
last_or-append o (y ∷ xs) x = last_or-append (Some y) xs x

-- ---- the count of reads

lt-digits : (n : ℕ) → n < 2 ^ digits n
unfolding digits
lt-digits n = omega (arith, number_lt 2 (digits_of 2 n) (all_below_base_digits_of 2 n (omega arith)), number_digits_of 2 n (omega arith))

digits-le : (m n : ℕ) → m ≤ n → digits m ≤ digits n
unfolding digits
digits-le m n h = length-digits_of-le 2 (digits n) m (omega arith) (omega (arith, lt-digits n))

-- what is left after a halving has one digit less
pub digits-halved : (n k : ℕ) → 0 < n → k ≤ n / 2 → digits k + 1 ≤ digits n
unfolding digits
digits-halved n k h l = omega (arith, length-digits_of_step 2 n (omega arith) h, digits-le k (n / 2) l)

pub le-one_more : (n : ℕ) → n ≤ one_more n
le-one_more n = grind (arith, nat_tests)

pub one_more-le : (n : ℕ) → one_more n ≤ n + 1
one_more-le n = grind (arith, nat_tests)

-- ---- the search

-- the entries before `low` are passed, the last of them is the one found, and those from `high` on start after the RVA, as
-- far as the search has seen them; in a sorted table all of them do
pub record SearchesAt {X : Type 0} (start : X → ℕ) (fs : List X) (a low high : ℕ) (found : Option X) : Type 0 where
  pub ordered : low ≤ high
  pub within : high ≤ length fs
  pub last : found ≡ last_or None (take low fs)
  pub starts_before : IfSome found (λ f. start f ≤ a)
  pub member : IfSome found (Contains fs)
  pub next : (d : X) → high < length fs → a < start (get_or fs high d)
  pub below : IsSortedBy start fs → (k : ℕ) (d : X) → k < low → k < length fs → start (get_or fs k d) ≤ a
  pub above : IsSortedBy start fs → (k : ℕ) (d : X) → high ≤ k → k < length fs → a < start (get_or fs k d)

-- sorted, also of one entry
pub start-le : {X : Type 0} (start : X → ℕ) (fs : List X) → IsSortedBy start fs → (i j : ℕ) (d : X) → i ≤ j → j < length fs → start (get_or fs i d) ≤ start (get_or fs j d)
start-le start fs ordered i j d h l = grind (arith, cases_lt)

pub starts : {X : Type 0} (start : X → ℕ) (fs : List X) (a high : ℕ) → high ≡ length fs → SearchesAt start fs a 0 high None
starts start fs a high all = grind arith

-- the middle starts at or before the RVA
pub goes_up : {X : Type 0} (start : X → ℕ) (fs : List X) (a low high : ℕ) (found : Option X) (m : ℕ) (f : X) → SearchesAt start fs a low high found → low ≤ m → m < high → ((d : X) → get_or fs m d ≡ f) → start f ≤ a → SearchesAt start fs a (m + 1) high (Some f)
goes_up {X} start fs a low high found m f s from to is passes =
    let inside : m < length fs = omega (arith, s.within) in
    record {
      ordered = omega arith;
      within = s.within;
      last = sym (ap (last_or None) (take_more fs m f inside) ∙ last_or-append None (take m fs) (get_or fs m f) ∙ ap (λ (x : X). Some x) (is f));
      starts_before = passes;
      member = (m, inside, is f);
      next = s.next;
      below = λ o k d h l. omega (arith, passes, ap start (is d), start-le start fs o k m d (omega arith) inside);
      above = s.above;
    }

-- the middle starts after the RVA
pub goes_down : {X : Type 0} (start : X → ℕ) (fs : List X) (a low high : ℕ) (found : Option X) (m : ℕ) (f : X) → SearchesAt start fs a low high found → low ≤ m → m < high → ((d : X) → get_or fs m d ≡ f) → a < start f → SearchesAt start fs a low m found
goes_down start fs a low high found m f s from to is after = grind (arith, start-le)

-- a list without its first i entries starts with its entry i
starts_after : {X : Type 0} (start : X → ℕ) (a : ℕ) (fs : List X) (i : ℕ) → ((d : X) → i < length fs → a < start (get_or fs i d)) → StartsAfter start a (drop i fs)
starts_after start a [] zero h = tt
starts_after start a [] (suc i) h = tt
starts_after start a (f ∷ fs) zero h = h f (omega arith)
starts_after start a (f ∷ fs) (suc i) h = starts_after start a fs i (λ d l. h d (omega arith))

-- the entries that start at or before the RVA are those before `low`
kept : {X : Type 0} (start : X → ℕ) (fs : List X) (a low high : ℕ) (found : Option X) → SearchesAt start fs a low high found → high ≤ low → IsSortedBy start fs → filter (λ f. leb (start f) a) fs ≡ take low fs
kept start fs a low high found s over o = grind (arith, filter_first, nat_tests)

-- where the search ends, it stands between two entries
pub ends : {X : Type 0} (start : X → ℕ) (fs : List X) (a low high : ℕ) (found : Option X) → SearchesAt start fs a low high found → high ≤ low → FindsStart start fs a found
unfolding StopsAfter
ends {X} start fs a low high found s over =
    let same : high ≡ low = omega (arith, s.ordered) in
    let starts : IfSome (last_or None (take low fs)) (λ f. start f ≤ a) = subst (λ (o : Option X). IfSome o (λ f. start f ≤ a)) s.last s.starts_before in
    let after : StartsAfter start a (drop low fs) = starts_after start a fs low (subst (λ (i : ℕ). (d : X) → i < length fs → a < start (get_or fs i d)) same s.next) in
    record {
      entry = s.member;
      starts = s.starts_before;
      stops = (take low fs, drop low fs, sym (take-append-drop low fs), starts, after, s.last);
      scanned = λ o. s.last ∙ ap (last_or None) (sym (kept start fs a low high found s over o));
    }

-- ---- in the bytes of a table

-- the entry that was read is that of the table
pub entry_is : {X : Type 0} (entry_at : List ℕ → ℕ → X) (w : ℕ) (b c : List ℕ) (m : ℕ) (f : X) → c ≡ b → f ≡ entry_at c (w * m) → m < length (whole_entries entry_at w b) → (d : X) → get_or (whole_entries entry_at w b) m d ≡ f
entry_is entry_at w b c m f same is h d = grind (arith, get_or-whole_entries, count_of_whole_entries)

-- a whole entry ends in the table
pub entry_ends : (n w m : ℕ) → m < n / w → w * m + w ≤ n
entry_ends n w m h = grind (arith, mul-le-mul_left, mul-div-le, mul-add, mul-one)

-- ---- x64: the end of the entry decides

pub before_end-inside : (a : ℕ) (o : Option RuntimeFunction) (f : RuntimeFunction) → o ≡ Some f → a < f.end_address → if_before_end a o ≡ Some f
before_end-inside a o f is h = rw is (grind (arith, nat_tests))

-- the entry to which the search comes, if the RVA is before its end
decided : (fs : List RuntimeFunction) (a : ℕ) (last found : Option RuntimeFunction) → FindsStart (λ f. f.begin_address) fs a last → found ≡ if_before_end a last → StopsBetween fs a found × (IsSortedBy (λ f. f.begin_address) fs → found ≡ scan fs a)
unfolding scan StopsBetween
decided fs a last found finds is = ((last, finds.stops, is), λ o. is ∙ ap (if_before_end a) (finds.scanned o))

pub finds_none : (b : List ℕ) (a : ℕ) (last : Option RuntimeFunction) → FindsStart (λ f. f.begin_address) (whole_entries function_at 12 b) a last → last ≡ None → Finds (functions b) a None
unfolding functions
finds_none b a last finds is =
    let both = decided (functions b) a last None finds (sym (ap (if_before_end a) is)) in
    record { entry = tt; covers = tt; stops = both.0; scanned = both.1 }

pub finds_past : (b : List ℕ) (a : ℕ) (last : Option RuntimeFunction) (f : RuntimeFunction) → FindsStart (λ f. f.begin_address) (whole_entries function_at 12 b) a last → last ≡ Some f → f.end_address ≤ a → Finds (functions b) a None
unfolding functions
finds_past b a last f finds is h =
    let both = decided (functions b) a last None finds (sym (rw is (grind (arith, nat_tests)))) in
    record { entry = tt; covers = tt; stops = both.0; scanned = both.1 }

pub finds_inside : (b : List ℕ) (a : ℕ) (last : Option RuntimeFunction) (f : RuntimeFunction) → FindsStart (λ f. f.begin_address) (whole_entries function_at 12 b) a last → last ≡ Some f → a < f.end_address → Finds (functions b) a (Some f)
unfolding functions
finds_inside b a last f finds is h =
    let both = decided (functions b) a last (Some f) finds (sym (before_end-inside a last f is h)) in
    let at_f : FindsStart (λ f. f.begin_address) (functions b) a (Some f) = subst (FindsStart (λ f. f.begin_address) (functions b) a) is finds in
    record { entry = at_f.entry; covers = (at_f.starts, h); stops = both.0; scanned = both.1 }
