-- Lookup has a result in any table: that of a linear scan.
use Rattle.std.proofs.Common.{◌≡◌, ℕ, ◌≤◌, ◌⊎◌, inl, inr, Bool, true, false, leb, List, ◌∷◌, ◌++◌, Option, Some, None, refl, ap, sym, ◌∙◌, subst, arith, append_assoc, []}
use Rattle.pe_frame.proofs.Cited.{Contains, filter, last_or, cases_lt, nat_tests, Contains-append_right, whole_entries, Finds, function_at}
use Rattle.pe_frame.proofs.Cited.{functions, FindsStart, StartsAfter, StopsAfter, RuntimeFunction, finds_inside, finds_none, finds_past}
use Rattle.pe_frame.proofs.Cited.{last_or-append}

module _ {X : Type 0} (start : X → ℕ) (a : ℕ) where
  abbrev Starts : X → Bool
  Starts f = leb (start f) a

  -- the last entry that starts at or before the address, and the entries before and after it
  record Last (fs : List X) : Type 0 where
    before : List X
    last : X
    after : List X
    parts : fs ≡ before ++ last ∷ after
    starts : start last ≤ a
    late : StartsAfter start a after
    scanned : (o : Option X) → last_or o (filter Starts fs) ≡ Some last

  record Nothing (fs : List X) : Type 0 where
    none : filter Starts fs ≡ []
    late : StartsAfter start a fs

  one_more : (f : X) (fs : List X) (t : Bool) → Starts f ≡ t → Last fs → Last (f ∷ fs)
  one_more f fs true is l = record {
    before = f ∷ l.before;
    last = l.last;
    after = l.after;
    parts = ap (λ (xs : List X). f ∷ xs) l.parts;
    starts = l.starts;
    late = l.late;
    scanned = λ o. rw is (l.scanned (Some f));
  }
  one_more f fs false is l = record {
    before = f ∷ l.before;
    last = l.last;
    after = l.after;
    parts = ap (λ (xs : List X). f ∷ xs) l.parts;
    starts = l.starts;
    late = l.late;
    scanned = λ o. rw is (l.scanned o);
  }

  one_first : (f : X) (fs : List X) (t : Bool) → Starts f ≡ t → Nothing fs → Nothing (f ∷ fs) ⊎ Last (f ∷ fs)
  one_first f fs true is n = inr (record {
    before = [];
    last = f;
    after = fs;
    parts = refl;
    starts = grind (arith, nat_tests);
    late = n.late;
    scanned = λ o. rw (is, n.none) refl;
  })
  one_first f fs false is n = inl (record { none = rw (is, n.none) refl; late = grind (arith, nat_tests) })

  some_last : (fs : List X) → Nothing fs ⊎ Last fs
  some_last [] = inl (record { none = refl; late = tt })
  some_last (f ∷ fs) = elim (some_last fs) [
    | inl n ↦ one_first f fs (Starts f) refl n
    | inr l ↦ inr (one_more f fs (Starts f) refl l)
  ]

  found_none : (fs : List X) → Nothing fs → FindsStart start fs a None
  unfolding StopsAfter
  found_none fs n = record {
    entry = tt;
    starts = tt;
    stops = ([], fs, refl, tt, n.late, refl);
    scanned = λ o. sym (ap (last_or None) n.none);
  }

  found_last : (fs : List X) (l : Last fs) → FindsStart start fs a (Some l.last)
  unfolding StopsAfter
  found_last fs l =
      let is = last_or-append None l.before l.last in
      record {
        entry = subst (λ (xs : List X). Contains xs l.last) (sym l.parts) (Contains-append_right l.before (l.last ∷ l.after) l.last (0, omega arith, refl));
        starts = l.starts;
        stops = (l.before ++ l.last ∷ [], l.after, l.parts ∙ sym (append_assoc l.before (l.last ∷ []) l.after), rw is l.starts, l.late, sym is);
        scanned = λ o. sym (l.scanned None);
      }

  pub some_start : (fs : List X) → (last : Option X) × FindsStart start fs a last
  some_start fs = elim (some_last fs) [
    | inl n ↦ (None, found_none fs n)
    | inr l ↦ (Some l.last, found_last fs l)
  ]

by_end : (b : List ℕ) (a : ℕ) (f : RuntimeFunction) → FindsStart (λ g. g.begin_address) (whole_entries function_at 12 b) a (Some f) → (found : Option RuntimeFunction) × Finds (functions b) a found
by_end b a f finds = elim (cases_lt a f.end_address) [
  | inl inside ↦ (Some f, finds_inside b a (Some f) f finds refl inside)
  | inr past ↦ (None, finds_past b a (Some f) f finds refl past)
]

by_start : (b : List ℕ) (a : ℕ) (last : Option RuntimeFunction) → FindsStart (λ g. g.begin_address) (whole_entries function_at 12 b) a last → (found : Option RuntimeFunction) × Finds (functions b) a found
by_start b a None finds = (None, finds_none b a None finds refl)
by_start b a (Some f) finds = by_end b a f finds

pub some_function : (b : List ℕ) (a : ℕ) → (found : Option RuntimeFunction) × Finds (functions b) a found
some_function b a =
    let (last, finds) = some_start (λ g. g.begin_address) a (whole_entries function_at 12 b) in
    by_start b a last finds
