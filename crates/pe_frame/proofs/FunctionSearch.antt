-- A search of a function table that reads the starts of its entries alone.
use Rattle.std.proofs.Common.{◌≡◌, ℕ, ◌+◌, ◌-◌, ◌*◌, ◌<◌, ◌≤◌, List, length, get_or, take, Option, Some, None, true, refl, ap, ◌∙◌, subst, arith}
use Rattle.pe_frame.proofs.Cited.{last_or, take_more, count_of_whole_entries, nat_tests, holds, le, u32_of, whole_entries, function_at}
use Rattle.pe_frame.proofs.Cited.{functions, FindsStart, RuntimeFunction, SearchesAt, ends, entry_ends, entry_is, goes_down, goes_up}
use Rattle.pe_frame.proofs.Cited.{last_or-append, starts}
use Rattle.pe_core.specs.CountedTable.{entry_of}

module _ (b : List ℕ) where
  abbrev entries : List RuntimeFunction
  entries = whole_entries function_at 12 b

  -- what the search keeps, whatever the last entry before `low` is
  abbrev pub Searching : ℕ → ℕ → ℕ → Type 0
  Searching a low high = (last : Option RuntimeFunction) × SearchesAt (λ f. f.begin_address) entries a low high last

  pub at_first : (a high : ℕ) → high ≡ length (functions b) → Searching a 0 high
  unfolding functions
  at_first a high all = (None, starts (λ f. f.begin_address) entries a high all)

  -- the entry before the end of those that are left
  pub inside : (a low high m : ℕ) → Searching a low high → m < high → (m < length entries) × (12 * m + 12 ≤ length b)
  inside a low high m s to =
      let count = count_of_whole_entries function_at 12 b in
      let lt : m < length entries = omega (arith, to, s.1.within) in
      (lt, entry_ends (length b) 12 m (omega (arith, lt, count)))

  -- what is read of it
  pub start_read : (c : List ℕ) (m : ℕ) (read : Option ℕ) → c ≡ b → 12 * m + 12 ≤ length b → read ≡ u32_of c (12 * m) → read ≡ Some (le b (12 * m) 4)
  start_read c m read same within is =
      let there : holds b (12 * m) 4 ≡ true = grind (arith, nat_tests) in
      is ∙ ap (λ (x : List ℕ). u32_of x (12 * m)) same ∙ rw there refl

  pub entry_read : (c : List ℕ) (m : ℕ) (read : Option RuntimeFunction) → c ≡ b → 12 * m + 12 ≤ length b → read ≡ entry_of function_at 12 c (12 * m) → read ≡ Some (function_at b (12 * m))
  entry_read c m read same within is =
      let there : holds b (12 * m) 12 ≡ true = grind (arith, nat_tests) in
      is ∙ ap (λ (x : List ℕ). entry_of function_at 12 x (12 * m)) same ∙ rw there refl

  entry : (m : ℕ) → m < length entries → (d : RuntimeFunction) → get_or entries m d ≡ function_at b (12 * m)
  entry m lt = entry_is function_at 12 b b m (function_at b (12 * m)) refl refl lt

  pub up : (a low high m : ℕ) → Searching a low high → low ≤ m → m < high → le b (12 * m) 4 ≤ a → Searching a (m + 1) high
  up a low high m s from to passes =
      (Some (function_at b (12 * m)), goes_up (λ f. f.begin_address) entries a low high s.0 m (function_at b (12 * m)) s.1 from to (entry m (inside a low high m s to).0) passes)

  pub down : (a low high m : ℕ) → Searching a low high → low ≤ m → m < high → a < le b (12 * m) 4 → Searching a low m
  down a low high m s from to after =
      (s.0, goes_down (λ f. f.begin_address) entries a low high s.0 m (function_at b (12 * m)) s.1 from to (entry m (inside a low high m s to).0) after)

  pub none_starts : (a low high : ℕ) → Searching a low high → high ≤ low → low ≡ 0 → FindsStart (λ f. f.begin_address) (functions b) a None
  unfolding functions
  none_starts a low high s over none =
      let is : s.0 ≡ None = s.1.last ∙ ap (λ (k : ℕ). last_or None (take k entries)) none in
      subst (λ (o : Option RuntimeFunction). FindsStart (λ f. f.begin_address) entries a o) is (ends (λ f. f.begin_address) entries a low high s.0 s.1 over)

  pub last_starts : (a low high : ℕ) → Searching a low high → high ≤ low → 0 < low → FindsStart (λ f. f.begin_address) (functions b) a (Some (function_at b (12 * (low - 1))))
  unfolding functions
  last_starts a low high s over some =
      let m : ℕ = low - 1 in
      let f : RuntimeFunction = function_at b (12 * m) in
      let lt : m < length entries = omega (arith, s.1.ordered, s.1.within, some) in
      let more : last_or None (take (m + 1) entries) ≡ Some f = ap (last_or None) (take_more entries m f lt) ∙ last_or-append None (take m entries) (get_or entries m f) ∙ ap (λ (x : RuntimeFunction). Some x) (entry m lt f) in
      let is : s.0 ≡ Some f = s.1.last ∙ ap (λ (k : ℕ). last_or None (take k entries)) (omega (arith, some)) ∙ more in
      subst (λ (o : Option RuntimeFunction). FindsStart (λ f. f.begin_address) entries a o) is (ends (λ f. f.begin_address) entries a low high s.0 s.1 over)
