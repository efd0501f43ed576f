-- A search of ranges by halving, bit by bit.
use Rattle.std.proofs.Common.{◌≡◌, ℕ, zero, suc, ◌+◌, ◌-◌, ◌*◌, ◌%◌, ◌^◌, ◌<◌, ◌≤◌, inl, inr, Bool, true, false, cond, List, [], ◌∷◌, length, get_or, ap, sym, ◌∙◌, ⊎_elim, subst, arith}
use Rattle.std.specs.List.Sorted.{IsNonDecreasingBy}
use Rattle.std.proofs.lemmas.Bool.{cases_lt}
use Rattle.std.proofs.lemmas.Bool.Decides.{nat_tests}
use Rattle.pe_lookup.specs.AddressRanges.{AreAscending, IsCountUpTo, start_by, started}
use Rattle.pe_lookup.proofs.Lookups.{starts_rise}

power : (n : ℕ) → 0 < 2 ^ n
power zero = omega arith
power (suc n) = omega (arith, power n)

pub grows : (d m n : ℕ) → n ≡ d + m → 2 ^ m ≤ 2 ^ n
grows zero m n e = let same : 2 ^ m ≡ 2 ^ n = ap (λ k. 2 ^ k) (omega (arith, e)) in omega (arith, same)
grows (suc d) m zero e = absurd (omega (arith, e))
grows (suc d) m (suc n) e = omega (arith, grows d m n (omega (arith, e)))

-- a number has at most as many bits as it says
pub bits_enough : (n : ℕ) → n < 2 ^ n
bits_enough zero = omega arith
bits_enough (suc n) = omega (arith, bits_enough n)

-- a power that a word holds, as a shift computes it
pub shifted : (b : ℕ) → b < 64 → 1 * 2 ^ b % 18446744073709551616 ≡ 2 ^ b
shifted b h = omega (arith, grows (63 - b) b 63 (omega arith))

pub halved : (n : ℕ) → 0 < n → 2 ^ n ≡ 2 ^ (n - 1) + 2 ^ (n - 1)
halved zero h = absurd (omega arith)
halved (suc n) h = let same : suc n - 1 ≡ n = omega arith in let power : 2 ^ (suc n - 1) ≡ 2 ^ n = ap (λ k. 2 ^ k) same in omega (arith, power)

module _ {X : Type 0} (start : X → ℕ) (d : X) (xs : List X) (a : ℕ) where
  too_many : (m : ℕ) → length xs < m → start_by start d xs a m ≡ false
  too_many m h = grind (arith, nat_tests)

  -- bits above those of the number of ranges make no difference
  skips : (e m n : ℕ) → n ≡ e + m → length xs < 2 ^ m → started start d xs a n 0 ≡ started start d xs a m 0
  unfolding started
  skips zero m n is h = let same : n ≡ m = omega (arith, is) in ap (λ k. started start d xs a k 0) same
  skips (suc e) m zero is h = absurd (omega (arith, is))
  skips (suc e) m (suc n) is h =
      let same : n ≡ e + m = omega (arith, is) in
      rw (too_many (0 + 2 ^ n) (omega (arith, h, grows e m n same))) (skips e m n same h)

  pub skipped : (m n : ℕ) → length xs < 2 ^ m → length xs < 2 ^ n → started start d xs a m 0 ≡ started start d xs a n 0
  skipped m n h k =
      elim (cases_lt m n) [
        | inl less ↦ sym (skips (n - m) m n (omega (arith, less)) h)
        | inr more ↦ skips (m - n) n m (omega (arith, more)) k
      ]

  -- ---- a turn of the search

  up : (n k m : ℕ) → m ≡ k + 2 ^ n → start_by start d xs a m ≡ true → started start d xs a n m ≡ started start d xs a (suc n) k
  unfolding started
  up n k m is t =
      let passes : start_by start d xs a (k + 2 ^ n) ≡ true = ap (start_by start d xs a) (sym is) ∙ t in
      ap (started start d xs a n) is ∙ sym (ap (λ (b : Bool). started start d xs a n (cond b (k + 2 ^ n) k)) passes)

  down : (n k m : ℕ) → m ≡ k + 2 ^ n → start_by start d xs a m ≡ false → started start d xs a n k ≡ started start d xs a (suc n) k
  unfolding started
  down n k m is t =
      let fails : start_by start d xs a (k + 2 ^ n) ≡ false = ap (start_by start d xs a) (sym is) ∙ t in
      sym (ap (λ (b : Bool). started start d xs a n (cond b (k + 2 ^ n) k)) fails)

  pub turned_up : (n k m : ℕ) → 0 < n → m ≡ k + 2 ^ (n - 1) → start_by start d xs a m ≡ true → started start d xs a (n - 1) m ≡ started start d xs a n k
  turned_up n k m some is t = let same : suc (n - 1) ≡ n = omega arith in subst (λ (p : ℕ). started start d xs a (n - 1) m ≡ started start d xs a p k) same (up (n - 1) k m is t)

  pub turned_down : (n k m : ℕ) → 0 < n → m ≡ k + 2 ^ (n - 1) → start_by start d xs a m ≡ false → started start d xs a (n - 1) k ≡ started start d xs a n k
  turned_down n k m some is t = let same : suc (n - 1) ≡ n = omega arith in subst (λ (p : ℕ). started start d xs a (n - 1) k ≡ started start d xs a p k) same (down (n - 1) k m is t)

  pub start_inside : (m : ℕ) → start_by start d xs a m ≡ true → m ≤ length xs
  start_inside m t = grind (arith, nat_tests)

  pub started_at_0 : (n k : ℕ) {whole : ℕ} → n ≡ 0 → started start d xs a n k ≡ whole → k ≡ whole
  unfolding started
  started_at_0 n k e same = ap (λ m. started start d xs a m k) (sym e) ∙ same

  -- ---- sorted ranges

  starts : (c m : ℕ) → IsCountUpTo start a xs c → 0 < m → m ≤ c → start_by start d xs a m ≡ true
  starts c m count some h =
      let le : start (get_or xs (m - 1) d) ≤ a = count.before (m - 1) d (omega arith) in
      let within = count.within in
      grind (arith, nat_tests)

  starts_not : (c m : ℕ) → IsCountUpTo start a xs c → c < m → start_by start d xs a m ≡ false
  starts_not c m count h = ⊎_elim
      (λ (out : length xs < m). too_many m out)
      (λ (inside : m ≤ length xs). let late : a < start (get_or xs (m - 1) d) = count.after (m - 1) d (omega arith) (omega arith) in grind (arith, nat_tests))
      (cases_lt (length xs) m)

  -- the search ends at their count
  pub searched : (c n k : ℕ) → IsCountUpTo start a xs c → k ≤ c → c < k + 2 ^ n → started start d xs a n k ≡ c
  unfolding started
  searched c zero k count low high = omega arith
  searched c (suc n) k count low high = ⊎_elim
      (λ (lt : c < k + 2 ^ n). rw (starts_not c (k + 2 ^ n) count lt) (searched c n k count low lt))
      (λ (ge : k + 2 ^ n ≤ c). rw (starts c (k + 2 ^ n) count (omega (arith, power n)) ge) (searched c n (k + 2 ^ n) count ge (omega (arith, high))))
      (cases_lt c (k + 2 ^ n))

-- ---- sorted ranges have a count

module _ {X : Type 0} (start : X → ℕ) (a : ℕ) where
  more_before : (x : X) (xs : List X) (c k : ℕ) (d : X) → start x ≤ a → IsCountUpTo start a xs c → k < suc c → start (get_or (x ∷ xs) k d) ≤ a
  more_before x xs c zero d h count l = h
  more_before x xs c (suc k) d h count l = count.before k d (omega arith)

  more_after : (x : X) (xs : List X) (c k : ℕ) (d : X) → IsCountUpTo start a xs c → suc c ≤ k → k < suc (length xs) → a < start (get_or (x ∷ xs) k d)
  more_after x xs c zero d count l b = absurd (omega arith)
  more_after x xs c (suc k) d count l b = count.after k d (omega arith) (omega arith)

  count_more : (x : X) (xs : List X) (c : ℕ) → start x ≤ a → IsCountUpTo start a xs c → IsCountUpTo start a (x ∷ xs) (suc c)
  count_more x xs c h count = record {
    within = omega (arith, count.within);
    before = λ k d l. more_before x xs c k d h count l;
    after = λ k d l b. more_after x xs c k d count l b;
  }

  none_after : (x : X) (xs : List X) (k : ℕ) (d : X) → a < start x → IsNonDecreasingBy start (x ∷ xs) → k < suc (length xs) → a < start (get_or (x ∷ xs) k d)
  none_after x xs zero d h rises b = h
  none_after x xs (suc k) d h rises b = omega (arith, h, rises 0 (suc k) d (omega arith) b)

  count_none : (x : X) (xs : List X) → a < start x → IsNonDecreasingBy start (x ∷ xs) → IsCountUpTo start a (x ∷ xs) 0
  count_none x xs h rises = record {
    within = omega arith;
    before = λ k d l. absurd (omega arith);
    after = λ k d l b. none_after x xs k d h rises b;
  }

  pub count_of : (xs : List X) → IsNonDecreasingBy start xs → (c : ℕ) × IsCountUpTo start a xs c
  count_of [] rises = (0, record { within = omega arith; before = λ k d l. absurd (omega arith); after = λ k d l b. absurd (omega arith) })
  count_of (x ∷ xs) rises =
      let rest : (c : ℕ) × IsCountUpTo start a xs c = count_of xs (λ i j d h l. rises (suc i) (suc j) d (omega arith) (omega arith)) in
      ⊎_elim
      (λ (lt : a < start x). (0, count_none x xs lt rises))
      (λ (ge : start x ≤ a). (suc rest.0, count_more x xs rest.0 ge rest.1))
      (cases_lt a (start x))

-- the search of sorted ranges counts those that start at or before an address
pub counted : {X : Type 0} (start : X → ℕ) (d : X) (xs : List X) (a : ℕ) → IsNonDecreasingBy start xs → IsCountUpTo start a xs (started start d xs a (length xs) 0)
counted start d xs a rises =
    let count : (c : ℕ) × IsCountUpTo start a xs c = count_of start a xs rises in
    let is : started start d xs a (length xs) 0 ≡ count.0 = searched start d xs a count.0 (length xs) 0 count.1 (omega arith) (omega (arith, count.1.within, bits_enough (length xs))) in
    subst (λ (c : ℕ). IsCountUpTo start a xs c) (sym is) count.1

-- that of ranges in ascending order
pub counts_up : {X : Type 0} (start size : X → ℕ) (xs : List X) (a n : ℕ) → AreAscending start size xs → n ≤ length xs → ((d : X) → n ≡ started start d xs a (length xs) 0) → IsCountUpTo start a xs n
counts_up start size [] a n up few is = record { within = few; before = λ k d lt. absurd (omega (arith, few, lt)); after = λ k d ge lt. absurd (omega (arith, lt)) }
counts_up start size (x ∷ xs) a n up few is = subst (λ (c : ℕ). IsCountUpTo start a (x ∷ xs) c) (sym (is x)) (counted start x (x ∷ xs) a (starts_rise start size (x ∷ xs) up))
