-- The last entry at or before an RVA, in entries that are sorted.
use Rattle.std.proofs.Common.{◌≡◌, ℕ, ◌-◌, ◌<◌, ◌≤◌, List, length, get_or, Option, arith, inl, inr}
use Rattle.std.specs.List.{All}
use Rattle.std.specs.List.Sorted.{IsNonDecreasing, IsNonDecreasingBy, IsPermutation}
use Rattle.std.proofs.lemmas.Bool.{cases_lt}
use Rattle.std.proofs.lemmas.List.Sorted.{All-permutation, Contains-permutation, IsPermutation-sym}
use Rattle.pe_pdb.specs.SymbolEntries.{rva_in}
use Rattle.pe_pdb.specs.SymbolIndexes.{IsNearest, Nearest}
use Rattle.pe_pdb.specs.declared.symbol_lookup.SymbolAddress.{SymbolAddress}

pub rvas_rise : (xs : List ℕ) → IsNonDecreasing xs → IsNonDecreasingBy rva_in xs
rvas_rise xs up i j d le lt = let h = up i j d le lt in omega (arith, h)

-- the first n entries are at or before the RVA
pub nearest_of : (xs : List ℕ) (x n : ℕ) → IsNonDecreasing xs → 0 < n → n ≤ length xs →
    ((k : ℕ) (d : ℕ) → k < n → k < length xs → rva_in (get_or xs k d) ≤ x) →
    ((k : ℕ) (d : ℕ) → n ≤ k → k < length xs → x < rva_in (get_or xs k d)) →
    (a : ℕ) → ((d : ℕ) → get_or xs (n - 1) d ≡ a) → IsNearest xs x a
nearest_of xs x n up some within before after a is = record {
  listed = (n - 1, omega (arith, within, some), is a);
  before = let h = before (n - 1) 0 (omega (arith, some)) (omega (arith, within, some)) in let e = is 0 in grind (arith, h, e);
  last = λ k d lt le. elim (cases_lt k n) [
    | inl low ↦
        let h : get_or xs k d ≤ get_or xs (n - 1) d = up k (n - 1) d (omega (arith, low)) (omega (arith, within, some)) in
        let e = is d in grind (arith, h, e)
    | inr high ↦ let h = after k d high lt in absurd (omega (arith, h, le))
  ];
}

-- ---- in another order

pub all_of_sorted : (P : ℕ → Type 0) (xs ys : List ℕ) → IsPermutation xs ys → All P ys → All P xs
all_of_sorted P xs ys same all = All-permutation P ys xs (IsPermutation-sym xs ys same) all

pub nearest_permuted : (xs ys : List ℕ) (rva a : ℕ) → IsPermutation xs ys → IsNearest ys rva a → IsNearest xs rva a
nearest_permuted xs ys rva a same near = record {
  listed = Contains-permutation ys xs a (IsPermutation-sym xs ys same) near.listed;
  before = near.before;
  last = all_of_sorted (λ k. rva_in k ≤ rva → k ≤ a) xs ys same near.last;
}

-- ---- one answer

pub nearest_once : (xs : List ℕ) (rva : ℕ) (one other : Option SymbolAddress) → Nearest xs rva one → Nearest xs rva other → one ≡ other
nearest_once xs rva one other e i = grind arith
