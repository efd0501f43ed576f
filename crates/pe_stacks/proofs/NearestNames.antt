-- The address that names an RVA, by two searches in ascending addresses.
use Rattle.std.proofs.Common.{◌≡◌, ℕ, ◌+◌, ◌-◌, ◌<◌, ◌≤◌, List, [], ◌∷◌, ◌++◌, length, get_or, take, arith, refl, sym, inl, inr}
use Rattle.std.specs.List.{All}
use Rattle.std.specs.List.Sorted.{IsNonDecreasing, IsNonDecreasingBy, IsPermutation}
use Rattle.std.proofs.lemmas.List.Sorted.{All-permutation, Contains-permutation, IsPermutation-sym}
use Rattle.std.proofs.lemmas.Bool.{cases_eq, cases_lt}
use Rattle.std.proofs.lemmas.Bool.Decides.{nat_tests}
use Rattle.std.proofs.lemmas.List.{take_more_set, append-nil}
use Rattle.std.specs.Prelude.{◌==◌, Option, None, Some, false, nat_le, slice_set, true}
use Rattle.pe_stacks.specs.Names.{IsNearest, Names, Nearest, export_at, name_inside, rva_of}
use Rattle.pe_stacks.specs.declared.names.FunctionStart.{FunctionStart}
use Rattle.pe_stacks.specs.declared.names.FunctionStart.TheVariants.{NoTable, NoFunction, Starts}
use Rattle.pe_stacks.specs.declared.names.NamedFunction.{NamedFunction}

pub no_more : (xs : List ℕ) → xs ≡ xs ++ []
no_more xs = sym (append-nil xs)

pub one_more : (xs : List ℕ) (i x : ℕ) → i < length xs → take (i + 1) (slice_set xs i x) ≡ take i xs ++ x ∷ []
one_more xs i x lt = take_more_set xs i x lt

pub rvas_rise : (xs : List ℕ) → IsNonDecreasing xs → IsNonDecreasingBy rva_of xs
rvas_rise xs up i j d le lt = let h = up i j d le lt in omega (arith, h)

-- the first n addresses are at or before the RVA, and the first m before the last of these
pub nearest_of : (xs : List ℕ) (x n m : ℕ) → IsNonDecreasing xs → 0 < n → n ≤ length xs → m < n →
    ((k : ℕ) (d : ℕ) → k < n → k < length xs → rva_of (get_or xs k d) ≤ x) →
    ((k : ℕ) (d : ℕ) → n ≤ k → k < length xs → x < rva_of (get_or xs k d)) →
    ((k : ℕ) (d : ℕ) → k < m → k < length xs → rva_of (get_or xs k d) < rva_of (get_or xs (n - 1) d)) →
    ((k : ℕ) (d : ℕ) → m ≤ k → k < length xs → rva_of (get_or xs (n - 1) d) ≤ rva_of (get_or xs k d)) →
    (a : ℕ) → ((d : ℕ) → get_or xs m d ≡ a) → IsNearest xs x a
nearest_of xs x n m up some within inside before after earlier later a is = record {
  listed = (m, omega (arith, within, inside), is a);
  before = let h = before m 0 inside (omega (arith, within, inside)) in let e = is 0 in grind (arith, h, e);
  last = λ k d lt le. elim (cases_lt k n) [
    | inl low ↦
        let last : rva_of (get_or xs k d) ≤ rva_of (get_or xs (n - 1) d) = rvas_rise xs up k (n - 1) d (omega (arith, low)) (omega (arith, within, some)) in
        let start : rva_of (get_or xs (n - 1) d) ≤ rva_of (get_or xs m d) = later m d (omega arith) (omega (arith, within, inside)) in
        let e = is d in grind (arith, last, start, e)
    | inr high ↦ let h = after k d high lt in absurd (omega (arith, h, le))
  ];
  first = λ k d lt same. elim (cases_lt k m) [
    | inl low ↦
        let h : rva_of (get_or xs k d) < rva_of (get_or xs (n - 1) d) = earlier k d low lt in
        let start : rva_of (get_or xs (n - 1) d) ≤ rva_of (get_or xs m d) = later m d (omega arith) (omega (arith, within, inside)) in
        let e = is d in absurd (grind (arith, h, start, e, same))
    | inr high ↦ let h = up m k d high lt in let e = is d in grind (arith, h, e)
  ];
}

-- ---- in another order

pub all_of_sorted : (P : ℕ → Type 0) (xs ys : List ℕ) → IsPermutation xs ys → All P ys → All P xs
all_of_sorted P xs ys same all = All-permutation P ys xs (IsPermutation-sym xs ys same) all

pub nearest_permuted : (xs ys : List ℕ) (rva a : ℕ) → IsPermutation xs ys → IsNearest ys rva a → IsNearest xs rva a
nearest_permuted xs ys rva a same near = record {
  listed = Contains-permutation ys xs a (IsPermutation-sym xs ys same) near.listed;
  before = near.before;
  last = all_of_sorted (λ k. rva_of k ≤ rva → rva_of k ≤ rva_of a) xs ys same near.last;
  first = all_of_sorted (λ k. rva_of k ≡ rva_of a → a ≤ k) xs ys same near.first;
}

-- ---- names stay in their function

-- what a name in a function that starts there is
pub record IsInside (start rva : ℕ) (n : NamedFunction) : Type 0 where
  pub after : start ≤ n.start
  pub before : n.start ≤ rva
  pub export : n.is_export ≡ true → n.start ≡ start
  pub sure : n.is_nearest ≡ false

exported : (start rva : ℕ) (e : Option ℕ) (n : NamedFunction) → start ≤ rva → Some n ≡ export_at start e → IsInside start rva n
exported start rva None n le is = absurd (grind (arith, is))
exported start rva (Some e) n le is = elim (cases_eq (rva_of e) start) [
  | inl same ↦ let t : (rva_of e == start) ≡ true = grind (arith, nat_tests, same) in record { after = grind (arith, is, t, same); before = grind (arith, is, t, same, le); export = λ k. grind (arith, is, t, same); sure = grind (arith, is, t) }
  | inr other ↦ let t : (rva_of e == start) ≡ false = grind (arith, nat_tests, other) in absurd (grind (arith, is, t))
]

pub inside : (start rva : ℕ) (symbols : List ℕ) (s e : Option ℕ) (n : NamedFunction) → start ≤ rva → Nearest symbols rva s → Some n ≡ name_inside start s e → IsInside start rva n
inside start rva symbols None e n le near is = exported start rva e n le is
inside start rva symbols (Some s) e n le near is = elim (cases_lt (rva_of s) start) [
  | inl low ↦ let t : nat_le start (rva_of s) ≡ false = grind (arith, nat_tests, low) in exported start rva e n le (grind (arith, is, t))
  | inr high ↦ let t : nat_le start (rva_of s) ≡ true = grind (arith, nat_tests, high) in let b = near.before in record { after = grind (arith, is, t, high); before = grind (arith, is, t, b); export = λ k. absurd (grind (arith, is, t, k)); sure = grind (arith, is, t) }
]

sure_export : (start : ℕ) (e : Option ℕ) (n : NamedFunction) → Some n ≡ export_at start e → n.is_nearest ≡ false
sure_export start e n is = (exported start start e n (omega arith) is).sure

is_sure : (start : ℕ) (s e : Option ℕ) (n : NamedFunction) → Some n ≡ name_inside start s e → n.is_nearest ≡ false
is_sure start None e n is = sure_export start e n is
is_sure start (Some s) e n is = elim (cases_lt (rva_of s) start) [
  | inl low ↦ let t : nat_le start (rva_of s) ≡ false = grind (arith, nat_tests, low) in sure_export start e n (grind (arith, is, t))
  | inr high ↦ let t : nat_le start (rva_of s) ≡ true = grind (arith, nat_tests, high) in grind (arith, is, t)
]

pub only_nearest : (symbols exports : List ℕ) (function : FunctionStart) (rva : ℕ) (n : NamedFunction) → Names symbols exports function rva (Some n) → n.is_nearest ≡ true → function ≡ NoTable
only_nearest symbols exports NoTable rva n names near = refl
only_nearest symbols exports NoFunction rva n names near = absurd (grind (arith, names))
only_nearest symbols exports (Starts start) rva n (s, first, e, second, is) near = absurd (grind (arith, is_sure start s e n is, near))
