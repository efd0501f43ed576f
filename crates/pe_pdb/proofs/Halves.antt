-- What a search by halves keeps, and how many entries it reads.
use Rattle.std.proofs.Common.{◌≡◌, ℕ, ◌+◌, ◌/◌, ◌^◌, ◌<◌, ◌≤◌, List, length, get_or, arith}
use Rattle.std.specs.Int.Digits.{digits_of}
use Rattle.std.proofs.lemmas.Bool.Decides.{nat_tests}
use Rattle.std.proofs.lemmas.Int.Digits.{length-digits_of_step, length-digits_of-le, number_lt, number_digits_of, all_below_base_digits_of}
use Rattle.pe_core.specs.CountedTable.{one_more}
use Rattle.pe_pdb.specs.Lookups.{IsCut, digits}

-- ---- the count of reads

lt-digits : (n : ℕ) → n < 2 ^ digits n
unfolding digits
lt-digits n = omega (arith, number_lt 2 (digits_of 2 n) (all_below_base_digits_of 2 n (omega arith)), number_digits_of 2 n (omega arith))

pub digits-le : (m n : ℕ) → m ≤ n → digits m ≤ digits n
unfolding digits
digits-le m n h = length-digits_of-le 2 (digits n) m (omega arith) (omega (arith, lt-digits n))

-- what is left after a halving has one digit less
pub digits-halved : (n k : ℕ) → 0 < n → k ≤ n / 2 → digits k + 1 ≤ digits n
unfolding digits
digits-halved n k h l = omega (arith, length-digits_of_step 2 n (omega arith) h, digits-le k (n / 2) l)

pub one_more-le : (n : ℕ) → one_more n ≤ n + 1
one_more-le n = grind (arith, nat_tests)

-- ---- the search

pub starts : {X : Type 0} (start : X → ℕ) (xs : List X) (a n : ℕ) → n ≡ length xs → IsCut start xs a 0 n
starts start xs a n all = grind arith

-- an entry starts at or before the address: so do those before it
pub goes_up : {X : Type 0} (start : X → ℕ) (xs : List X) (a low high m n end : ℕ) (x : X) → IsCut start xs a low high → m < high → n ≤ m + 1 → end ≡ high → ((d : X) → x ≡ get_or xs m d) → start x ≤ a → IsCut start xs a n end
goes_up start xs a low high m n end x cut to next same is passes = grind arith

-- it starts after the address: so do those after it
pub goes_down : {X : Type 0} (start : X → ℕ) (xs : List X) (a low high m end : ℕ) (x : X) → IsCut start xs a low high → low ≤ end → m ≤ end → end ≤ high → ((d : X) → x ≡ get_or xs m d) → a < start x → IsCut start xs a low end
goes_down start xs a low high m end x cut from to within is fails = grind arith
