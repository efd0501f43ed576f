-- What blocks that are accepted are.
use Rattle.std.proofs.Common.{◌≡◌, ℕ, ◌%◌, ◌==◌, ◌||◌, Bool, true, List, [], ◌∷◌, Result, Ok, Err, sym, arith, rules}
use Rattle.pe_version.proofs.Cited.{not, if◌then◌else◌, list_all, nat_tests, outcome, block_of, block_tests, BlockValue, Fits}
use Rattle.pe_version.proofs.Cited.{NoZero, padded_block, both}

passed : {Y R : Type 0} (t : Bool) (r : R) (rest : Result Y R) (y : Y) → (if t then rest else Err r) ≡ Ok y → (t ≡ true) × (rest ≡ Ok y)
passed t r rest y h = grind arith

pub value_is : {Y R : Type 0} (tests : List (Bool × R)) (x y : Y) → outcome tests x ≡ Ok y → x ≡ y
value_is [] x y h = cc
value_is (test ∷ tests) x y h = value_is tests x y (passed test.0 test.1 (outcome tests x) y h).1

plain : (us : List ℕ) → list_all (λ u. not (u == 0)) us ≡ true → NoZero us
plain [] h = tt
plain (u ∷ us) h =
    let some : not (u == 0) ≡ true = (both (not (u == 0)) (list_all (λ v. not (v == 0)) us) h).0 in
    (grind (arith, nat_tests, some), plain us (both (not (u == 0)) (list_all (λ v. not (v == 0)) us) h).1)

even_by : (t : Bool) (n : ℕ) → (not t || n % 2 == 0) ≡ true → t ≡ true → n % 2 ≡ 0
even_by t n h e = grind (arith, nat_tests)

-- tests passed with any value
pub fits_if : {Y : Type 0} (k : BlockValue) (y z : Y) → outcome (block_tests k) y ≡ Ok z → Fits k
fits_if k y z e = search (rules, arith, passed, both, nat_tests, plain, even_by)

pub made_fits : (k : BlockValue) (s : List ℕ) → block_of k ≡ Ok s → Fits k
made_fits k s e = fits_if k (padded_block k) s e

pub made_is : (k : BlockValue) (s : List ℕ) → block_of k ≡ Ok s → s ≡ padded_block k
made_is k s e = sym (value_is (block_tests k) (padded_block k) s e)
