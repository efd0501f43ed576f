-- Tests of numbers and of truth values, by what they say.
use Rattle.std.proofs.Common.{◌≡◌, ℕ, ◌<◌, ◌≤◌, ◌||◌, Bool, true, false, cond, Some, None, refl, arith}
use Rattle.std.specs.Prelude.{nat_le, nat_lt}
use Rattle.std.proofs.lemmas.Bool.Decides.{nat_tests}

pub lt_is : (m n : ℕ) → m < n → nat_lt m n ≡ true
lt_is m n h = grind (arith, nat_tests)

pub lt_is_not : (m n : ℕ) → n ≤ m → nat_lt m n ≡ false
lt_is_not m n h = grind (arith, nat_tests)

pub le_is : (m n : ℕ) → m ≤ n → nat_le m n ≡ true
le_is m n h = grind (arith, nat_tests)

pub le_is_not : (m n : ℕ) → n < m → nat_le m n ≡ false
le_is_not m n h = grind (arith, nat_tests)

pub not_below : (n k : ℕ) → nat_lt n k ≡ false → k ≤ n
not_below n k e = grind (arith, nat_tests)

-- an index that is returned if it is below a length
pub within : (m k l : ℕ) → m ≡ k → k < l → cond (nat_lt m l) (Some m) None ≡ Some k
within m k l e lt = grind (arith, nat_tests)

pub is_past : (m l : ℕ) → cond (nat_lt m l) (Some m) None ≡ None → l ≤ m
is_past m l e = grind (arith, nat_tests)

pub or_false : (a : Bool) → (a || false) ≡ a
or_false true = refl
or_false false = refl
