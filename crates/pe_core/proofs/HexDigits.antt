-- A number by its hexadecimal digits.
use Rattle.std.proofs.Common.{◌≡◌, ℕ, ◌+◌, ◌*◌, ◌^◌, ◌<◌, ◌≤◌, List, [], ◌∷◌, Option, Some, None, refl, ◌∙◌, arith, lit<, add-one}
use Rattle.std.specs.Prelude.{option_and_then}
use Rattle.std.proofs.Math.Nat.{pow-suc, pow-le-pow_right}
use Rattle.std.proofs.lemmas.Bool.Decides.{nat_tests}
use Rattle.pe_core.specs.HexDigits.{digit_of, number_after}

-- a digit more
pub power_more : (n i digit : ℕ) → n < 16 ^ i → digit < 16 → 16 * n + digit < 16 ^ (i + 1)
power_more n i digit small below = rw add-one (omega (arith, pow-suc 16 i))

-- up to eight digits fit 32 bits
pub power_small : (n i : ℕ) → n < 16 ^ i → i ≤ 8 → n < 2 ^ 32
power_small n i small le = omega (arith, small, pow-le-pow_right {n = 16} (lit< tt) le)

pub digit_small : (code digit : ℕ) → digit_of code ≡ Some digit → digit < 16
unfolding digit_of
digit_small code digit h = grind (arith, nat_tests, h)

-- the number that digits make after a number, by the first of them
of_digit : (n digit : ℕ) (cs : List ℕ) (d : Option ℕ) → d ≡ Some digit → option_and_then (λ digit. number_after (16 * n + digit) cs) d ≡ number_after (16 * n + digit) cs
of_digit n digit cs d e = rw e refl

of_none : (n : ℕ) (cs : List ℕ) (d : Option ℕ) → d ≡ None → option_and_then (λ digit. number_after (16 * n + digit) cs) d ≡ None
of_none n cs d e = rw e refl

after-cons : (n c : ℕ) (cs : List ℕ) → number_after n (c ∷ cs) ≡ option_and_then (λ digit. number_after (16 * n + digit) cs) (digit_of c)
unfolding number_after
after-cons n c cs = refl

pub after-nil : (n : ℕ) → number_after n [] ≡ Some n
unfolding number_after
after-nil n = refl

pub after-digit : (n c digit : ℕ) (cs : List ℕ) → digit_of c ≡ Some digit → number_after n (c ∷ cs) ≡ number_after (16 * n + digit) cs
after-digit n c digit cs e = after-cons n c cs ∙ of_digit n digit cs (digit_of c) e

pub after-none : (n c : ℕ) (cs : List ℕ) → digit_of c ≡ None → number_after n (c ∷ cs) ≡ None
after-none n c cs e = after-cons n c cs ∙ of_none n cs (digit_of c) e
