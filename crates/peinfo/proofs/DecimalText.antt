-- Decimal digits, two at a time.
use Rattle.std.proofs.Common.{◌≡◌, ℕ, ◌+◌, ◌/◌, ◌%◌, ◌^◌, ◌<◌, ◌≤◌, arith, [], ◌∷◌, ◌++◌, refl, append_assoc}
use Rattle.std.specs.Fmt.{decimal}
use Rattle.std.proofs.lemmas.Fmt.{decimal_digit, decimal_step}

pub decimal-two : (n : ℕ) → 10 ≤ n → n < 100 → decimal n ≡ (48 + n / 10 % 10) ∷ (48 + n % 10) ∷ []
decimal-two n low high =
    let same : n / 10 % 10 ≡ n / 10 = omega arith in
    let small : n / 10 < 10 = omega arith in
    let fits : n < 2 ^ 64 = omega arith in
    rw (decimal_step n low fits, decimal_digit (n / 10) small, same) refl

pub decimal-more : (n : ℕ) → 100 ≤ n → n < 2 ^ 32 → decimal n ≡ decimal (n / 100) ++ (48 + n / 10 % 10) ∷ (48 + n % 10) ∷ []
decimal-more n low high =
    let ten : 10 ≤ n = omega arith in
    let fits : n < 2 ^ 64 = omega arith in
    let ten' : 10 ≤ n / 10 = omega arith in
    let fits' : n / 10 < 2 ^ 64 = omega arith in
    let same : n / 10 / 10 ≡ n / 100 = omega arith in
    rw (decimal_step n ten fits, decimal_step (n / 10) ten' fits', same) (append_assoc (decimal (n / 100)) ((48 + n / 10 % 10) ∷ []) ((48 + n % 10) ∷ []))

pub ruleset steps = (decimal_digit, decimal-two, decimal-more)
