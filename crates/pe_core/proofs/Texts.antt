-- Text, and the bytes before a zero.
use Rattle.std.proofs.Common.{◌≡◌, ℕ, ◌-◌, ◌≤◌, ◌<◌, Bool, cond, List, [], length, take, drop, Some, None, sym, ap, arith}
use Rattle.std.specs.Prelude.{position, nat_lt, ◌==◌}
use Rattle.std.specs.List.{before_first, position_or_len}
use Rattle.std.specs.Option.{option_and_then}
use Rattle.std.proofs.lemmas.List.{take_all, take_rest, drop_all}
use Rattle.std.proofs.lemmas.Bool.Decides.{nat_tests}
use Rattle.std.proofs.lemmas.Str.{IsUtf8-from_is_utf8, is_utf8-from_IsUtf8}
use Rattle.pe_core.specs.Text.{text_of, text_to_zero}

-- the test of text decides what it tests
pub ruleset utf8_tests = (IsUtf8-from_is_utf8, is_utf8-from_IsUtf8)

found : {X : Type 0} (n m : ℕ) (xs : List X) → cond (nat_lt n (length xs)) (Some n) None ≡ Some m → take m xs ≡ take n xs
found n m xs e = grind (arith, nat_tests)

missing : {X : Type 0} (n : ℕ) (xs : List X) → cond (nat_lt n (length xs)) (Some n) None ≡ None → xs ≡ take n xs
missing n xs e =
    let past : length xs ≤ n = grind (arith, nat_tests) in
    sym (take_all n xs past)

pub before_first-found : {X : Type 0} (p : X → Bool) (xs : List X) (n : ℕ) → position p xs ≡ Some n → take n xs ≡ before_first p xs
before_first-found p xs n e = found (position_or_len p xs) n xs e

pub before_first-missing : {X : Type 0} (p : X → Bool) (xs : List X) → position p xs ≡ None → xs ≡ before_first p xs
before_first-missing p xs e = missing (position_or_len p xs) xs e

pub ruleset before_zero = (before_first-found, before_first-missing)

pub rest_is : (bs : List ℕ) (offset : ℕ) → take (length bs - offset) (drop offset bs) ≡ drop offset bs
rest_is bs offset = take_rest bs offset

pub no_rest : (bs : List ℕ) (offset : ℕ) → length bs < offset → [] ≡ drop offset bs
no_rest bs offset lt = sym (drop_all offset bs (omega arith))

pub ruleset rests = (rest_is, no_rest)

-- where the first zero is known
pub zero_found : (bs : List ℕ) (n : ℕ) → position (λ c. c == 0) bs ≡ Some n → text_to_zero bs ≡ text_of (take n bs)
unfolding text_to_zero
zero_found bs n e = ap (option_and_then (λ m. text_of (take m bs))) e

pub zero_missing : (bs : List ℕ) → position (λ c. c == 0) bs ≡ None → text_to_zero bs ≡ None
unfolding text_to_zero
zero_missing bs e = ap (option_and_then (λ m. text_of (take m bs))) e

pub ruleset to_zero = (zero_found, zero_missing)
