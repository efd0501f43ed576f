-- Numbers in hexadecimal digits, by their codes in ASCII or UTF-16.
use Rattle.std.specs.Prelude.{ℕ, ◌+◌, ◌-◌, ◌*◌, ◌&&◌, Bool, List, [], ◌∷◌, Option, Some, None, nat_le, option_and_then, if◌then◌else◌}

-- the code is at least the first of these, and at most the last
abbrev pub is_between : ℕ → ℕ → ℕ → Bool
is_between first last code = nat_le first code && nat_le code last

-- the value of a hexadecimal digit of either case: 48 is `0`, 65 is `A`, 97 is `a`
unfoldable pub digit_of : ℕ → Option ℕ
digit_of code =
    if is_between 48 57 code then Some (code - 48)
    else (if is_between 65 70 code then Some (code - 55)
    else (if is_between 97 102 code then Some (code - 87) else None))

-- the number of these digits, after others that make the number `front`
unfoldable pub number_after : ℕ → List ℕ → Option ℕ
number_after front [] = Some front
number_after front (code ∷ codes) = option_and_then (λ digit. number_after (16 * front + digit) codes) (digit_of code)
