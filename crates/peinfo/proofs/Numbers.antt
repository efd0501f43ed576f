-- A number by its hexadecimal digits.
use Rattle.std.proofs.Common.{◌≡◌, ℕ, suc, ◌+◌, ◌*◌, ◌<◌, ◌≤◌, List, length, drop, get_or, Some, None, drop-cons, add-one}
use Rattle.std.proofs.lemmas.List.{drop_all}
use Rattle.pe_core.specs.HexDigits.{digit_of, number_after}
use Rattle.pe_core.proofs.HexDigits.{power_more, power_small, after-nil, after-digit, after-none}

pub digit_more : (n i digit : ℕ) (ds : List ℕ) → i < length ds → digit_of (get_or ds i 0) ≡ Some digit → number_after n (drop i ds) ≡ number_after (16 * n + digit) (drop (i + 1) ds)
digit_more n i digit ds h e = rw (drop-cons ds i 0 h, add-one) (after-digit n (get_or ds i 0) digit (drop (suc i) ds) e)

pub no_digit : (n i : ℕ) (ds : List ℕ) → i < length ds → digit_of (get_or ds i 0) ≡ None → number_after n (drop i ds) ≡ None
no_digit n i ds h e = rw (drop-cons ds i 0 h) (after-none n (get_or ds i 0) (drop (suc i) ds) e)

pub no_more_digits : (n i : ℕ) (ds : List ℕ) → length ds ≤ i → number_after n (drop i ds) ≡ Some n
no_more_digits n i ds h = rw (drop_all i ds h) (after-nil n)

pub ruleset steps = (power_more, power_small, digit_more, no_digit, no_more_digits)
