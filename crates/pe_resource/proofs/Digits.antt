-- A number by its hexadecimal digits in UTF-16.
use Rattle.std.proofs.Common.{◌≡◌, ℕ, suc, ◌+◌, ◌*◌, ◌/◌, ◌<◌, ◌≤◌, ◌∷◌, List, length, drop, Some, None, refl, arith, drop-cons, add-one}
use Rattle.pe_resource.proofs.Cited.{drop_all, le, digit_of, number_after, power_more, power_small, after-nil, after-digit, after-none}
use Rattle.pe_resource.proofs.Cited.{units}
use Rattle.pe_resource.proofs.Units.{units_count, unit_at}

front_of : (b : List ℕ) (i : ℕ) → i < length b / 2 → drop i (units b) ≡ le b (2 * i) 2 ∷ drop (suc i) (units b)
front_of b i h = let e = unit_at b i h in rw (drop-cons (units b) i 0 (omega (arith, units_count b, h)), e) refl

pub digit_more : (n i digit : ℕ) (b : List ℕ) → i < length b / 2 → digit_of (le b (2 * i) 2) ≡ Some digit → number_after n (drop i (units b)) ≡ number_after (16 * n + digit) (drop (i + 1) (units b))
digit_more n i digit b h e = rw (front_of b i h, add-one) (after-digit n (le b (2 * i) 2) digit (drop (suc i) (units b)) e)

pub no_digit : (n i : ℕ) (b : List ℕ) → i < length b / 2 → digit_of (le b (2 * i) 2) ≡ None → number_after n (drop i (units b)) ≡ None
no_digit n i b h e = rw (front_of b i h) (after-none n (le b (2 * i) 2) (drop (suc i) (units b)) e)

pub no_more_digits : (n i : ℕ) (b : List ℕ) → length b / 2 ≤ i → number_after n (drop i (units b)) ≡ Some n
no_more_digits n i b h = rw (drop_all i (units b) (omega (arith, units_count b, h))) (after-nil n)

pub ruleset steps = (power_more, power_small, digit_more, no_digit, no_more_digits)
