-- Sums of the sizes of pieces, and the pieces that are left of a list.
use Rattle.std.proofs.Common.{◌≡◌, ℕ, zero, suc, ◌+◌, ◌-◌, ◌/◌, ◌^◌, ◌<◌, ◌≤◌, List, [], ◌∷◌, map, length, refl, ap, subst, sym, ◌∙◌, arith}
use Rattle.std.specs.List.{range_with_len}
use Rattle.pe_minidump.specs.Memory64.{pieces_from, piece64, size_of_first, size_of_piece}

-- one piece more
pub first_more : (ranges : List ℕ) (n : ℕ) → size_of_first ranges (n + 1) ≡ size_of_first ranges n + size_of_piece ranges n
first_more ranges n =
    let one : n + 1 ≡ suc n = omega arith in
    ap (size_of_first ranges) one ∙ unfold size_of_first in refl

-- more pieces have no fewer bytes
more_by : (ranges : List ℕ) (i d : ℕ) → size_of_first ranges i ≤ size_of_first ranges (i + d)
more_by ranges i zero = let same : i + 0 ≡ i = omega arith in subst (λ k. size_of_first ranges i ≤ size_of_first ranges k) (sym same) (omega arith)
more_by ranges i (suc d) =
    let next : i + suc d ≡ (i + d) + 1 = omega arith in
    let step : size_of_first ranges ((i + d) + 1) ≡ size_of_first ranges (i + d) + size_of_piece ranges (i + d) = first_more ranges (i + d) in
    let before : size_of_first ranges i ≤ size_of_first ranges (i + d) = more_by ranges i d in
    subst (λ k. size_of_first ranges i ≤ size_of_first ranges k) (sym next) (omega (arith, step, before))

pub first_rises : (ranges : List ℕ) (i n : ℕ) → i ≤ n → size_of_first ranges i ≤ size_of_first ranges n
first_rises ranges i n le =
    let parts : i + (n - i) ≡ n = omega (arith, le) in
    subst (λ k. size_of_first ranges i ≤ size_of_first ranges k) parts (more_by ranges i (n - i))

-- ---- the pieces that are left

pub pieces_more : (file ranges : List ℕ) (base i : ℕ) → i < length ranges / 16 → pieces_from file ranges base i ≡ piece64 file ranges base i ∷ pieces_from file ranges base (i + 1)
pieces_more file ranges base i h =
    let count : length ranges / 16 - i ≡ suc (length ranges / 16 - (i + 1)) = omega (arith, h) in
    ap (λ (m : ℕ). map (λ k. piece64 file ranges base k) (range_with_len i m)) count

pub pieces_none : (file ranges : List ℕ) (base i : ℕ) → length ranges / 16 ≤ i → pieces_from file ranges base i ≡ []
pieces_none file ranges base i h =
    let count : length ranges / 16 - i ≡ 0 = omega (arith, h) in
    ap (λ (m : ℕ). map (λ k. piece64 file ranges base k) (range_with_len i m)) count

-- ---- offsets

pub first_offset : (file ranges : List ℕ) (base : ℕ) → (piece64 file ranges base 0).offset ≡ base
first_offset file ranges base =
    let none : size_of_first ranges 0 ≡ 0 = unfold size_of_first in refl in
    omega (arith, none)

pub next_offset : (file ranges : List ℕ) (base i : ℕ) → (piece64 file ranges base (i + 1)).offset ≡ (piece64 file ranges base i).offset + size_of_piece ranges i
next_offset file ranges base i =
    let one : size_of_first ranges (i + 1) ≡ size_of_first ranges i + size_of_piece ranges i = first_more ranges i in
    omega (arith, one)

-- the end of a piece is below 2 ^ 64 if that of the last is
pub end_fits : (ranges : List ℕ) (base offset size i : ℕ) → base + size_of_first ranges (length ranges / 16) < 2 ^ 64 → i < length ranges / 16 → offset ≡ base + size_of_first ranges i → size ≡ size_of_piece ranges i → offset + size < 2 ^ 64
end_fits ranges base offset size i fits inside at is =
    let one : size_of_first ranges (i + 1) ≡ size_of_first ranges i + size_of_piece ranges i = first_more ranges i in
    let more : size_of_first ranges (i + 1) ≤ size_of_first ranges (length ranges / 16) = first_rises ranges (i + 1) (length ranges / 16) (omega (arith, inside)) in
    omega (arith, fits, at, is, one, more)
