-- The bytes of the number that stands at an offset are the bytes from there.
use Rattle.std.proofs.Common.{rules, ◌≡◌, ℕ, zero, suc, ◌+◌, ◌-◌, ◌*◌, ◌/◌, ◌%◌, ◌^◌, ◌<◌, ◌≤◌, List, ◌∷◌, ◌++◌, length, refl, ap, sym, ◌∙◌, arith, drop-cons}
use Rattle.std.specs.Prelude.{slice_index, slice_range}
use Rattle.std.proofs.lemmas.List.{places, same_lists}
use native.Mathlib.Numerals.{unary_clauses}
use Rattle.pe_core.specs.Bytes.{AreBytes, le, bytes_of}

pub le-zero : (b : List ℕ) (p : ℕ) → le b p 0 ≡ 0
unfolding le
le-zero b p = refl

le-suc : (b : List ℕ) (p n : ℕ) → le b p (suc n) ≡ le b p n + slice_index b (p + n) * 256 ^ n
unfolding le
le-suc b p n = refl

-- numbers whose bytes are the same, each from its offset on
pub le-same : (b c : List ℕ) (p q n : ℕ) → ((k : ℕ) → k < n → slice_index b (p + k) ≡ slice_index c (q + k)) → le b p n ≡ le c q n
unfolding le
le-same b c p q zero h = refl
le-same b c p q (suc n) h =
    ap (λ m. m + slice_index b (p + n) * 256 ^ n) (le-same b c p q n (λ k lt. h k (omega arith))) ∙ ap (λ m. le c q n + m * 256 ^ n) (h n (omega arith))

times_pow : (s n : ℕ) → s * 256 ^ suc n ≡ 256 * (s * 256 ^ n)
times_pow s n = simp unary_clauses (grind arith)

-- the lowest byte comes first
pub le-cons : (b : List ℕ) (p n : ℕ) → le b p (suc n) ≡ slice_index b p + 256 * le b (suc p) n
le-cons b p zero =
    let at_start : p + 0 ≡ p = omega arith in
    let one : le b p 1 ≡ le b p 0 + slice_index b (p + 0) * 256 ^ 0 = le-suc b p 0 in
    let byte : le b p 1 ≡ le b p 0 + slice_index b p * 1 = rw at_start at one in
    omega (arith, byte, le-zero b p, le-zero b (suc p))
le-cons b p (suc n) =
    let fewer : le b p (suc n) ≡ slice_index b p + 256 * le b (suc p) n = le-cons b p n in
    let same : p + suc n ≡ suc p + n = omega arith in
    let last : le b p (suc (suc n)) ≡ le b p (suc n) + slice_index b (p + suc n) * 256 ^ suc n = le-suc b p (suc n) in
    let moved : le b p (suc (suc n)) ≡ le b p (suc n) + slice_index b (suc p + n) * 256 ^ suc n = rw same at last in
    omega (arith, fewer, moved, le-suc b (suc p) n, times_pow (slice_index b (suc p + n)) n)

range-cons : (b : List ℕ) (p n : ℕ) → p + suc n ≤ length b → slice_range b p (p + suc n) ≡ slice_index b p ∷ slice_range b (suc p) (suc p + n)
range-cons b p n h =
    let all : p + suc n - p ≡ suc n = omega arith in
    let rest : suc p + n - suc p ≡ n = omega arith in
    rw (all, rest, drop-cons b p 0 (omega arith)) refl

pub bytes_of-le : (b : List ℕ) (p n : ℕ) → AreBytes b → p + n ≤ length b → bytes_of n (le b p n) ≡ slice_range b p (p + n)
unfolding bytes_of
bytes_of-le b p zero small h = let none : p + 0 - p ≡ 0 = omega arith in rw none refl
bytes_of-le b p (suc n) small h =
    let parts : le b p (suc n) ≡ slice_index b p + 256 * le b (suc p) n = le-cons b p n in
    let first : le b p (suc n) % 256 ≡ slice_index b p = omega (arith, parts, small p) in
    let others : le b p (suc n) / 256 ≡ le b (suc p) n = omega (arith, parts, small p) in
    let rest : bytes_of n (le b (suc p) n) ≡ slice_range b (suc p) (suc p + n) = bytes_of-le b (suc p) n small (omega arith) in
    rw (first, others, rest) (sym (range-cons b p n h))

-- two ranges side by side
pub range_join : (b : List ℕ) (p q r : ℕ) → p ≤ q → q ≤ r → r ≤ length b → slice_range b p q ++ slice_range b q r ≡ slice_range b p r
range_join b p q r h i l =
    same_lists _ _ (search (rules, places)) (λ k d lt. grind (arith, places))

-- a number of four bytes
pub le_small : (b : List ℕ) (p : ℕ) → AreBytes b → le b p 4 < 2 ^ 32
unfolding le
le_small b p small =
    let b0 = small (p + 0) in
    let b1 = small (p + 1) in
    let b2 = small (p + 2) in
    let b3 = small (p + 3) in
    omega arith
