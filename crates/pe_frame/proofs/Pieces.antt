-- Memory in several pieces.
use Rattle.std.proofs.Common.{◌≡◌, ℕ, zero, suc, ◌+◌, ◌≤◌, List, ◌∷◌, ◌++◌, Option, Some, None, inl, inr, refl, subst, arith, add-one, []}
use Rattle.pe_frame.proofs.Cited.{cases_lt, known_bytes}

module _ (byte : ℕ → Option ℕ) (a : ℕ) where
  -- a byte more
  pub byte_more : (i b : ℕ) (before : List ℕ) → known_bytes byte a i ≡ Some before → byte (a + i) ≡ Some b → known_bytes byte a (i + 1) ≡ Some (before ++ b ∷ [])
  byte_more i b before known is = rw (add-one i, known, is) refl

  pub byte_missing : (i : ℕ) (before : List ℕ) → known_bytes byte a i ≡ Some before → byte (a + i) ≡ None → known_bytes byte a (i + 1) ≡ None
  byte_missing i before known is = rw (add-one i, known, is) refl

  -- where not all bytes of a part are known, not all of the whole are
  pub still_unknown : (n m : ℕ) → n ≤ m → known_bytes byte a n ≡ None → known_bytes byte a m ≡ None
  still_unknown n zero le none = let same : n ≡ 0 = omega (arith, le) in subst (λ (k : ℕ). known_bytes byte a k ≡ None) same none
  still_unknown n (suc m) le none =
      elim (cases_lt m n) [
        | inl more ↦ let same : n ≡ suc m = omega (arith, more, le) in subst (λ (k : ℕ). known_bytes byte a k ≡ None) same none
        | inr less ↦ let none : known_bytes byte a m ≡ None = still_unknown n m less none in rw none refl
      ]
