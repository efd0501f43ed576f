-- `save_next`, so many in a row before another code.
use Rattle.std.proofs.Common.{◌≡◌, ℕ, zero, suc, ◌+◌, true, false, List, ◌∷◌, Option, None, Result, Err, refl, ap, ◌∙◌, arith, option_and_then, []}
use Rattle.pe_frame.proofs.Cited.{◌>>=◌, then_then, Arm64UnwindCode, SaveNext, Arm64Operation, Arm64Registers, FrameError, Arm64Code}
use Rattle.pe_frame.proofs.Cited.{is_save_next, operation_of, operation_in, next_operation, pair_after, undone_as, undone_codes, with_nexts}
use Rattle.std.proofs.lemmas.Grind.{common_steps}
use Rattle.pe_frame.proofs.Tails.{then_same, then_ok}

pub is_the_next : (c : Arm64UnwindCode) → is_save_next c ≡ true → c ≡ SaveNext
is_the_next c e = grind (arith, common_steps)

-- one more stands before them
pub nexts_more : (n k : ℕ) (cs : List Arm64UnwindCode) → k ≡ n + 1 → with_nexts n (SaveNext ∷ cs) ≡ with_nexts k cs
nexts_more n zero cs e = absurd (omega (arith, e))
nexts_more zero (suc k) cs e = let none : 0 ≡ k = omega (arith, e) in ap (λ (i : ℕ). with_nexts (suc i) cs) none
nexts_more (suc n) (suc k) cs e = ap (λ (xs : List Arm64UnwindCode). SaveNext ∷ xs) (nexts_more n k cs (omega (arith, e)))

after_more : (a k : ℕ) (c : Arm64UnwindCode) → option_and_then (pair_after (a + 1 + k)) (operation_of c) ≡ option_and_then (pair_after (a + suc k)) (operation_of c)
after_more a k c = ap (λ (n : ℕ). option_and_then (pair_after n) (operation_of c)) (omega arith)

after_zero : (a : ℕ) (c : Arm64UnwindCode) → option_and_then (pair_after a) (operation_of c) ≡ option_and_then (pair_after (a + 0)) (operation_of c)
after_zero a c = ap (λ (n : ℕ). option_and_then (pair_after n) (operation_of c)) (omega arith)

-- what the first of them did
next_operation-nexts : (a k : ℕ) (c : Arm64UnwindCode) (cs : List Arm64UnwindCode) → is_save_next c ≡ false → next_operation a (with_nexts k (c ∷ cs)) ≡ option_and_then (pair_after (a + k)) (operation_of c)
next_operation-nexts a zero c cs not = rw not (after_zero a c)
next_operation-nexts a (suc k) c cs not = next_operation-nexts (a + 1) k c cs not ∙ after_more a k c

in_is_of : (c : Arm64UnwindCode) (cs : List Arm64UnwindCode) → is_save_next c ≡ false → operation_in cs c ≡ operation_of c
in_is_of c cs not = rw not refl

-- a code alone
pub undone_alone : (m : ℕ → Option ℕ) (c : Arm64UnwindCode) (g : Arm64Registers) → is_save_next c ≡ false → undone_codes m (with_nexts 0 (c ∷ [])) g ≡ undone_as m c (operation_of c) g
undone_alone m c g not = grind (arith, in_is_of, then_ok)

-- the first of them is undone, and then the others
pub nexts_step : (m : ℕ → Option ℕ) (n k : ℕ) (c : Arm64UnwindCode) (g : Arm64Registers) (r : Result Arm64Registers FrameError) → n ≡ k + 1 → is_save_next c ≡ false →
    undone_as m SaveNext (option_and_then (pair_after n) (operation_of c)) g ≡ r → undone_codes m (with_nexts n (c ∷ [])) g ≡ (r >>= undone_codes m (with_nexts k (c ∷ [])))
nexts_step m zero k c g r count not is = absurd (omega (arith, count))
nexts_step m (suc n) k c g r count not is =
    let same : n ≡ k = omega (arith, count) in
    let number : 1 + n ≡ suc n = omega arith in
    ap (λ (x : Option Arm64Operation). undone_as m SaveNext x g >>= undone_codes m (with_nexts n (c ∷ []))) (next_operation-nexts 1 n c [] not ∙ ap (λ (i : ℕ). option_and_then (pair_after i) (operation_of c)) number)
    ∙ (ap (λ (x : Result Arm64Registers FrameError). x >>= undone_codes m (with_nexts n (c ∷ []))) is
    ∙ ap (λ (i : ℕ). r >>= undone_codes m (with_nexts i (c ∷ []))) same)

-- they and the code are undone, and then the codes after it
pub nexts_then : (m : ℕ → Option ℕ) (n : ℕ) (c : Arm64UnwindCode) (cs : List Arm64UnwindCode) (g : Arm64Registers) → is_save_next c ≡ false →
    undone_codes m (with_nexts n (c ∷ cs)) g ≡ (undone_codes m (with_nexts n (c ∷ [])) g >>= undone_codes m cs)
nexts_then m zero c cs g not = grind (arith, in_is_of, undone_alone) steps 400000
nexts_then m (suc n) c cs g not = grind (arith, option_and_then, next_operation-nexts, then_same, then_then, nexts_then m n c cs) steps 400000

none_next : (a n : ℕ) → next_operation a (with_nexts n []) ≡ None
none_next a zero = refl
none_next a (suc n) = none_next (a + 1) n

-- no code follows them: none is undone
pub nexts_alone : (m : ℕ → Option ℕ) (n : ℕ) (g : Arm64Registers) → undone_codes m (with_nexts (suc n) []) g ≡ Err (Arm64Code SaveNext)
nexts_alone m n g = ap (λ (x : Option Arm64Operation). undone_as m SaveNext x g >>= undone_codes m (with_nexts n [])) (none_next 1 n)
