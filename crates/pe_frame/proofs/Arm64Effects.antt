-- Undoing codes is reverting the effects of what their instructions did.
use Rattle.std.proofs.Common.{◌≡◌, ℕ, zero, suc, List, ◌∷◌, ◌++◌, drop, Option, Some, Result, Ok, Err, refl, ap, sym, ◌∙◌, arith, rules, []}
use Rattle.pe_frame.proofs.Cited.{◌>>=◌, then_then, Arm64UnwindCode, Arm64Operation, Arm64Register, Arm64Registers, FrameError, Arm64Effect}
use Rattle.pe_frame.proofs.Cited.{Store, store_some, effects_of, operation_in, operations, all_effects, reverted, reverted_all, undone_as}
use Rattle.pe_frame.proofs.Cited.{undone_codes, Arm64Machine, IsArm64Prolog}
use Rattle.pe_frame.proofs.Tails.{then_ok, then_same}

pub reverted-append : (m : ℕ → Option ℕ) (a b : List Arm64Effect) (g : Arm64Registers) → reverted_all m (a ++ b) g ≡ (reverted_all m a g >>= reverted_all m b)
reverted-append m [] b g = refl
reverted-append m (e ∷ a) b g = search (rules, arith, then_same, then_then, reverted-append m a b)

-- the operations of the first code and of the others
pub record KnownCodes (c : Arm64UnwindCode) (cs : List Arm64UnwindCode) (os : List Arm64Operation) : Type 0 where
  pub first : Arm64Operation
  pub rest : List Arm64Operation
  pub is : os ≡ first ∷ rest
  pub first_is : operation_in cs c ≡ Some first
  pub rest_is : operations cs ≡ Some rest

pub known_codes : (c : Arm64UnwindCode) (cs : List Arm64UnwindCode) (os : List Arm64Operation) → operations (c ∷ cs) ≡ Some os → KnownCodes c cs os
known_codes c cs os e = search (rules, arith)

pub undone-effects : (m : ℕ → Option ℕ) (cs : List Arm64UnwindCode) (os : List Arm64Operation) (g : Arm64Registers) → operations cs ≡ Some os → undone_codes m cs g ≡ reverted_all m (all_effects os) g
undone-effects m [] os g e = let none : [] ≡ os = cc in ap (λ (xs : List Arm64Operation). reverted_all m (all_effects xs) g) none
undone-effects m (c ∷ cs) os g e = search (rules, arith, known_codes, then_same, reverted-append, undone-effects m cs (known_codes c cs os e).rest)

-- the operations of the codes that have run
pub operations-drop : (n : ℕ) (cs : List Arm64UnwindCode) (os : List Arm64Operation) → operations cs ≡ Some os → operations (drop n cs) ≡ Some (drop n os)
operations-drop zero cs os e = e
operations-drop (suc n) [] os e = let none : [] ≡ os = cc in ap (λ (xs : List Arm64Operation). Some (drop (suc n) xs)) none
operations-drop (suc n) (c ∷ cs) os e = search (rules, arith, known_codes, operations-drop n cs)

prolog_rest : (a b : List Arm64Effect) (s : Arm64Machine) → IsArm64Prolog (a ++ b) s → IsArm64Prolog b s
prolog_rest [] b s p = p
prolog_rest (e ∷ a) b s p = prolog_rest a b s p.1

-- what has run of a prolog is the first part of it
pub prolog-drop : (n : ℕ) (os : List Arm64Operation) (s : Arm64Machine) → IsArm64Prolog (all_effects os) s → IsArm64Prolog (all_effects (drop n os)) s
prolog-drop zero os s p = p
prolog-drop (suc n) [] s p = p
prolog-drop (suc n) (o ∷ os) s p = prolog-drop n os s (prolog_rest (effects_of o) (all_effects os) s p)

-- two effects and those before them, by what reverting each returns
pub first_reverted : (m : ℕ → Option ℕ) (e : Arm64Effect) (before : List Arm64Effect) (g u : Arm64Registers) (x y : Result Arm64Registers FrameError) →
    x ≡ reverted m e g → x ≡ Ok u → y ≡ reverted_all m before u → y ≡ reverted_all m (e ∷ before) g
first_reverted m e before g u x y is ok rest = rest ∙ sym (ap (λ (r : Result Arm64Registers FrameError). r >>= reverted_all m before) (sym is ∙ ok))

-- an operation, by its effects
pub effects_are : (m : ℕ → Option ℕ) (o p : Arm64Operation) (g : Arm64Registers) (x : Result Arm64Registers FrameError) → o ≡ p → x ≡ reverted_all m (effects_of p) g → x ≡ reverted_all m (effects_of o) g
effects_are m o p g x is h = h ∙ ap (λ (q : Arm64Operation). reverted_all m (effects_of q) g) (sym is)

-- one store alone
pub one_store : (m : ℕ → Option ℕ) (r : Arm64Register) (o : ℕ) (g : Arm64Registers) → reverted m (Store r o) g ≡ reverted_all m (store_some (Some r) o) g
one_store m r o g = sym (then_ok (reverted m (Store r o) g))

-- the effects of two parts, by what reverting each returns
pub both_reverted : (m : ℕ → Option ℕ) (a b : List Arm64Effect) (g u : Arm64Registers) (x y : Result Arm64Registers FrameError) → x ≡ reverted_all m a g → x ≡ Ok u → y ≡ reverted_all m b u → y ≡ reverted_all m (a ++ b) g
both_reverted m a b g u x y is ok rest = grind (arith, reverted-append)

pub first_refused : (m : ℕ → Option ℕ) (a b : List Arm64Effect) (g : Arm64Registers) (e : FrameError) (x : Result Arm64Registers FrameError) → x ≡ reverted_all m a g → x ≡ Err e → Err e ≡ reverted_all m (a ++ b) g
first_refused m a b g e x is err = sym (reverted-append m a b g ∙ ap (λ (r : Result Arm64Registers FrameError). r >>= reverted_all m b) (sym is ∙ err))
