-- Pops at the start of code, one after the other.
use Rattle.std.proofs.Common.{◌≡◌, ℕ, suc, List, ◌∷◌, ◌++◌, map, drop, Option, Some, None, Result, Ok, refl, ap, arith, rules, []}
use Rattle.pe_frame.proofs.Cited.{◌>>=◌, then_then, Instruction, Pop, FrameError, Registers, pop_at, popped_first, after_pops, executed}
use Rattle.pe_frame.proofs.Cited.{executed_all, before_last, direct_target, target_of, alone}

pub after_step : (k n : ℕ) (code : List ℕ) (p : ℕ × ℕ) → k ≡ suc n → pop_at code ≡ Some p → after_pops k code ≡ after_pops n (drop p.1 code)
unfolding after_pops
after_step k n code p e f = rw e (rw f refl)

pub after_none : (k : ℕ) (code : List ℕ) → pop_at code ≡ None → after_pops k code ≡ code
unfolding after_pops
after_none k code f = grind arith

pub first_step : (k n : ℕ) (code : List ℕ) (p : ℕ × ℕ) → k ≡ suc n → pop_at code ≡ Some p → popped_first k code ≡ p.0 ∷ popped_first n (drop p.1 code)
unfolding popped_first
first_step k n code p e f = rw e (rw f refl)

pub first_none : (k : ℕ) (code : List ℕ) → pop_at code ≡ None → popped_first k code ≡ []
unfolding popped_first
first_none k code f = grind arith

-- one pop run, and the others after it
pub pops_step : (m : ℕ → Option ℕ) (k n : ℕ) (code : List ℕ) (p : ℕ × ℕ) (g : Registers) (r : Result Registers FrameError) → k ≡ suc n → pop_at code ≡ Some p → executed m (Pop p.0) g ≡ r →
    executed_all m (map Pop (popped_first k code)) g ≡ (r >>= executed_all m (map Pop (popped_first n (drop p.1 code))))
pops_step m k n code p g r e f h = rw (first_step k n code p e f) (rw h refl)

pub pops_none : (m : ℕ → Option ℕ) (k : ℕ) (code : List ℕ) (g : Registers) → pop_at code ≡ None → executed_all m (map Pop (popped_first k code)) g ≡ Ok g
pops_none m k code g f = rw (first_none k code f) refl

pub after_all : (k : ℕ) (code : List ℕ) → k ≡ 0 → after_pops k code ≡ code
unfolding after_pops
after_all k code e = rw e refl

pub pops_all : (m : ℕ → Option ℕ) (k : ℕ) (code : List ℕ) (g : Registers) → k ≡ 0 → executed_all m (map Pop (popped_first k code)) g ≡ Ok g
unfolding popped_first
pops_all m k code g e = rw e refl

-- steps that are the same after the first one are the same
pub then_same : {A B : Type 0} (x : Result A FrameError) (f h : A → Result B FrameError) → ((v : A) → f v ≡ h v) → (x >>= f) ≡ (x >>= h)
then_same x f h same = grind arith

pub then_ok : {A : Type 0} (x : Result A FrameError) → (x >>= λ v. Ok v) ≡ x
then_ok x = grind arith

-- instructions run, and then others
pub executed_append : (m : ℕ → Option ℕ) (is js : List Instruction) (g : Registers) → executed_all m (is ++ js) g ≡ (executed_all m is g >>= executed_all m js)
executed_append m [] js g = refl
executed_append m (i ∷ is) js g = search (rules, arith, then_same, then_then, executed_append m is js)

-- instructions run, and then the last one
run_end : (m : ℕ → Option ℕ) (is : List Instruction) (e : Instruction) (g : Registers) → executed_all m (is ++ (e ∷ [])) g ≡ (executed_all m is g >>= executed m e)
run_end m is e g = grind (arith, executed_append, then_same, then_ok)

before_end : (is : List Instruction) (e : Instruction) → before_last (is ++ (e ∷ [])) ≡ is
before_end [] e = refl
before_end (i ∷ []) e = refl
before_end (i ∷ j ∷ is) e = ap (λ (ks : List Instruction). i ∷ ks) (before_end (j ∷ is) e)

target_end : (is : List Instruction) (e : Instruction) → target_of (is ++ (e ∷ [])) ≡ direct_target e
target_end [] e = refl
target_end (i ∷ []) e = refl
target_end (i ∷ j ∷ is) e = target_end (j ∷ is) e

-- a tail without the instruction that leaves the function
pub before_exit : (trim : Option Instruction) (pops : List ℕ) (exit : Instruction) → before_last (alone trim ++ (map Pop pops ++ (exit ∷ []))) ≡ alone trim ++ map Pop pops
before_exit trim pops exit = grind (arith, before_end)

pub exit_target : (trim : Option Instruction) (pops : List ℕ) (exit : Instruction) → target_of (alone trim ++ (map Pop pops ++ (exit ∷ []))) ≡ direct_target exit
exit_target None pops exit = target_end (map Pop pops) exit
exit_target (Some i) pops exit = target_end (i ∷ map Pop pops) exit

-- the parts of a tail run
pub trim_run : (m : ℕ → Option ℕ) (trim : Option Instruction) (pops : List ℕ) (g : Registers) →
    executed_all m (alone trim ++ map Pop pops) g ≡ (executed_all m (alone trim) g >>= executed_all m (map Pop pops))
trim_run m trim pops g = executed_append m (alone trim) (map Pop pops) g

pub tail_run : (m : ℕ → Option ℕ) (trim : Option Instruction) (pops : List ℕ) (exit : Instruction) (g : Registers) →
    executed_all m (alone trim ++ (map Pop pops ++ (exit ∷ []))) g
    ≡ (executed_all m (before_last (alone trim ++ (map Pop pops ++ (exit ∷ [])))) g >>= executed m exit)
tail_run m trim pops exit g = grind (arith, before_end, run_end)
