-- What is never refused as out of memory.
use Rattle.std.proofs.Common.{◌≡◌, Bool, true, false, List, [], ◌∷◌, Result, Ok, Err, ap}
use Rattle.std.specs.Prelude.{IfErr, if◌then◌else◌}
use Rattle.pe_core.specs.Refusals.{Refusal, Memory, IfMemory, kind_of, outcome, ◌>>=◌}
use Rattle.pe_core.specs.declared.error.Error.{Error}
use Rattle.pe_core.specs.declared.error.Error.TheVariants as errors

abbrev pub is_memory : Refusal → Bool
is_memory Memory = true
is_memory other = false

-- a value, or a refusal that is not for memory
abbrev pub Lacks : {X : Type 0} → Result X Refusal → Type 0
Lacks (Ok x) = Unit {0}
Lacks (Err refusal) = is_memory refusal ≡ false

pub memory_never : {X : Type 0} (r : Result X Refusal) → Lacks r → r ≡ Err Memory → ⊥
memory_never (Ok x) l given = absurd cc
memory_never (Err refusal) l given =
    let same : refusal ≡ Memory = cc in
    let is : is_memory refusal ≡ true = ap is_memory same in
    absurd cc

-- where no refusal is `Memory`, nothing is to be shown of an allocation failure
pub nothing_owed : {X : Type 0} (r : Result X Refusal) (e : Error) (P : Type 0) → Lacks r → r ≡ Err (kind_of e) → IfMemory e P
nothing_owed r (errors.Memory e) P l given = absurd (memory_never r l given)
nothing_owed r other P l given = tt

-- what holds, holds if memory ran out
pub asked : {X : Type 0} (r : Result X Error) (P : Type 0) → P → IfErr r (λ e. IfMemory e P)
asked (Ok x) P p = tt
asked (Err (errors.Memory e)) P p = p
asked (Err other) P p = tt

-- the same of what each of these tests is refused as
abbrev pub TestsLack : List (Bool × Refusal) → Type 0
TestsLack [] = Unit {0}
TestsLack (test ∷ tests) = (is_memory test.1 ≡ false) × TestsLack tests

pub outcome_lacks : {X : Type 0} (tests : List (Bool × Refusal)) (value : X) → TestsLack tests → Lacks (outcome tests value)
outcome_lacks [] value lack = tt
outcome_lacks ((true, refusal) ∷ tests) value lack = outcome_lacks tests value lack.1
outcome_lacks ((false, refusal) ∷ tests) value lack = lack.0

pub then_lacks : {X Y : Type 0} (r : Result X Refusal) (f : X → Result Y Refusal) → Lacks r → ((x : X) → Lacks (f x)) → Lacks (r >>= f)
then_lacks (Ok x) f l k = k x
then_lacks (Err e) f l k = l

pub if_lacks : {X : Type 0} (t : Bool) (r s : Result X Refusal) → Lacks r → Lacks s → Lacks (if t then r else s)
if_lacks true r s l k = l
if_lacks false r s l k = k

pub one_test_lacks : {X : Type 0} (t : Bool) (e : Refusal) (x : X) → is_memory e ≡ false → Lacks (outcome ((t, e) ∷ []) x)
one_test_lacks t e x is = outcome_lacks ((t, e) ∷ []) x (is, tt)
