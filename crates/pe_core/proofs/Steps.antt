-- Steps from left to right are the first test that fails.
use Rattle.std.proofs.Common.{◌≡◌, ℕ, ◌+◌, arith, Bool, true, false, cond, List, [], ◌∷◌, Option, Some, None, Result, Ok, Err, refl, ap, ◌∙◌}
use Rattle.std.specs.Prelude.{◌==◌, slice_range}
use Rattle.pe_core.specs.Bytes.{le}
use Rattle.pe_core.specs.Refusals.{Refusal, outcome, ◌>>=◌}
use Rattle.pe_core.specs.Records.{dos_header, coff_header}
use Rattle.pe_core.specs.Header.{OptionalHeaderView, HeaderView, optional_header_tests, optional_header, header_tests, header, header_at}
use Rattle.pe_core.specs.HeaderSteps.{header_in_steps}
use Rattle.pe_core.specs.declared.options.ParseMode.{ParseMode}

mapped : {A B : Type 0} (tests : List (Bool × Refusal)) (x : A) (f : A → B) → (outcome tests x >>= λ y. Ok (f y)) ≡ outcome tests (f x)
mapped [] x f = refl
mapped ((true, k) ∷ tests) x f = mapped tests x f
mapped ((false, k) ∷ tests) x f = refl

-- the last step, which one test may leave out
last : {A B : Type 0} (t : Bool) (tests : List (Bool × Refusal)) (x : A) (make : Option A → B) → ((cond t (Ok None) (outcome tests x >>= λ y. Ok (Some y))) >>= λ o. Ok (make o)) ≡ outcome (cond t [] tests) (make (cond t None (Some x)))
last true tests x make = refl
last false tests x make = ap (λ r. r >>= λ o. Ok (make o)) (mapped tests x (λ y. Some y)) ∙ mapped tests (Some x) make

-- reading from left to right returns the header, or the first refusal
pub same : (b : List ℕ) (mode : ParseMode) → header_in_steps b mode ≡ header_at b mode
unfolding header_in_steps header_at header_tests header
same b mode =
    let dos = dos_header b 0 in
    let p = dos.pe_pointer in
    let coff = coff_header b (p + 4) in
    let make : Option OptionalHeaderView → HeaderView = λ o. record { dos_header = dos; dos_stub = slice_range b 64 p; signature = le b p 4; coff_header = coff; optional_header = o } in
    let q = p + 24 in
    let e = last (coff.size_of_optional_header == 0) (optional_header_tests b q) (optional_header b q) make in
    grind (arith, e)

-- three steps, grouped either way
pub then_then : {X Y Z R : Type 0} (r : Result X R) (f : X → Result Y R) (g : Y → Result Z R) → ((r >>= f) >>= g) ≡ (r >>= λ x. f x >>= g)
then_then (Ok x) f g = refl
then_then (Err e) f g = refl

-- what two steps return, each returns
pub given : {X Y : Type 0} (r : Result X Refusal) (f : X → Result Y Refusal) (y : Y) → (r >>= f) ≡ Ok y → (x : X) × (r ≡ Ok x) × (f x ≡ Ok y)
given (Ok x) f y e = (x, refl, e)
given (Err r) f y e = absurd cc

pub same_inside : {X : Type 0} (x y : X) → ◌≡◌ {A = Result X Refusal} (Ok x) (Ok y) → x ≡ y
same_inside x y e = cc

pub one_ok : {X : Type 0} (r : Result X Refusal) (x y : X) → r ≡ Ok x → r ≡ Ok y → x ≡ y
one_ok r x y e f = cc

pub one_err : {X : Type 0} (r : Result X Refusal) (x y : Refusal) → r ≡ Err x → r ≡ Err y → x ≡ y
one_err r x y e f = cc

pub not_both : {X : Type 0} (r : Result X Refusal) (x : X) (y : Refusal) → r ≡ Ok x → r ≡ Err y → ⊥
not_both r x y e f = cc

pub other_value : {X Y : Type 0} (j k : Refusal) → ◌≡◌ {A = Result X Refusal} (Err j) (Err k) → ◌≡◌ {A = Result Y Refusal} (Err j) (Err k)
other_value j k h = let same : j ≡ k = cc in ap (λ (e : Refusal). Err e) same
