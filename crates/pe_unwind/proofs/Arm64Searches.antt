-- Lookup in the ARM64 function table: the length of the entry decides.
use Rattle.std.proofs.Common.{◌≡◌, ◌↔◌, ℕ, ◌+◌, ◌-◌, ◌<◌, ◌≤◌, List, Option, Some, None, Result, Ok, Err, if◌then◌else◌, refl, ap, sym, subst, ◌∙◌, arith, Contains}
use Rattle.std.specs.Prelude.{IsOkAnd, IfOk, nat_lt}
use Rattle.std.proofs.lemmas.Bool.{cases_lt}
use Rattle.std.proofs.lemmas.Bool.Decides.{nat_tests}
use Rattle.pe_core.specs.Refusals.{Refusal, ◌>>=◌}
use Rattle.pe_unwind.specs.declared.arm64.function.Arm64RuntimeFunction.{Arm64RuntimeFunction}
use Rattle.pe_unwind.specs.Arm64Lookup.{CoversArm64, FindsArm64, NoFunctionPassesNext, if_long_enough}
use Rattle.pe_unwind.specs.Lookup.{FindsStart, IsSortedBy}
use Rattle.pe_unwind.proofs.Disjoint.{scans_to}

decided : (length_of : Arm64RuntimeFunction → Result ℕ Refusal) (fs : List Arm64RuntimeFunction) (a : ℕ) (last : Option Arm64RuntimeFunction) (answer : Result (Option Arm64RuntimeFunction) Refusal) → FindsStart (λ f. f.begin_address) fs a last → answer ≡ if_long_enough length_of a last → FindsArm64 length_of fs a answer
decided length_of fs a last answer finds is = grind arith

pub finds_no_entry : (length_of : Arm64RuntimeFunction → Result ℕ Refusal) (fs : List Arm64RuntimeFunction) (a : ℕ) (last : Option Arm64RuntimeFunction) → FindsStart (λ f. f.begin_address) fs a last → last ≡ None → FindsArm64 length_of fs a (Ok None)
finds_no_entry length_of fs a last finds is = decided length_of fs a last (Ok None) finds (sym (ap (if_long_enough length_of a) is))

pub finds_refused : (length_of : Arm64RuntimeFunction → Result ℕ Refusal) (fs : List Arm64RuntimeFunction) (a : ℕ) (last : Option Arm64RuntimeFunction) (f : Arm64RuntimeFunction) (refusal : Refusal) → FindsStart (λ f. f.begin_address) fs a last → last ≡ Some f → length_of f ≡ Err refusal → FindsArm64 length_of fs a (Err refusal)
finds_refused length_of fs a last f refusal finds is refused = decided length_of fs a last (Err refusal) finds (rw (is, refused) refl)

pub finds_long_enough : (length_of : Arm64RuntimeFunction → Result ℕ Refusal) (fs : List Arm64RuntimeFunction) (a : ℕ) (last : Option Arm64RuntimeFunction) (f : Arm64RuntimeFunction) (n : ℕ) → FindsStart (λ f. f.begin_address) fs a last → last ≡ Some f → length_of f ≡ Ok n → a - f.begin_address < n → FindsArm64 length_of fs a (Ok (Some f))
finds_long_enough length_of fs a last f n finds is has lt =
    decided length_of fs a last (Ok (Some f)) finds (sym (ap (if_long_enough length_of a) is ∙ (rw has (grind (arith, nat_tests)))))

pub finds_too_short : (length_of : Arm64RuntimeFunction → Result ℕ Refusal) (fs : List Arm64RuntimeFunction) (a : ℕ) (last : Option Arm64RuntimeFunction) (f : Arm64RuntimeFunction) (n : ℕ) → FindsStart (λ f. f.begin_address) fs a last → last ≡ Some f → length_of f ≡ Ok n → n ≤ a - f.begin_address → FindsArm64 length_of fs a (Ok None)
finds_too_short length_of fs a last f n finds is has le =
    let at_f : FindsStart (λ f. f.begin_address) fs a (Some f) = subst (FindsStart (λ f. f.begin_address) fs a) is finds in
    let from : f.begin_address ≤ a = at_f.starts in
    decided length_of fs a last (Ok None) finds (sym (ap (if_long_enough length_of a) is ∙ (rw has (grind (arith, nat_tests)))))

-- ---- functions that don't overlap

-- a length that is known to be enough, or an entry that was returned for it
enough : (a : ℕ) (f : Arm64RuntimeFunction) (r : Result ℕ Refusal) → IsOkAnd r (λ n. a < f.begin_address + n) → (r >>= λ n. Ok (if nat_lt a (f.begin_address + n) then Some f else None)) ≡ Ok (Some f)
enough a f r h = grind (arith, nat_tests)

returned : (a : ℕ) (f g : Arm64RuntimeFunction) (r : Result ℕ Refusal) → Ok (Some f) ≡ (r >>= λ n. Ok (if nat_lt a (g.begin_address + n) then Some g else None)) → (f ≡ g) × IsOkAnd r (λ n. a < g.begin_address + n)
returned a f g r is = grind (arith, nat_tests, cases_lt)

-- an RVA in a function that does not pass the next start is before that start
before_next : (a start next : ℕ) (r : Result ℕ Refusal) → IsOkAnd r (λ n. a < start + n) → IfOk r (λ n. start + n ≤ next) → a < next
before_next a start next r inside apart = grind arith

pub finds_arm64 : (length_of : Arm64RuntimeFunction → Result ℕ Refusal) (fs : List Arm64RuntimeFunction) (a : ℕ) (answer : Result (Option Arm64RuntimeFunction) Refusal) (f : Arm64RuntimeFunction) → IsSortedBy (λ f. f.begin_address) fs → NoFunctionPassesNext length_of fs → FindsArm64 length_of fs a answer → (answer ≡ Ok (Some f)) ↔ (Contains fs f × CoversArm64 length_of a f)
finds_arm64 length_of fs a answer f ordered apart finds = grind (arith, returned, before_next, scans_to, enough)
