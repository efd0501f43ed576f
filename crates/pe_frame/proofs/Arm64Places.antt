-- What is left to be undone at an instruction of a function.
use Rattle.std.proofs.Common.{◌≡◌, ℕ, ◌+◌, ◌-◌, ◌<◌, ◌≤◌, ◌⊎◌, ◌&&◌, nat_le, nat_lt, Bool, true, false, if◌then◌else◌, List, drop, Option, Some, None, Result, Ok, refl, ap, sym, ◌∙◌, subst, arith}
use Rattle.pe_frame.proofs.Cited.{nat_tests, Arm64UnwindCode, Arm64InfoView, bits, Arm64Epilog, Arm64Registers, FrameError, caller_by_codes}
use Rattle.pe_frame.proofs.Cited.{CodesThen, AreOver, HasArm64Codes, prolog_length, ran_arm64, epilog_start, left_in_epilog, epilog_after}
use Rattle.pe_frame.proofs.Cited.{LeavesIn, Leaves, StepsOutArm64, ReadsCodes, read_only, StepsIn}
use Rattle.pe_frame.specs.Arm64Steps.{epilog_at}

read_by : (bytes : List ℕ) (a : Result (List Arm64UnwindCode) FrameError) (r : Result (Unit {0}) FrameError) (u : Unit {0}) → HasArm64Codes bytes a → r ≡ read_only a → r ≡ Ok u → (es : List Arm64UnwindCode) × CodesThen AreOver bytes es
read_by bytes a r u has is ok = grind arith

-- the codes that were read
pub read_codes : (bytes : List ℕ) (r : Result (Unit {0}) FrameError) (u : Unit {0}) → ReadsCodes bytes r → r ≡ Ok u → (es : List Arm64UnwindCode) × CodesThen AreOver bytes es
read_codes bytes r u reads ok = read_by bytes reads.0 r u reads.1 reads.2 ok

pub left_yes : (place start n : ℕ) (es cs : List Arm64UnwindCode) → n ≡ prolog_length es → (nat_le start place && nat_le (place - start) n) ≡ true → left_in_epilog place start es cs ≡ drop (place - start) es
left_yes place start n es cs is test = cc

pub left_no : (place start n : ℕ) (es cs : List Arm64UnwindCode) → n ≡ prolog_length es → (nat_le start place && nat_le (place - start) n) ≡ false → left_in_epilog place start es cs ≡ cs
left_no place start n es cs is test = cc

-- a step by what an epilog leaves
pub step_in : (m : ℕ → Option ℕ) (i : Arm64InfoView) (place : ℕ) (cs es : List Arm64UnwindCode) (e : Arm64Epilog) (g : Arm64Registers) (count n start : ℕ) (r : Result (Arm64Registers × Bool) FrameError) → CodesThen AreOver (drop e.index i.codes) es →
    n ≡ prolog_length es → count ≡ bits i.header 0 18 → start ≡ epilog_start count e.start n → r ≡ caller_by_codes m (left_in_epilog place start es cs) g → StepsIn m i place cs (Some e) g r
step_in m i place cs es e g count n start r are length count_is start_is is =
    let at : start ≡ epilog_start (bits i.header 0 18) e.start (prolog_length es) =
    start_is ∙ (ap (λ (k : ℕ). epilog_start k e.start n) count_is ∙ ap (λ (k : ℕ). epilog_start (bits i.header 0 18) e.start k) length) in (
      Ok (left_in_epilog place (epilog_start (bits i.header 0 18) e.start (prolog_length es)) es cs),
      (Ok es, are, refl),
      is ∙ ap (λ (s : ℕ). caller_by_codes m (left_in_epilog place s es cs) g) at,
    )

pub step_by : (m : ℕ → Option ℕ) (i : Arm64InfoView) (place n : ℕ) (cs : List Arm64UnwindCode) (e x : Option Arm64Epilog) (g : Arm64Registers) (r : Result (Arm64Registers × Bool) FrameError) → CodesThen AreOver i.codes cs →
    n ≡ prolog_length cs → x ≡ (if nat_lt place n then None else epilog_at i place) → x ≡ e → StepsIn m i place cs e g r → StepsOutArm64 m i place g r
step_by m i place n cs e x g r are length after is step =
    let epilog : e ≡ epilog_after i place cs = sym is ∙ (after ∙ ap (λ (k : ℕ). if nat_lt place k then None else epilog_at i place) length) in
    (step.0, (Ok cs, are, subst (λ (y : Option Arm64Epilog). LeavesIn i place cs y step.0) epilog step.1), step.2)

pub step_ran : (m : ℕ → Option ℕ) (i : Arm64InfoView) (place n s : ℕ) (cs : List Arm64UnwindCode) (g : Arm64Registers) (r : Result (Arm64Registers × Bool) FrameError) → n ≡ prolog_length cs → s ≡ n - place → r ≡ caller_by_codes m (drop s cs) g →
    StepsIn m i place cs None g r
step_ran m i place n s cs g r length is step = grind arith

leaves_by : (i : Arm64InfoView) (place : ℕ) (cs ds : List Arm64UnwindCode) (e : Option Arm64Epilog) → CodesThen AreOver i.codes cs → epilog_after i place cs ≡ e → LeavesIn i place cs e (Ok ds) → Leaves i place (Ok ds)
leaves_by i place cs ds e are is left = (Ok cs, are, subst (λ (y : Option Arm64Epilog). LeavesIn i place cs y (Ok ds)) (sym is) left)

after_prolog : (i : Arm64InfoView) (place : ℕ) (cs : List Arm64UnwindCode) (e : Option Arm64Epilog) → prolog_length cs ≤ place → epilog_at i place ≡ e → epilog_after i place cs ≡ e
after_prolog i place cs e late is = grind (arith, nat_lt, nat_tests)

-- in the prolog, what has run of it
pub leaves_prolog : (i : Arm64InfoView) (place : ℕ) (cs : List Arm64UnwindCode) → CodesThen AreOver i.codes cs → place < prolog_length cs → Leaves i place (Ok (ran_arm64 place cs))
leaves_prolog i place cs are early =
    let test : nat_lt place (prolog_length cs) ≡ true = grind (arith, nat_tests) in
    leaves_by i place cs (ran_arm64 place cs) None are (rw test refl) refl

-- after it all codes, where no epilog is
pub leaves_body : (i : Arm64InfoView) (place : ℕ) (cs : List Arm64UnwindCode) → CodesThen AreOver i.codes cs → prolog_length cs ≤ place → epilog_at i place ≡ None → Leaves i place (Ok (ran_arm64 place cs))
leaves_body i place cs are late none = leaves_by i place cs (ran_arm64 place cs) None are (after_prolog i place cs None late none) refl

all_ran : (place : ℕ) (cs : List Arm64UnwindCode) → prolog_length cs ≤ place → cs ≡ ran_arm64 place cs
all_ran place cs late = let none : 0 ≡ prolog_length cs - place = omega (arith, late) in ap (λ (n : ℕ). drop n cs) none

left_at : (i : Arm64InfoView) (place : ℕ) (cs es ds : List Arm64UnwindCode) (e : Arm64Epilog) → CodesThen AreOver i.codes cs → prolog_length cs ≤ place → epilog_at i place ≡ Some e → CodesThen AreOver (drop e.index i.codes) es →
    ds ≡ left_in_epilog place (epilog_start (bits i.header 0 18) e.start (prolog_length es)) es cs → Leaves i place (Ok ds)
left_at i place cs es ds e are late at of_epilog is = leaves_by i place cs ds (Some e) are (after_prolog i place cs (Some e) late at) (Ok es, of_epilog, ap Ok is)

-- in an epilog, those of its codes whose instructions have not run
pub leaves_epilog : (i : Arm64InfoView) (place run : ℕ) (cs es : List Arm64UnwindCode) (e : Arm64Epilog) → CodesThen AreOver i.codes cs → prolog_length cs ≤ place → epilog_at i place ≡ Some e → CodesThen AreOver (drop e.index i.codes) es →
    place ≡ epilog_start (bits i.header 0 18) e.start (prolog_length es) + run → run ≤ prolog_length es → Leaves i place (Ok (ran_arm64 (prolog_length es - run) es))
leaves_epilog i place run cs es e are late at of_epilog is few =
    let start = epilog_start (bits i.header 0 18) e.start (prolog_length es) in
    let first : nat_le start place ≡ true = grind (arith, nat_tests) in
    let test : (nat_le start place && nat_le (place - start) (prolog_length es)) ≡ true = rw first (grind (arith, nat_tests)) in
    let number : prolog_length es - (prolog_length es - run) ≡ place - start = omega (arith, is, few) in
    left_at i place cs es (ran_arm64 (prolog_length es - run) es) e are late at of_epilog (ap (λ (n : ℕ). drop n es) number ∙ sym (left_yes place start (prolog_length es) es cs refl test))

-- before the one epilog and after it, all codes
pub leaves_outside : (i : Arm64InfoView) (place : ℕ) (cs es : List Arm64UnwindCode) (e : Arm64Epilog) → CodesThen AreOver i.codes cs → prolog_length cs ≤ place → epilog_at i place ≡ Some e → CodesThen AreOver (drop e.index i.codes) es →
    (place < epilog_start (bits i.header 0 18) e.start (prolog_length es)) ⊎ (epilog_start (bits i.header 0 18) e.start (prolog_length es) + prolog_length es < place) → Leaves i place (Ok (ran_arm64 place cs))
leaves_outside i place cs es e are late at of_epilog h9 = grind (arith, nat_le, nat_tests, left_at, left_no, all_ran)
