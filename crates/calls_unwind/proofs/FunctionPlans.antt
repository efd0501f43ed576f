-- A plan by steps is the plan of its function.
use Rattle.std.proofs.Common.{[], ◌≡◌, ◌≢◌, ℕ, ◌+◌, ◌*◌, Bool, true, false, List, ◌∷◌, ◌++◌, Option, Some, None, Result, Ok, Err, ◌⊎◌, inl, inr, ⊎_elim, refl, ap, sym, subst, ◌∙◌, arith, rules}
use Rattle.calls_unwind.proofs.Cited.{◌==◌, if◌then◌else◌, nat_le, min, AllZip, eqb-true, nat_tests, append_assoc, append-nil, Refusal}
use Rattle.calls_unwind.proofs.Cited.{Memory, FunctionCycle, ◌>>=◌, mapped, Table, UnwindInfoView}
use Rattle.calls_unwind.proofs.Cited.{RuntimeFunction, one_if_some, FollowsToRecord, flat_record_at, or_no_function, Plan}
use Rattle.calls_unwind.proofs.Cited.{UnwindRecord}
use Rattle.pe_unwind.specs.Unwinding.{FindsRecord, Unwinds, record_at_address}
use Rattle.pe_plan.specs.Plans.{IsChain, PlansFrom}
use Rattle.pe_plan.specs.PlanSteps.{Counts}
use Rattle.pe_plan.proofs.Marks.{Marked, starts, keeps, moves, comes_again, comes_to_root, comes_to_refusal}
use Rattle.pe_plan.proofs.OnePlan.{one_plan}
use Rattle.pe_plan.proofs.RecordLaw.{RecordLaw}
use Rattle.pe_plan.proofs.Walks.{counted}
use Rattle.calls_unwind.specs.Plans.{HandsOutAfter, ReturnsInTurn, StepsIf, StepsPlan, ReportsUnwindRecord, ended, ending_of, plan_result, goes_on, leaves, plan_from}
use Rattle.calls_unwind.proofs.PlanSteps.{over_gives}

-- ---- the record of an address

-- what asking for a record returns, as it is reported
abbrev Reports : List ℕ → Result UnwindRecord Refusal → Result UnwindInfoView Refusal → Type 0
Reports b (Ok r) (Ok i) = ReportsUnwindRecord b r i
Reports b (Ok r) (Err k) = ⊥
Reports b (Err e) (Ok i) = ⊥
Reports b (Err e) (Err k) = k ≡ e

reports_at_end : (t : Table) (b : List ℕ) (end : Result ℕ Refusal) → Reports b ((end >>= λ a. mapped (t.offset a)) >>= flat_record_at b) (end >>= record_at_address t b)
reports_at_end t b end = search (rules, arith)

-- the record that an unwind address has
record Found (t : Table) (b : List ℕ) (u : ℕ) (next : Result UnwindRecord Refusal) : Type 0 where
  answer : Result UnwindInfoView Refusal
  unwinds : Unwinds t b u answer
  reports : Reports b next answer

found_at : (t : Table) (b : List ℕ) (u : ℕ) (offset : Result ℕ Refusal) (next : Result UnwindRecord Refusal) → FindsRecord t u offset → next ≡ (offset >>= flat_record_at b) → Found t b u next
found_at t b u offset next f is = grind (arith, reports_at_end t b f.0)

found : (t : Table) (b : List ℕ) (u : ℕ) (next : Result UnwindRecord Refusal) → FollowsToRecord b (Ok t) u next → Found t b u next
found t b u next f = found_at t b u f.0 next f.1 f.2

-- ---- one step

all_zip_more : {X Y : Type 0} (R : X → Y → Type 0) (xs : List X) (ys : List Y) (x : X) (y : Y) → AllZip R xs ys → R x y → AllZip R (xs ++ x ∷ []) (ys ++ y ∷ [])
all_zip_more R [] ys x y a r = grind arith
all_zip_more R (z ∷ xs) [] x y a r = absurd a
all_zip_more R (z ∷ xs) (w ∷ ys) x y a r = (a.0, all_zip_more R xs ys x y a.1 r)

-- a plan that stands at a function of the chain, after the records that it reported
record Stands (t : Table) (b : List ℕ) (f : RuntimeFunction) (reported : List UnwindRecord) (p : Plan) : Type 0 where
  records : List UnwindInfoView
  reports : AllZip (ReportsUnwindRecord b) reported records
  current : RuntimeFunction
  way : Marked t b f records current p.saved
  here : current.unwind_info_address ≡ p.unwind
  not_over : p.is_over ≡ 0

-- all records were reported
record Reported (t : Table) (b : List ℕ) (f : RuntimeFunction) (reported : List UnwindRecord) : Type 0 where
  records : List UnwindInfoView
  reports : AllZip (ReportsUnwindRecord b) reported records
  chain : IsChain t b (Some f) records None

abbrev GoesOn : Table → List ℕ → RuntimeFunction → List UnwindRecord → Plan → Type 0
GoesOn t b f reported p = Stands t b f reported p ⊎ ((p.is_over ≡ 1) × Reported t b f reported)

-- what a step returns after reported records, and where it leaves the plan
abbrev Steps : Table → List ℕ → RuntimeFunction → List UnwindRecord → Result (Option UnwindRecord) Refusal → Plan → Type 0
Steps t b f reported (Ok None) q = Reported t b f reported
Steps t b f reported (Ok (Some r)) q = GoesOn t b f (reported ++ r ∷ []) q
Steps t b f reported (Err e) q = Counts t b f (Err e)

saved_or_not : (t : Table) (b : List ℕ) (f current next : RuntimeFunction) (is : List UnwindInfoView) (i : UnwindInfoView) (reported : List UnwindRecord) (p : Plan) (saves : Bool) →
    Marked t b f is current p.saved → p.is_over ≡ 0 → Unwinds t b current.unwind_info_address (Ok i) → i.chained_info ≡ Some next → AllZip (ReportsUnwindRecord b) reported (is ++ i ∷ []) →
    Stands t b f reported (if saves then record p { unwind = next.unwind_info_address; saved = next.unwind_info_address; steps = 0; limit = min (2 * p.limit) 18446744073709551615 } else record p { unwind = next.unwind_info_address; steps = p.steps + 1 })
saved_or_not t b f current next is i reported p saves m n u to reports = grind (arith, moves t b f current next is i p.saved m u to, keeps t b f current next is i p.saved m u to)

by_root : (t : Table) (b : List ℕ) (f : RuntimeFunction) (reported : List UnwindRecord) (p : Plan) (r : UnwindRecord) (root met : Bool) → root ≡ true → Reported t b f (reported ++ r ∷ []) →
    Steps t b f reported (if root then Ok (Some r) else (if met then Err FunctionCycle else Ok (Some r)))
    (if root then ended p else (if met then ended p else goes_on p r.chained.unwind_info_address))
by_root t b f reported p r root met e all = grind arith

by_more : (t : Table) (b : List ℕ) (f : RuntimeFunction) (reported : List UnwindRecord) (p : Plan) (r : UnwindRecord) (root met : Bool) → root ≡ false →
    (met ≡ true → Counts t b f (Err FunctionCycle)) → Stands t b f (reported ++ r ∷ []) (goes_on p r.chained.unwind_info_address) →
    Steps t b f reported (if root then Ok (Some r) else (if met then Err FunctionCycle else Ok (Some r)))
    (if root then ended p else (if met then ended p else goes_on p r.chained.unwind_info_address))
by_more t b f reported p r root met e cycle more = grind arith

-- a record that is reported
by_record : (t : Table) (b : List ℕ) (f : RuntimeFunction) (reported : List UnwindRecord) (p : Plan) (w : Stands t b f reported p) (r : UnwindRecord) (i : UnwindInfoView) (o : Option RuntimeFunction) →
    Unwinds t b (w.current).unwind_info_address (Ok i) → ReportsUnwindRecord b r i → i.chained_info ≡ o → r.is_chained ≡ one_if_some o → r.chained ≡ or_no_function o →
    Steps t b f reported (plan_result p (Ok r)) (leaves p (Ok r))
by_record t b f reported p w r i None u reports is flag chained = grind (arith, by_root, nat_tests, all_zip_more (ReportsUnwindRecord b) reported w.records r i w.reports reports, comes_to_root t b f w.current w.records i p.saved w.way u is)
by_record t b f reported p w r i (Some next) u reports is flag chained =
    by_more t b f reported p r (r.is_chained == 0) (r.chained.unwind_info_address == p.saved) (grind (arith, nat_tests, flag))
    (λ met. comes_again t b f w.current next w.records i p.saved w.way u is (sym (ap (λ (g : RuntimeFunction). g.unwind_info_address) chained) ∙ eqb-true _ _ met))
    (subst (λ (g : RuntimeFunction). Stands t b f (reported ++ r ∷ []) (goes_on p g.unwind_info_address)) (sym chained)
    (saved_or_not t b f w.current next w.records i (reported ++ r ∷ []) p (nat_le p.limit (p.steps + 1)) w.way w.not_over u is (all_zip_more (ReportsUnwindRecord b) reported w.records r i w.reports reports)))

by_answer : (law : RecordLaw) (t : Table) (b : List ℕ) (f : RuntimeFunction) (reported : List UnwindRecord) (p : Plan) (w : Stands t b f reported p) (next : Result UnwindRecord Refusal) (x : Result UnwindInfoView Refusal) →
    Unwinds t b (w.current).unwind_info_address x → Reports b next x → Steps t b f reported (plan_result p next) (leaves p next)
by_answer law t b f reported p w (Ok r) (Ok i) u reports =
    by_record t b f reported p w r i i.chained_info u reports refl (ap (λ (y : UnwindRecord). y.is_chained) reports.2) (ap (λ (y : UnwindRecord). y.chained) reports.2)
by_answer law t b f reported p w (Ok r) (Err k) u reports = absurd reports
by_answer law t b f reported p w (Err e) (Ok i) u reports = absurd reports
by_answer law t b f reported p w (Err e) (Err k) u reports =
    subst (λ (x : Refusal). Counts t b f (Err x)) reports (comes_to_refusal law t b f w.current w.records k p.saved w.way u)

by_step : (law : RecordLaw) (t : Table) (b : List ℕ) (f : RuntimeFunction) (reported : List UnwindRecord) (p q : Plan) (next : Result UnwindRecord Refusal) (answer : Result (Option UnwindRecord) Refusal) →
    Stands t b f reported p → FollowsToRecord b (Ok t) p.unwind next → answer ≡ plan_result p next → q ≡ leaves p next → Steps t b f reported answer q
by_step law t b f reported p q next answer w follows a l =
    let x : Found t b p.unwind next = found t b p.unwind next follows in
    let u : Unwinds t b (w.current).unwind_info_address x.answer = subst (λ (y : ℕ). Unwinds t b y x.answer) (sym w.here) x.unwinds in
    rw (a, l) (by_answer law t b f reported p w next x.answer u x.reports)

by_test : (law : RecordLaw) (test : Bool) (t : Table) (b : List ℕ) (f : RuntimeFunction) (reported : List UnwindRecord) (p q : Plan) (answer : Result (Option UnwindRecord) Refusal) →
    test ≡ true → Stands t b f reported p → StepsIf test b (Ok t) p answer q → Steps t b f reported answer q
by_test law false t b f reported p q answer e w step = absurd cc
by_test law true t b f reported p q answer e w step = by_step law t b f reported p q step.0 answer w step.1 step.2 step.3

steps : (law : RecordLaw) (t : Table) (b : List ℕ) (f : RuntimeFunction) (reported : List UnwindRecord) (p q : Plan) (answer : Result (Option UnwindRecord) Refusal) →
    GoesOn t b f reported p → StepsPlan b (Ok t) p answer q → Steps t b f reported answer q
steps law t b f reported p q answer on step =
    ⊎_elim
    (λ (w : Stands t b f reported p).
    let over : (p.is_over == 0) ≡ true = (let none : p.is_over ≡ 0 = w.not_over in grind (arith, nat_tests)) in
    by_test law (p.is_over == 0) t b f reported p q answer over w step)
    (λ (w : (p.is_over ≡ 1) × Reported t b f reported).
    subst (λ (x : Result (Option UnwindRecord) Refusal). Steps t b f reported x q) (sym (over_gives b (Ok t) p q answer w.0 step)) w.1)
    on

-- ---- all steps

run : (law : RecordLaw) (t : Table) (b : List ℕ) (f : RuntimeFunction) (reported rs : List UnwindRecord) (p q : Plan) →
    GoesOn t b f reported p → ReturnsInTurn b (Ok t) p rs q → GoesOn t b f (reported ++ rs) q
run law t b f reported [] p q on g = subst (λ (x : List UnwindRecord). GoesOn t b f x q) (sym (append-nil reported)) (subst (λ (x : Plan). GoesOn t b f reported x) g on)
run law t b f reported (r ∷ rs) p q on g = grind (arith, append_assoc, run law t b f (reported ++ r ∷ []) rs g.0 q (steps law t b f reported p g.0 (Ok (Some r)) on g.1) g.2)

whole : (law : RecordLaw) (t : Table) (b : List ℕ) (f : RuntimeFunction) (given : List UnwindRecord) (answer : Result (Option UnwindRecord) Refusal) →
    (a : HandsOutAfter b (Ok t) f.unwind_info_address given answer) → Steps t b f given answer a.1
whole law t b f given answer a =
    let start : Stands t b f [] (plan_from f.unwind_info_address) = record { records = []; reports = tt; current = f; way = starts t b f; here = refl; not_over = refl } in
    steps law t b f given a.0 a.1 answer (run law t b f [] given (plan_from f.unwind_info_address) a.0 (inl start) a.2) a.3

-- ---- what the steps return

pub records_are_reported : (law : RecordLaw) (b : List ℕ) (t : Table) (f : RuntimeFunction) (given : List UnwindRecord) →
    HandsOutAfter b (Ok t) f.unwind_info_address given (Ok None) →
    (is : List UnwindInfoView) × PlansFrom t b f (Ok is) × AllZip (ReportsUnwindRecord b) given is
records_are_reported law b t f given a = grind (arith, whole law t b f given (Ok None) a)

no_memory : (t : Table) (b : List ℕ) (f : RuntimeFunction) (k : Refusal) → Counts t b f (Err k) → k ≢ Memory
no_memory t b f k c e = absurd (subst (λ (x : Refusal). Counts t b f (Err x)) e c)

pub refusals_are_of_plans : (law : RecordLaw) (b : List ℕ) (t : Table) (f : RuntimeFunction) (given : List UnwindRecord) (refusal : Refusal) →
    HandsOutAfter b (Ok t) f.unwind_info_address given (Err refusal) → (refusal ≢ Memory) × PlansFrom t b f (Err refusal)
refusals_are_of_plans law b t f given refusal a = grind (arith, whole law t b f given (Err refusal) a, no_memory, counted)

ends_so : (law : RecordLaw) (t : Table) (b : List ℕ) (f : RuntimeFunction) (given : List UnwindRecord) (q : Plan) (plan : Result (List UnwindInfoView) Refusal) (answer : Result (Option UnwindRecord) Refusal) →
    PlansFrom t b f plan → plan ≢ Err Memory → Steps t b f given answer q → (answer ≡ ending_of plan) ⊎ ((r : UnwindRecord) × (answer ≡ Ok (Some r)))
ends_so law t b f given q plan (Ok None) p known all = inl (ap ending_of (one_plan law t b f (Ok all.records) plan all.chain p (λ e. cc) known))
ends_so law t b f given q plan (Ok (Some r)) p known on = inr (r, refl)
ends_so law t b f given q plan (Err k) p known c =
    inl (ap ending_of (one_plan law t b f (Err k) plan (counted t b f k c) p (λ e. no_memory t b f k c (let same : k ≡ Memory = cc in same)) known))

pub plans_end_so : (law : RecordLaw) (b : List ℕ) (t : Table) (f : RuntimeFunction) (plan : Result (List UnwindInfoView) Refusal) (given : List UnwindRecord) (answer : Result (Option UnwindRecord) Refusal) →
    PlansFrom t b f plan → plan ≢ Err Memory → HandsOutAfter b (Ok t) f.unwind_info_address given answer →
    (answer ≡ ending_of plan) ⊎ ((r : UnwindRecord) × (answer ≡ Ok (Some r)))
plans_end_so law b t f plan given answer p known a = ends_so law t b f given a.1 plan answer p known (whole law t b f given answer a)

-- ---- a table that is not inside the bytes

first_refused : (b : List ℕ) (u : ℕ) (refusal : Refusal) (q : Plan) (answer : Result (Option UnwindRecord) Refusal) → StepsPlan b (Err refusal) (plan_from u) answer q → answer ≡ Err refusal
first_refused b u refusal q answer step = cc

pub tables_are_refused : (b : List ℕ) (u : ℕ) (refusal : Refusal) (given : List UnwindRecord) (answer : Result (Option UnwindRecord) Refusal) →
    HandsOutAfter b (Err refusal) u given answer → (given ≡ []) × (answer ≡ Err refusal)
tables_are_refused b u refusal [] answer a =
    (refl, first_refused b u refusal a.1 answer (subst (λ (x : Plan). StepsPlan b (Err refusal) x answer a.1) (sym a.2) a.3))
tables_are_refused b u refusal (r ∷ rs) answer a =
    absurd (let clash = first_refused b u refusal a.2.0 (Ok (Some r)) a.2.1 in cc)
