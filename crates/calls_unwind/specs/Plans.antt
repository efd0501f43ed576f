-- The plan of a function: its records up to the root of its chain, one a step.
use Rattle.std.specs.Prelude.{◌≡◌, ℕ, ◌+◌, ◌*◌, ◌==◌, min, nat_le, Bool, true, false, List, [], ◌∷◌, Option, Some, None, Result, Ok, Err, if◌then◌else◌}
use Rattle.pe_core.specs.Refusals.{Refusal, FunctionCycle, outcome}
use Rattle.pe_unwind.specs.Links.{Table}
use Rattle.pe_unwind.specs.UnwindRecord.{UnwindInfoView, unwind_tests, unwind_record}
use Rattle.calls_base.specs.HandsOut.{HandsOutIf}
use Rattle.calls_unwind.specs.Unwinding.{FollowsToRecord, flat_record}
use Rattle.calls_unwind.specs.declared.unwinding.plan.Plan.{Plan}
use Rattle.calls_unwind.specs.declared.unwinding.UnwindRecord.{UnwindRecord}

-- the plan that starts at an unwind RVA
abbrev pub plan_from : ℕ → Plan
plan_from unwind = record { unwind = unwind; is_over = 0; saved = unwind; spare = 0; steps = 0; limit = 1 }

-- a plan that is over
abbrev pub ended : Plan → Plan
ended p = record p { is_over = 1 }

-- the plan that continues at an RVA: once as many records were returned as the limit says, it saves the RVA and doubles
-- the limit
abbrev pub goes_on : Plan → ℕ → Plan
goes_on p address =
    if nat_le p.limit (p.steps + 1)
    then record p { unwind = address; saved = address; steps = 0; limit = min (2 * p.limit) 18446744073709551615 }
    else record p { unwind = address; steps = p.steps + 1 }

-- the result of a plan with this next record: one that continues at the saved RVA is part of a loop
abbrev pub returned_record : Plan → UnwindRecord → Result (Option UnwindRecord) Refusal
returned_record p r =
    if r.is_chained == 0 then Ok (Some r) else (if r.chained.unwind_info_address == p.saved then Err FunctionCycle else Ok (Some r))

-- the plan after this record
abbrev pub after_record : Plan → UnwindRecord → Plan
after_record p r =
    if r.is_chained == 0 then ended p
    else (if r.chained.unwind_info_address == p.saved then ended p else goes_on p r.chained.unwind_info_address)

-- the result of a plan, by its next record or what refuses that
abbrev pub plan_result : Plan → Result UnwindRecord Refusal → Result (Option UnwindRecord) Refusal
plan_result p (Ok r) = returned_record p r
plan_result p (Err refusal) = Err refusal

-- the plan after that: over after a refusal
abbrev pub leaves : Plan → Result UnwindRecord Refusal → Plan
leaves p (Ok r) = after_record p r
leaves p (Err refusal) = ended p

-- one step of a plan: nothing where it is over; else the record of its unwind RVA decides
abbrev pub StepsIf : Bool → List ℕ → Result Table Refusal → Plan → Result (Option UnwindRecord) Refusal → Plan → Type 0
StepsIf false b links old answer new = (answer ≡ Ok None) × (new ≡ old)
StepsIf true b links old answer new =
    (next : Result UnwindRecord Refusal) × FollowsToRecord b links old.unwind next × (answer ≡ plan_result old next) × (new ≡ leaves old next)

abbrev pub StepsPlan : List ℕ → Result Table Refusal → Plan → Result (Option UnwindRecord) Refusal → Plan → Type 0
StepsPlan b links old answer new = StepsIf (old.is_over == 0) b links old answer new

-- what a call for the next record returns, and the plan after it
abbrev pub HandsOutPlan : List ℕ → Result Table Refusal → Plan → Plan → ℕ → UnwindRecord → UnwindRecord → Type 0
HandsOutPlan b links old_plan new_plan number old new =
    (answer : Result (Option UnwindRecord) Refusal) × StepsPlan b links old_plan answer new_plan × HandsOutIf number old new answer

-- ---- whole plans

-- a plan returns these records in turn, and is then this plan
abbrev pub ReturnsInTurn : List ℕ → Result Table Refusal → Plan → List UnwindRecord → Plan → Type 0
ReturnsInTurn b links p [] q = p ≡ q
ReturnsInTurn b links p (r ∷ rs) q = (next : Plan) × StepsPlan b links p (Ok (Some r)) next × ReturnsInTurn b links next rs q

-- the result of a plan's step, after all records that it returned since it started at an unwind RVA
abbrev pub HandsOutAfter : List ℕ → Result Table Refusal → ℕ → List UnwindRecord → Result (Option UnwindRecord) Refusal → Type 0
HandsOutAfter b links unwind given answer =
    (p : Plan) × (q : Plan) × ReturnsInTurn b links (plan_from unwind) given p × StepsPlan b links p answer q

-- a record as numbers is this record at some offset of the bytes
abbrev pub ReportsUnwindRecord : List ℕ → UnwindRecord → UnwindInfoView → Type 0
ReportsUnwindRecord b r i = (offset : ℕ) × (outcome (unwind_tests b offset) (unwind_record b offset) ≡ Ok i) × (r ≡ flat_record b offset i)

-- the end of a plan's steps: nothing after the records, or the refusal
abbrev pub ending_of : Result (List UnwindInfoView) Refusal → Result (Option UnwindRecord) Refusal
ending_of (Ok records) = Ok None
ending_of (Err refusal) = Err refusal
