-- Steps of a plan: of one that is over, and of one that is not.
use Rattle.std.proofs.Common.{◌≡◌, ℕ, List, Option, None, Result, Ok, arith}
use Rattle.calls_unwind.proofs.Cited.{nat_tests, Refusal, Table, FollowsToRecord, Plan, UnwindRecord}
use Rattle.calls_unwind.specs.Plans.{plan_result, leaves, StepsPlan}

-- a plan that is over returns nothing
pub over_gives : (b : List ℕ) (links : Result Table Refusal) (p q : Plan) (answer : Result (Option UnwindRecord) Refusal) → p.is_over ≡ 1 → StepsPlan b links p answer q → answer ≡ Ok None
over_gives b links p q answer e step = (rw e at step).0

pub stepped : (b : List ℕ) (links : Result Table Refusal) (old new : Plan) (answer : Result (Option UnwindRecord) Refusal) (next : Result UnwindRecord Refusal) →
    old.is_over ≡ 0 → FollowsToRecord b links old.unwind next → answer ≡ plan_result old next → new ≡ leaves old next → StepsPlan b links old answer new
stepped b links old new answer next e f a n = grind (arith, nat_tests)
