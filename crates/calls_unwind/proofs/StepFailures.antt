-- A step that a relation defines is refused by one refusal, so what is said of it agrees with what its call returns.
use Rattle.std.proofs.Common.{[], ◌≡◌, ℕ, ◌<◌, List, length, Option, Result, ap, subst, arith}
use Rattle.calls_unwind.proofs.Cited.{Refusal, Error, one_reading, Table, UnwindCode}
use Rattle.calls_unwind.proofs.Cited.{AnswersArm64Code, StepsArm64Codes, WalksInArm64, HandsOut}
use Rattle.calls_unwind.proofs.Cited.{FollowsToRecord, HandsOutCode, HandsOutRecord, StepsCodes, WalksIn}
use Rattle.calls_unwind.proofs.Cited.{flat_answer, Arm64Code, Arm64CodeWalk, Code, CodeWalk, UnwindRecord}
use Rattle.calls_base.proofs.DirectoryFailures.{agree}
use Rattle.calls_unwind.proofs.PlanEnds.{one_record}
use Rattle.calls_base.specs.FailureNumbers.{Agrees, refused}

-- ---- unwind records

values_agree : {X : Type 0} (answer : Result X Refusal) (number : ℕ) (old new : X) → HandsOut number old new answer → Agrees number (refused answer)
values_agree answer number old new h = grind arith

pub records_agree : (b : List ℕ) (links : Result Table Refusal) (a : ℕ) (answer : Result UnwindRecord Refusal) → FollowsToRecord b links a answer → (number : ℕ) (old new : UnwindRecord) → HandsOutRecord b links a number old new →
    Agrees number (refused answer)
records_agree b links a answer f number old new h =
    subst (λ (r : Result UnwindRecord Refusal). Agrees number (refused r)) (one_record b links a h.0 answer h.1 f) (values_agree h.0 number old new h.2)

-- ---- codes

empty_or_some : (bytes : List ℕ) → bytes ≡ [] → 0 < length bytes → ⊥
empty_or_some bytes none some = let size : length bytes ≡ 0 = ap length none in omega (arith, some, size)

one_step : (r : Result (List ℕ) Refusal) (w u v : CodeWalk) (x y : Option (Result UnwindCode Error)) → WalksIn r w x u → WalksIn r w y v → refused (flat_answer x) ≡ refused (flat_answer y)
one_step r w u v x y g h = grind (arith, empty_or_some, one_reading)

pub codes_agree : (b : List ℕ) (w after : CodeWalk) (answer : Result (Option Code) Refusal) → StepsCodes b w answer after → (v : CodeWalk) (number : ℕ) (old new : Code) → HandsOutCode b w v number old new →
    Agrees number (refused answer)
codes_agree b w after answer s v number old new h = grind (arith, one_step, agree)

-- ---- codes of ARM64

one_arm64_step : (r : Result (List ℕ) Refusal) (w u v : Arm64CodeWalk) (x y : Result (Option Arm64Code) Refusal) → WalksInArm64 r w x u → WalksInArm64 r w y v → refused x ≡ refused y
one_arm64_step r w u v x y g h = grind (arith, empty_or_some)

pub arm64_codes_agree : (b : List ℕ) (w after : Arm64CodeWalk) (answer : Result (Option Arm64Code) Refusal) → StepsArm64Codes b w answer after → (v : Arm64CodeWalk) (number : ℕ) (old new : Arm64Code) → AnswersArm64Code b w v number old new →
    Agrees number (refused answer)
arm64_codes_agree b w after answer s v number old new h = grind (arith, one_arm64_step, agree)
