use Rattle.std.proofs.Common.{ℕ, Option, ap, ◌∙◌}
use Rattle.pe_core.specs.Refusals.{answer_of}
use Rattle.calls_failures.specs.Arm64Failures.{arm64_code_numbers}
use Rattle.calls_base.specs.FailureNumbers.{failure_by}
use Rattle.calls_failures.proofs.UnwindFailures.{why_of_arm64_code}
use Rattle.calls_failures.proofs.steps.arm64.code_failure.Goals as goal

pub returns : goal.returns
returns c =
    why_of_arm64_code c.args.bytes.now c.args.walk.now c.next_code.new.walk (answer_of c.next_code.result) c.failure_of_code.result c.next_code.ensures
    (c.failure_of_code.ensures ∙ ap (λ (number : Option ℕ). failure_by (arm64_code_numbers c.args.walk.now) number) c.refused-number.ensures)
