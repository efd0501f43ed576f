use Rattle.calls_unwind.proofs.StepFailures.{arm64_codes_agree, codes_agree, records_agree}
use Rattle.pe_c.proofs.laws.failures.step_failures_are_those_of_the_calls.Goals as goal

pub returns-clause-unwind_records : goal.returns-clause-unwind_records
returns-clause-unwind_records c = records_agree

pub returns-clause-codes : goal.returns-clause-codes
returns-clause-codes c = codes_agree

pub returns-clause-arm64_codes : goal.returns-clause-arm64_codes
returns-clause-arm64_codes c = arm64_codes_agree
