use Rattle.pe_frame.proofs.OneStep.{one_step}
use Rattle.pe_frame.proofs.laws.one_result_of_steps.Goals as goal

pub returns-clause-one : goal.returns-clause-one
returns-clause-one c = one_step
