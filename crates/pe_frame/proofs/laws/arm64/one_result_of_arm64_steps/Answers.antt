use Rattle.pe_frame.proofs.Arm64Streams.{some_arm64_step, one_arm64_step}
use Rattle.pe_frame.proofs.laws.arm64.one_result_of_arm64_steps.Goals as goal

pub returns : goal.returns
returns c = record { exists = some_arm64_step; one = one_arm64_step }
