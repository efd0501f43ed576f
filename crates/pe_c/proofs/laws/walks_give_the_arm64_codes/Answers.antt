use Rattle.calls_unwind.proofs.Arm64CodeRuns.{lies_once}
use Rattle.pe_c.proofs.laws.walks_give_the_arm64_codes.Goals as goal

pub returns-clause-outside : goal.returns-clause-outside
returns-clause-outside c = lies_once
