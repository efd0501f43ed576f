use Rattle.pe_unwind.proofs.Arm64Records.{parts_stand}
use Rattle.pe_unwind.proofs.laws.arm64.parts_of_arm64_records_stand.Goals as goal

pub returns : goal.returns
returns c = parts_stand
