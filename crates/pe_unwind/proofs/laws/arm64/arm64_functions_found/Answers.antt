use Rattle.pe_unwind.proofs.Arm64Searches.{finds_arm64}
use Rattle.pe_unwind.proofs.laws.arm64.arm64_functions_found.Goals as goal

pub returns : goal.returns
returns c = finds_arm64
