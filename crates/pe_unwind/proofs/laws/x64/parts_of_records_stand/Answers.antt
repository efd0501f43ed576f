use Rattle.pe_unwind.proofs.Offsets.{parts_stand}
use Rattle.pe_unwind.proofs.laws.x64.parts_of_records_stand.Goals as goal

pub returns : goal.returns
returns c = parts_stand
