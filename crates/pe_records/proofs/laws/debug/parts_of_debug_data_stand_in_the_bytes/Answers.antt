use Rattle.pe_records.proofs.PartsInOffset.{parts_stand}
use Rattle.pe_records.proofs.laws.debug.parts_of_debug_data_stand_in_the_bytes.Goals as goal

pub returns : goal.returns
returns c = parts_stand
