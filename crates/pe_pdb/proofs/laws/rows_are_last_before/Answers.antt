use Rattle.pe_pdb.proofs.LastLines.{last_later, line_covers, line_once}
use Rattle.pe_pdb.proofs.laws.rows_are_last_before.Goals as goal

pub returns : goal.returns
returns c = record { one = line_once; between = last_later; covered = line_covers }
