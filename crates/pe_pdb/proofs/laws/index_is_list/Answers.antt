use Rattle.pe_pdb.proofs.Frames.{covering_is, id_is, line_is, nearest_is}
use Rattle.pe_pdb.proofs.laws.index_is_list.Goals as goal

pub returns : goal.returns
returns c = record { symbols = nearest_is; procedures = covering_is; lines = line_is; ids = id_is }
