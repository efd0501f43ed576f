use Rattle.std.proofs.Common.{arith, rules}
use Rattle.pe_pdb.proofs.StreamLists.{one_more_start, room_of_starts, start_next}
use Rattle.pe_pdb.proofs.file.Msf.put_starts.Goals as goal

pub loop-index-preserved : goal.loop-index-preserved
loop-index-preserved c = search (rules, arith, start_next, one_more_start)

pub returns : goal.returns
returns c = search (rules, arith, room_of_starts)
