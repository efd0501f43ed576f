use Rattle.std.proofs.Common.{arith, length-set, rules}
use Rattle.std.proofs.lemmas.List.{take_more_set}
use Rattle.pe_frame.proofs.Pieces.{byte_more}
use Rattle.pe_frame.proofs.memory.known_word.Goals as goal

pub loop-index-preserved : goal.loop-index-preserved
loop-index-preserved g c = search (rules, arith, length-set, byte_more, take_more_set)
