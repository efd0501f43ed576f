use Rattle.std.proofs.Common.{arith, rules}
use Rattle.pe_frame.proofs.Found.{guesses_stay, leaf_keeps, records_are_sure, records_keep, words_are_guesses}
use Rattle.pe_frame.proofs.laws.walks.frames_say_whether_they_are_guesses.Goals as goal

pub returns : goal.returns
returns c = search (rules, arith, words_are_guesses, guesses_stay, records_keep, leaf_keeps, records_are_sure)
