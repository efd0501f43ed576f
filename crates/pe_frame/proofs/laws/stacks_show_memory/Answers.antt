use Rattle.pe_frame.proofs.Begun.{word_shown}
use Rattle.pe_frame.proofs.laws.stacks_show_memory.Goals as goal

pub returns : goal.returns
returns c = word_shown
