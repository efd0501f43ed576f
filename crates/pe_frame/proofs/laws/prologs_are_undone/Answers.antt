use Rattle.pe_frame.proofs.Frames.{caller_after_prolog, caller_in_prolog}
use Rattle.pe_frame.proofs.laws.prologs_are_undone.Goals as goal

pub returns : goal.returns
returns c = record { whole = caller_after_prolog; begun = caller_in_prolog }
