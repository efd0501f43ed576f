use Rattle.pe_frame.proofs.Returned.{caller_of_rest}
use Rattle.pe_frame.proofs.laws.epilogs_return_to_the_caller.Goals as goal

pub returns : goal.returns
returns c =
    λ m p parts before rest i start rva code g h x at steps.
    caller_of_rest m p parts before rest i start rva code g h x at.frames at.epilog at.ready at.ran at.left steps
