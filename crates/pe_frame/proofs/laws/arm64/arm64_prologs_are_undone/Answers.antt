use Rattle.pe_frame.proofs.Arm64Frames.{arm64_caller}
use Rattle.pe_frame.proofs.laws.arm64.arm64_prologs_are_undone.Goals as goal

pub returns : goal.returns
returns c = λ m i p place stand g left frame x. arm64_caller m i p place stand g x left frame
