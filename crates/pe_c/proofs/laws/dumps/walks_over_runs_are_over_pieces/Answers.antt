use Rattle.pe_frame.specs.Arm64Walks as arm64
use Rattle.pe_c.proofs.Cited.{Calls, arm64_stack_walks, stack_walks, ascend, keep_marks}
use Rattle.calls_stacks.proofs.Arm64WalkFrames as arm64_frames
use Rattle.calls_stacks.proofs.RunWalks.{either_way, over_runs}
use Rattle.pe_c.proofs.laws.dumps.walks_over_runs_are_over_pieces.Goals as goal

pub returns : goal.returns
returns c = record {
  x64 = λ views memory pieces runs number old older new are inside same either given. over_runs Calls stack_walks keep_marks number memory pieces runs old older new are inside same (either_way older.is_searched (ascend pieces) either) views given;
  arm64 = λ views memory pieces runs number old older new are inside same either given. over_runs arm64.Calls arm64_stack_walks arm64_frames.keep_marks number memory pieces runs old older new are inside same (either_way older.is_searched (ascend pieces) either) views given;
}
