use Rattle.std.proofs.Common.{rules, arith}
use Rattle.calls_stacks.proofs.OneFrames.{one_frame}
use Rattle.pe_c.proofs.laws.frames.one_of_frames_is_the_next.Goals as goal

pub returns : goal.returns
returns c = search (rules, arith, one_frame)
