use Rattle.std.proofs.Common.{ap, ◌∙◌}
use Rattle.calls_stacks.specs.FrameCalls.{state_in}
use Rattle.calls_stacks.specs.StackWalks.{frame_in, stack_walks}
use Rattle.calls_stacks.proofs.WalkFrames.{kept, position_after}
use Rattle.calls_stacks.proofs.stack.walk.StackWalkWalkRecord.put_frame.Goals as goal

pub returns-clause-kept : goal.returns-clause-kept
returns-clause-kept c =
    ap frame_in c.write_frame.ensures.after ∙ kept c.args.self.now c.args.frame.now c.write_frame.ensures.xmm

pub returns-clause-position : goal.returns-clause-position
returns-clause-position c p =
    ap (state_in stack_walks p) c.write_frame.ensures.after ∙ position_after p c.args.self.now c.args.frame.now c.write_frame.ensures.xmm
