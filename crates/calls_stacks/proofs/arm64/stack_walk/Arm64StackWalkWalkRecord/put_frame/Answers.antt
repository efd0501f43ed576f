use Rattle.std.proofs.Common.{ap, ◌∙◌}
use Rattle.calls_stacks.specs.Arm64StackWalks.{arm64_stack_walks, frame_in}
use Rattle.calls_stacks.specs.FrameCalls.{state_in}
use Rattle.calls_stacks.proofs.Arm64WalkFrames.{kept, position_after}
use Rattle.calls_stacks.proofs.arm64.stack_walk.Arm64StackWalkWalkRecord.put_frame.Goals as goal

pub returns-clause-kept : goal.returns-clause-kept
returns-clause-kept c = ap frame_in c.write_frame.ensures ∙ kept c.args.self.now c.args.frame.now

pub returns-clause-position : goal.returns-clause-position
returns-clause-position c p =
    ap (state_in arm64_stack_walks p) c.write_frame.ensures ∙ position_after p c.args.self.now c.args.frame.now
