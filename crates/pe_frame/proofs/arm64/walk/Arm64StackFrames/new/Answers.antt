use Rattle.pe_frame.specs.FrameWalks.{Process}
use Rattle.pe_frame.proofs.arm64.walk.Arm64StackFrames.new.Goals as goal

pub returns : goal.returns
returns g c = c.starting.ensures (record { memory = g.M.Memory.word c.args.memory.now; modules = c.args.modules.modules.now })
