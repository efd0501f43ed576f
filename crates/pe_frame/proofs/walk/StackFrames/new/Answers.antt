use Rattle.pe_frame.specs.FrameWalks.{Process}
use Rattle.pe_frame.proofs.walk.StackFrames.new.Goals as goal

pub returns : goal.returns
returns g c =
    let p : Process = record { memory = g.M.Memory.word c.args.memory.now; modules = c.args.modules.modules.now } in
    c.starting.ensures p
