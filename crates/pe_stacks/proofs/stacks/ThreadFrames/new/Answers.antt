use Rattle.pe_stacks.specs.ThreadWalks.{process_of}
use Rattle.pe_stacks.proofs.stacks.ThreadFrames.new.Goals as goal

pub returns : goal.returns
returns g c = c.starting.ensures (process_of g.L.LoadedModules.modules g.M.Memory.word c.args.modules.now c.args.memory.now)
