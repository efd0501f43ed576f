use Rattle.std.proofs.Common.{◌∙◌}
use Rattle.pe_frame.specs.FrameWalks.{frame_left}
use Rattle.calls_stacks.specs.WalkModules.{modules_of}
use Rattle.calls_stacks.proofs.ViewedModules.{viewed_caller}
use Rattle.calls_stacks.proofs.stack.walk.ViewedModules.become_caller_in.Goals as goal

pub returns-clause-caller : goal.returns-clause-caller
returns-clause-caller g c =
    viewed_caller (g.M.Memory.word c.args.memory.now) (modules_of c.args.self.now.views.now) c.args.view.now c.args.frame.now c.as_ref.result c.module_with-module.result (frame_left c.caller_in_module.result c.caller_in_module.new.frame) c.module_with-module.ensures (c.as_ref.ensures.value ∙ c.exceptions_of-exceptions.ensures) c.caller_in_module.ensures.caller
