use Rattle.std.proofs.Common.{◌∙◌}
use Rattle.pe_frame.specs.FrameWalks.{Process}
use Rattle.calls_stacks.specs.WalkModules.{modules_of}
use Rattle.calls_stacks.proofs.ViewedModules.{viewed_arm64_caller}
use Rattle.calls_stacks.proofs.stack.walk.ViewedModules.caller_in_arm64.Goals as goal

pub returns : goal.returns
returns g c =
    let p : Process = record { memory = g.M.Memory.word c.args.memory.now; modules = modules_of c.args.self.now.views.now } in
    viewed_arm64_caller p c.args.view.now c.args.frame.now c.as_ref.result c.module_with-module.result c.caller_in_module_arm64.result c.module_with-module.ensures (c.as_ref.ensures.value ∙ c.exceptions_of-exceptions.ensures) c.caller_in_module_arm64.ensures
