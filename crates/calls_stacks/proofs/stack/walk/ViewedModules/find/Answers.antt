use Rattle.calls_stacks.proofs.ViewedModules.{ends_after, has_it}
use Rattle.calls_stacks.proofs.stack.walk.ViewedModules.find.Goals as goal

pub returns-clause-has : goal.returns-clause-has
returns-clause-has c = has_it c.args.self.now.views.now c.args.address _ c.view_with.ensures

pub returns-clause-inside : goal.returns-clause-inside
returns-clause-inside c = ends_after c.args.self.now.views.now c.args.address _ c.view_with.ensures
