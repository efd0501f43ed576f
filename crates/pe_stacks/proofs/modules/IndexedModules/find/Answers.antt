use Rattle.pe_frame.proofs.InModules.{ends_after, has_it}
use Rattle.pe_stacks.proofs.modules.IndexedModules.find.Goals as goal

pub returns-clause-has : goal.returns-clause-has
returns-clause-has g c = has_it c.args.self.now.modules.ranges.now c.args.address _ c.find.ensures

pub returns-clause-inside : goal.returns-clause-inside
returns-clause-inside g c = ends_after c.args.self.now.modules.ranges.now c.args.address _ c.find.ensures
