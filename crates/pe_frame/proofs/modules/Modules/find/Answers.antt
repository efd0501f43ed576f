use Rattle.pe_frame.proofs.InModules.{ends_after, has_it}
use Rattle.pe_frame.proofs.modules.Modules.find.Goals as goal

pub returns-clause-has : goal.returns-clause-has
returns-clause-has c = has_it c.args.self.now.modules.now c.args.address _ c.range_with.ensures

pub returns-clause-inside : goal.returns-clause-inside
returns-clause-inside c = ends_after c.args.self.now.modules.now c.args.address _ c.range_with.ensures
