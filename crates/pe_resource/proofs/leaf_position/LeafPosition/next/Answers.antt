use Rattle.pe_resource.proofs.LeafPositions.{refused_once, refused_to_the_end}
use Rattle.pe_resource.proofs.leaf_position.LeafPosition.next.Goals as goal

pub returns-in-Err-clause-item : goal.returns-in-Err-clause-item
returns-in-Err-clause-item c = refused_once c.args.data.now c.args.self.now _ c.in-Err.ensures

pub returns-in-Err-clause-position : goal.returns-in-Err-clause-position
returns-in-Err-clause-position c = refused_to_the_end c.args.data.now c.args.self.now _ c.in-Err.ensures
