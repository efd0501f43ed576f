use Rattle.std.proofs.Common.{Result}
use Rattle.pe_resource.proofs.Cited.{ResourceLeaf, tree_answer, leaves_left}
use Rattle.pe_resource.specs.declared.tree_error.ResourceTreeError.{ResourceTreeError}
use Rattle.pe_resource.proofs.Entries.{list_from_yields}
use Rattle.pe_resource.proofs.laws.resources.leaf_walks_give_the_leaves.Goals as goal

pub returns-clause-items : goal.returns-clause-items
returns-clause-items c = λ s xs d. list_from_yields (λ (r : Result ResourceLeaf ResourceTreeError). tree_answer r) leaves_left s d.1.0 d.0 xs d.1.1 d.1.2
