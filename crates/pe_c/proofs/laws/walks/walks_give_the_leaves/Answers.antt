use Rattle.calls_directories.proofs.LeafRuns.{leaves_in_turn, leaves_of_tree}
use Rattle.pe_c.proofs.laws.walks.walks_give_the_leaves.Goals as goal

pub returns-clause-leaves : goal.returns-clause-leaves
returns-clause-leaves c = leaves_in_turn

pub returns-clause-of_tree : goal.returns-clause-of_tree
returns-clause-of_tree c = leaves_of_tree
