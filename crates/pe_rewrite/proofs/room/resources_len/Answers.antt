use Rattle.std.proofs.Common.{ap}
use Rattle.pe_rewrite.proofs.Cited.{leaf_views, of_leaves}
use Rattle.pe_rewrite.proofs.Placed.{small_length}
use Rattle.pe_rewrite.proofs.room.resources_len.Goals as goal

pub returns-clause-small : goal.returns-clause-small
returns-clause-small c = small_length c.args.rva c.in_ok-length.length (leaf_views c.args.leaves.now) (ap of_leaves c.in_ok-length.ensures)
