use Rattle.pe_rewrite.proofs.Cited.{header_view, leaf_views}
use Rattle.pe_rewrite.proofs.Calls.{length_returned}
use Rattle.pe_rewrite.proofs.edit.len_in_place.Goals as goal

pub returns : goal.returns
returns c = length_returned c.args.bytes.now (header_view c.args.header.now) (leaf_views c.args.leaves.now) c.in_ok-find_place.field-0 c.in_ok-find_place.ensures
