use Rattle.pe_rewrite.proofs.Cited.{header_view, leaf_views}
use Rattle.pe_rewrite.proofs.Calls.{more_small, moved_length_returned}
use Rattle.pe_rewrite.proofs.edit.len_at_end.Goals as goal

pub length_with-requires : goal.length_with-requires
length_with-requires c = more_small c.args.bytes.now (header_view c.args.header.now) (leaf_views c.args.leaves.now) c.in_ok-room.room c.in_ok-room.ensures

pub returns : goal.returns
returns c = moved_length_returned c.args.bytes.now (header_view c.args.header.now) (leaf_views c.args.leaves.now) c.in_ok-room.room c.length_with.result c.in_ok-room.ensures c.length_with.ensures
