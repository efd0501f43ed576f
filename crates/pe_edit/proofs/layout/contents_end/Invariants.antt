use Rattle.std.proofs.Common.{◌≡◌, ◌+◌, drop}
use Rattle.pe_edit.proofs.Cited.{leaf_views, padded_size, total}
use Rattle.pe_edit.proofs.layout.contents_end.Given as goal

-- the contents so far are added
abbrev pub invariant-loop-index : goal.invariant-loop-index
invariant-loop-index l =
    l.end + total padded_size (drop l.index (leaf_views l.leaves)) ≡ l.start + total padded_size (leaf_views l.leaves)
