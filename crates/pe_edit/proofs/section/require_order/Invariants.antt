use Rattle.std.proofs.Common.{◌≡◌, ◌<◌, ◌-◌, drop}
use Rattle.pe_edit.proofs.Cited.{is_sorted, leaf_views}
use Rattle.pe_edit.proofs.section.require_order.Given as goal

-- the leaves so far are sorted
abbrev pub invariant-loop-index : goal.invariant-loop-index
invariant-loop-index l = record {
  some : 0 < l.index;
  same : is_sorted (drop (l.index - 1) (leaf_views l.leaves)) ≡ is_sorted (leaf_views l.leaves);
}

abbrev pub decreases-loop-index : goal.decreases-loop-index
decreases-loop-index l = l.count - l.index
