use Rattle.std.proofs.Common.{◌≡◌, drop}
use Rattle.pe_edit.proofs.Cited.{list_all, leaf_views, names_fit}
use Rattle.pe_edit.proofs.section.require_names.Given as goal

-- the leaves so far fit
abbrev pub invariant-loop-index : goal.invariant-loop-index
invariant-loop-index l = list_all names_fit (drop l.index (leaf_views l.leaves)) ≡ list_all names_fit (leaf_views l.leaves)
