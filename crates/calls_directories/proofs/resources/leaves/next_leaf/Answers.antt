use Rattle.std.proofs.Common.{◌∷◌, Result, sym, ap, ◌∙◌}
use Rattle.calls_directories.proofs.Cited.{leaves_at, tree_answer, map_kept}
use Rattle.pe_resource.specs.declared.leaves.ResourceLeaf.{ResourceLeaf}
use Rattle.pe_resource.specs.declared.tree_error.ResourceTreeError.{ResourceTreeError}
use Rattle.calls_directories.proofs.LeafRuns.{after_leaf}
use Rattle.calls_directories.proofs.resources.leaves.next_leaf.Goals as goal

pub returns-clause-left : goal.returns-clause-left
returns-clause-left c =
    after_leaf c.args.view.now.bytes.now (map_kept c.args.view.now c.args.kept) c.walk_at.result c.args.walk.now c.in_ok-data.data.now c.next.new.self c.position_of-position.result c.in_ok-item.field-0 c.in_ok-leaf.leaf
    c.in_ok-data.ensures c.walk_at.ensures.tree c.walk_at.ensures.position c.position_of-position.ensures
    (c.in-Some.ensures.item ∙ ap (λ (i : Result ResourceLeaf ResourceTreeError). tree_answer i ∷ leaves_at c.in_ok-data.data.now c.next.new.self) c.in_ok-item.was)
    (sym c.in_ok-leaf.ensures)
