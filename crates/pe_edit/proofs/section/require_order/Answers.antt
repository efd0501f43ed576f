use Rattle.std.proofs.Common.{◌≡◌, ◌∙◌, false, arith, refl, sym}
use Rattle.pe_edit.proofs.Cited.{is_sorted, leaf_view, leaf_views}
use Rattle.pe_edit.proofs.Tests.{one_unsorted}
use Rattle.pe_edit.proofs.section.require_order.Goals as goal

pub returns-then-not-is_before : goal.returns-then-not-is_before
returns-then-not-is_before c =
    let unsorted : is_sorted (leaf_views c.args.leaves.now) ≡ false =
    one_unsorted (leaf_views c.args.leaves.now) c.loop-index.index (leaf_view c.at.result) (leaf_view c.at-in-loop-index.result) c.loop-index.invariant.some (omega (arith, c.loop-index-test.true, c.len-count.ensures))
    c.at.ensures c.at-in-loop-index.ensures (sym c.is_before.ensures ∙ c.if-not-is_before.true) c.loop-index.invariant.same in
    rw unsorted refl
