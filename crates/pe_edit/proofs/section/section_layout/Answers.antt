use Rattle.std.proofs.Common.{◌≡◌, ◌+◌, ◌<◌, ◌∙◌, sym, refl, arith, true}
use Rattle.pe_edit.proofs.Cited.{list_all, is_sorted, leaf_views, names_fit, section_length}
use Rattle.pe_edit.proofs.Tests.{each_passes, ends_none, ends_some, layout_returned, one_test, too_large}
use Rattle.pe_edit.proofs.section.section_layout.Goals as goal

pub of-layout-requires-clause-fits : goal.of-layout-requires-clause-fits
of-layout-requires-clause-fits c = each_passes (leaf_views c.args.leaves.now) (one_test (list_all names_fit (leaf_views c.args.leaves.now)) _ tt _ c.in_ok-require_names.ensures)

pub returns-in-Some : goal.returns-in-Some
returns-in-Some c =
    let names : list_all names_fit (leaf_views c.args.leaves.now) ≡ true = one_test (list_all names_fit (leaf_views c.args.leaves.now)) _ tt _ c.in_ok-require_names.ensures in
    let sorted : is_sorted (leaf_views c.args.leaves.now) ≡ true = one_test (is_sorted (leaf_views c.args.leaves.now)) _ tt _ c.in_ok-require_order.ensures in
    let both : (c.args.rva + section_length (leaf_views c.args.leaves.now) < 4294967296) × (c.in-Some.end ≡ c.args.rva + section_length (leaf_views c.args.leaves.now)) =
    ends_some c.args.rva (c.args.rva + c.of-layout.result.contents) c.in-Some.end (leaf_views c.args.leaves.now) c.of-layout.result c.of-layout.ensures refl (sym c.in-Some.is ∙ c.contents_end.ensures) in
    layout_returned c.args.rva (leaf_views c.args.leaves.now) c.of-layout.result _ (omega (arith, c.len-count.ensures)) names sorted c.of-layout.ensures (omega arith) both.0 (omega (arith, both.1))

pub returns-in-None : goal.returns-in-None
returns-in-None c =
    let names : list_all names_fit (leaf_views c.args.leaves.now) ≡ true = one_test (list_all names_fit (leaf_views c.args.leaves.now)) _ tt _ c.in_ok-require_names.ensures in
    let sorted : is_sorted (leaf_views c.args.leaves.now) ≡ true = one_test (is_sorted (leaf_views c.args.leaves.now)) _ tt _ c.in_ok-require_order.ensures in
    too_large c.args.rva (leaf_views c.args.leaves.now) c.of-layout.result (omega (arith, c.len-count.ensures)) names sorted c.of-layout.ensures (omega arith)
    (ends_none c.args.rva (c.args.rva + c.of-layout.result.contents) (leaf_views c.args.leaves.now) c.of-layout.result c.of-layout.ensures refl (sym c.in-None.is ∙ c.contents_end.ensures))
