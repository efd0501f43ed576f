use Rattle.std.proofs.Common.{rules, sym, ◌∙◌}
use Rattle.pe_resource.proofs.Cited.{err_from_is_err_and, kind_of, entries, is_directory}
use Rattle.pe_resource.proofs.Contents.{leaf_given, leaf_refusal}
use Rattle.pe_resource.proofs.content.leaf.Goals as goal

pub returns-in_err-last-in-Some : goal.returns-in_err-last-in-Some
unfolding entries
returns-in_err-last-in-Some c =
    let p = err_from_is_err_and c.from_residual.result c.from_residual.ensures.1 in
    rw (p.1, p.2) (leaf_refusal _ _ _ (kind_of c.in_err-last-in-Some.field-0.0) (sym c.in-Some.is ∙ c.first_with_id.ensures) (c.in_err-last-in-Some.ensures.walks is_directory (λ e r h. search rules)))

pub returns-in_ok-last-in-Some : goal.returns-in_ok-last-in-Some
unfolding entries
returns-in_ok-last-in-Some c = leaf_given _ _ _ _ _ (sym c.in-Some.is ∙ c.first_with_id.ensures) (c.in_ok-last-in-Some.ensures.walks is_directory (λ e r h. search rules)) c.offset_to_data.ensures
