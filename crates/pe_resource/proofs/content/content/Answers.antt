use Rattle.std.proofs.Common.{Some, ap, sym, ◌∙◌}
use Rattle.pe_resource.proofs.Cited.{err_from_is_err_and, kind_of, content_of, entries_left}
use Rattle.pe_resource.proofs.Contents.{content_given, content_refusal}
use Rattle.pe_resource.proofs.content.content.Goals as goal

pub returns-in_err-content_range : goal.returns-in_err-content_range
returns-in_err-content_range c =
    let p = err_from_is_err_and c.from_residual.result c.from_residual.ensures.1 in
    rw (p.1, p.2) (content_refusal _ _ _ (entries_left c.args.it) c.args.id (kind_of c.in_err-content_range.field-0.0) c.in_err-content_range.ensures.range)

pub returns-in-None : goal.returns-in-None
returns-in-None c =
    content_given _ _ _ (entries_left c.args.it) c.args.id c.in_ok-content_range.field-0 _ c.in_ok-content_range.ensures.range
    (ap (content_of c.args.image.now.bytes.now) (sym c.in-None.is))

pub returns-in-Some : goal.returns-in-Some
returns-in-Some c =
    content_given _ _ _ (entries_left c.args.it) c.args.id c.in_ok-content_range.field-0 _ c.in_ok-content_range.ensures.range
    (ap (λ b. Some b) c.of.ensures ∙ ap (content_of c.args.image.now.bytes.now) (sym c.in-Some.is))
