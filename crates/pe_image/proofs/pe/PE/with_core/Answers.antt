use Rattle.std.proofs.lemmas.Result.{err_from_is_err_and}
use Rattle.pe_image.proofs.Images.{first_refused_unless, last_answer_refused, last_answer}
use Rattle.pe_image.proofs.pe.PE.with_core.Goals as goal

pub returns-in_err-first-clause-image : goal.returns-in_err-first-clause-image
returns-in_err-first-clause-image g c =
    let p = err_from_is_err_and c.from_residual.result c.from_residual.ensures.1 in
    rw (p.1, p.2) (first_refused_unless _ _ _ c.in_err-first.field-0.0 c.in_err-first.ensures.fields)

pub returns-in_err-resource_data-clause-image : goal.returns-in_err-resource_data-clause-image
returns-in_err-resource_data-clause-image g c =
    let p = err_from_is_err_and c.from_residual-in_err-resource_data.result c.from_residual-in_err-resource_data.ensures.1 in
    rw (p.1, p.2) (last_answer_refused _ _ _ _ _ _ c.in_err-resource_data.field-0.0 c.in_ok-first.ensures.fields c.requires.layout c.deref.ensures.value c.in_err-resource_data.ensures.resources)

pub returns-clause-image : goal.returns-clause-image
returns-clause-image g c =
    last_answer _ _ _ _ _ _ c.in_ok-resource_data.resource_data _ c.in_ok-first.ensures.fields c.requires.layout c.deref.ensures.value c.in_ok-resource_data.ensures.resources c.of_parts.ensures.view
