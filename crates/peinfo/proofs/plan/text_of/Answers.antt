use Rattle.std.proofs.lemmas.Result.{err_from_is_err_and}
use Rattle.peinfo.proofs.PlanTexts.{plan_refusal}
use Rattle.peinfo.proofs.plan.text_of.Goals as goal

pub returns-in_err-records : goal.returns-in_err-records
returns-in_err-records g c =
    let p = err_from_is_err_and c.from_residual-in_err-records.result c.from_residual-in_err-records.ensures.1 in
    rw (p.1, p.2) (plan_refusal _ _ _ _ c.in_err-records.field-0.0 (rw c.default.ensures at c.in_ok-image.ensures.image) (rw c.default.ensures at c.in_ok-image.ensures.sections) (rw c.x64_exceptions.ensures at c.found_in-found.ensures) (rw c.deref.ensures.value at c.in_err-records.ensures))
