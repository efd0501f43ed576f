use Rattle.std.proofs.Common.{◌↔◌, Result, Err}
use Rattle.pe_plan.proofs.Cited.{err_from_is_err_and, Refusal}
use Rattle.pe_core.proofs.Steps.{other_value}
use Rattle.pe_plan.proofs.plan.UnwindPlan.of_found.Goals as goal

same_refusal : {X Y P : Type 0} (k l : Refusal) → Path (Result X Refusal) (Err k) (Err l) ↔ P → Path (Result Y Refusal) (Err k) (Err l) ↔ P
same_refusal k l h = (λ e. h.0 (other_value k l e), λ p. other_value k l (h.1 p))

pub returns-in_err-records-clause-cycle : goal.returns-in_err-records-clause-cycle
returns-in_err-records-clause-cycle g c =
    let p = err_from_is_err_and c.from_residual.result c.from_residual.ensures.1 in
    rw (c.in-Some.is, p.1, p.2) (same_refusal _ _ c.in_err-records.ensures.cycle)
