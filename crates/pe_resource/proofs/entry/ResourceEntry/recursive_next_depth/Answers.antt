use Rattle.pe_resource.proofs.Cited.{err_from_is_err_and, kind_of}
use Rattle.pe_resource.proofs.Walks.{given_no_cycle, refused_cycle}
use Rattle.pe_resource.proofs.entry.ResourceEntry.recursive_next_depth.Goals as goal

pub returns-in_err-walk-clause-cycle : goal.returns-in_err-walk-clause-cycle
returns-in_err-walk-clause-cycle g c = λ p steady.
    let q = err_from_is_err_and c.from_residual.result c.from_residual.ensures.1 in
    rw (q.1, q.2) (refused_cycle _ _ _ (kind_of c.in_err-walk.field-0.0) (c.in_err-walk.ensures.walks p steady))

pub returns-clause-cycle : goal.returns-clause-cycle
returns-clause-cycle g c = λ p steady. given_no_cycle _ _ _ _ (c.in_ok-walk.ensures.walks p steady)
