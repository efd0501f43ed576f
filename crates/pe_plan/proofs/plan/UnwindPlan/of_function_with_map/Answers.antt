use Rattle.pe_plan.proofs.Cited.{err_from_is_err_and, kind_of}
use Rattle.pe_plan.proofs.Endings.{plan_cycle}
use Rattle.pe_plan.proofs.RecordLaw.{RecordLaw}
use Rattle.pe_plan.proofs.Walks.{counted, taken}
use Rattle.pe_plan.proofs.plan.UnwindPlan.of_function_with_map.Goals as goal

pub returns-in_err-count-clause-cycle : goal.returns-in_err-count-clause-cycle
returns-in_err-count-clause-cycle g c =
    let law : RecordLaw = record {
      exists = c.one_record_of_addresses.ensures.exists;
      one = c.one_record_of_addresses.ensures.one;
      cycle = c.one_record_of_addresses.ensures.cycle;
      no_memory = c.one_record_of_addresses.ensures.no_memory;
    } in
    let p = err_from_is_err_and c.from_residual.result c.from_residual.ensures.1 in
    rw (p.1, p.2) (plan_cycle law _ _ _ _ (counted _ _ _ (kind_of c.in_err-count.field-0.0) c.in_err-count.ensures))

pub returns-clause-cycle : goal.returns-clause-cycle
returns-clause-cycle g c =
    let law : RecordLaw = record {
      exists = c.one_record_of_addresses.ensures.exists;
      one = c.one_record_of_addresses.ensures.one;
      cycle = c.one_record_of_addresses.ensures.cycle;
      no_memory = c.one_record_of_addresses.ensures.no_memory;
    } in
    plan_cycle law _ _ _ _ (taken _ _ _ _ _ c.in_ok-count.ensures c.take.ensures)
