use Rattle.pe_plan.proofs.ShortPlans.{plan_refused, plan_longer}
use Rattle.pe_plan.proofs.RecordLaw.{RecordLaw}
use Rattle.pe_plan.proofs.laws.short_plans_are_plans.Goals as goal

pub returns-clause-refused : goal.returns-clause-refused
returns-clause-refused c =
    let law : RecordLaw = record {
      exists = c.one_record_of_addresses.ensures.exists;
      one = c.one_record_of_addresses.ensures.one;
      cycle = c.one_record_of_addresses.ensures.cycle;
      no_memory = c.one_record_of_addresses.ensures.no_memory;
    } in
    plan_refused law

pub returns-clause-many : goal.returns-clause-many
returns-clause-many c =
    let law : RecordLaw = record {
      exists = c.one_record_of_addresses.ensures.exists;
      one = c.one_record_of_addresses.ensures.one;
      cycle = c.one_record_of_addresses.ensures.cycle;
      no_memory = c.one_record_of_addresses.ensures.no_memory;
    } in
    plan_longer law
