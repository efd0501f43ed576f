use Rattle.std.proofs.Common.{rules, arith}
use Rattle.calls_unwind.proofs.FunctionPlans.{records_are_reported, refusals_are_of_plans, plans_end_so, tables_are_refused}
use Rattle.pe_c.proofs.laws.plans_are_those_of_functions.Goals as goal

pub returns : goal.returns
returns c = search (rules, arith, records_are_reported, refusals_are_of_plans, plans_end_so, tables_are_refused)
