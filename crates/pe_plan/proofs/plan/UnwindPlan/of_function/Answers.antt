use Rattle.pe_plan.proofs.plan.UnwindPlan.of_function.Goals as goal

pub returns-clause-cycle : goal.returns-clause-cycle
returns-clause-cycle g c = rw c.section_map-sections.ensures at c.of_function_with_map.ensures.cycle
