use Rattle.pe_unwind.proofs.Searches.{finds_inside, finds_past, finds_none}
use Rattle.pe_unwind.proofs.function_table.search.Goals as goal

pub returns-in-Some-clause-found : goal.returns-in-Some-clause-found
returns-in-Some-clause-found c = finds_inside _ _ _ _ c.last_start.ensures.found c.in-Some.is c.if-rva-function.true

pub returns-in_default-clause-found : goal.returns-in_default-clause-found
returns-in_default-clause-found c = finds_past _ _ _ _ c.last_start.ensures.found c.in-Some.is c.if-rva-function.false

pub returns-in_default-2-clause-found : goal.returns-in_default-2-clause-found
returns-in_default-2-clause-found c = finds_none _ _ _ c.last_start.ensures.found c.in_default.is
