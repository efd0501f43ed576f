use Rattle.pe_core.proofs.ReasonEquality.{reasons_equal}
use Rattle.pe_core.proofs.laws.derives.reasons_are_equal_if_they_are_the_same.Goals as goal

pub returns : goal.returns
returns c = reasons_equal
