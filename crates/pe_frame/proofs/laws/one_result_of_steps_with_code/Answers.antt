use Rattle.std.proofs.Common.{arith, rules}
use Rattle.pe_frame.proofs.OneStep.{some_from, one_from}
use Rattle.pe_frame.proofs.laws.one_result_of_steps_with_code.Goals as goal

pub returns : goal.returns
returns c = search (rules, arith, some_from, one_from)
