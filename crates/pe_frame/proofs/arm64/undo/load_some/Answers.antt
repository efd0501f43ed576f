use Rattle.std.proofs.Common.{arith, rules}
use Rattle.pe_frame.proofs.Arm64Effects.{one_store}
use Rattle.pe_frame.proofs.arm64.undo.load_some.Goals as goal

pub returns-in-Some : goal.returns-in-Some
returns-in-Some g c = search (rules, arith, one_store)
