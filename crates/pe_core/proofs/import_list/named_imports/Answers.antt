use Rattle.std.proofs.Common.{arith}
use Rattle.pe_core.proofs.import_list.named_imports.Goals as goal

pub import_of-requires-clause-name : goal.import_of-requires-clause-name
import_of-requires-clause-name g c = c.requires.names.are c.loop-i.i _ _ (omega (arith, c.requires.many, c.loop-i-test.true))
