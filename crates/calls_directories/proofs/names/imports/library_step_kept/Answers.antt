use Rattle.std.proofs.Common.{rules, arith}
use Rattle.calls_directories.proofs.Cited.{same_map}
use Rattle.calls_directories.proofs.names.imports.library_step_kept.Goals as goal

pub returns-clause-returned : goal.returns-clause-returned
returns-clause-returned c = search (rules, arith, same_map)
