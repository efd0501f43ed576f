use Rattle.std.proofs.Common.{rules, arith}
use Rattle.calls_directories.proofs.Cited.{same_map}
use Rattle.calls_directories.proofs.directories.delay_imports.next_function_kept.Goals as goal

pub returns-clause-function : goal.returns-clause-function
returns-clause-function c = search (rules, arith, same_map)

pub returns-clause-left : goal.returns-clause-left
returns-clause-left c = search (rules, arith, same_map)
