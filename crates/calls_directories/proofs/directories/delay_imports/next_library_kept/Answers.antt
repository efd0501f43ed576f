use Rattle.std.proofs.Common.{rules, arith}
use Rattle.calls_directories.proofs.Cited.{same_map}
use Rattle.calls_directories.proofs.directories.delay_imports.next_library_kept.Goals as goal

pub returns-clause-library : goal.returns-clause-library
returns-clause-library c = search (rules, arith, same_map)

pub returns-clause-walk : goal.returns-clause-walk
returns-clause-walk c = search (rules, arith, same_map)
