use Rattle.std.proofs.Common.{rules, arith}
use Rattle.calls_directories.proofs.LibraryFunctionRuns.{shorter}
use Rattle.calls_directories.proofs.directories.all_delay_imports.next_library.Goals as goal

pub returns-in-Ok-Some-clause-onward : goal.returns-in-Ok-Some-clause-onward
returns-in-Ok-Some-clause-onward c = search (rules, arith, shorter)
