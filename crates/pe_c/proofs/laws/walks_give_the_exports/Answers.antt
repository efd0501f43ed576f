use Rattle.calls_directories.proofs.ExportRuns.{directory_in_turn}
use Rattle.pe_c.proofs.laws.walks_give_the_exports.Goals as goal

pub returns-clause-directory : goal.returns-clause-directory
returns-clause-directory c = directory_in_turn
