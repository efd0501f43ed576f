use Rattle.pe_resource.proofs.Cited.{entries_left, memory_never}
use Rattle.pe_resource.proofs.NoMemory.{version_lacks}
use Rattle.pe_resource.proofs.version.VersionInfo.parse.Goals as goal

pub returns-clause-no_memory : goal.returns-clause-no_memory
returns-clause-no_memory g c = memory_never _ (version_lacks _ _ _ (entries_left c.args.it) _ c.of_entries.ensures)
