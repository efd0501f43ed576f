use Rattle.pe_resource.proofs.Cited.{entries_left, memory_never}
use Rattle.pe_resource.proofs.NoMemory.{content_lacks}
use Rattle.pe_resource.proofs.manifest.ManifestData.parse.Goals as goal

pub returns-clause-no_memory : goal.returns-clause-no_memory
returns-clause-no_memory g c = memory_never _ (content_lacks _ _ _ (entries_left c.args.it) 24 _ c.of_entries.ensures)
