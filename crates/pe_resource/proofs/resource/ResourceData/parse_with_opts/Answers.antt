use Rattle.pe_core.proofs.NoMemory.{memory_never}
use Rattle.pe_resource.proofs.NoMemory.{resource_lacks}
use Rattle.pe_resource.proofs.resource.ResourceData.parse_with_opts.Goals as goal

pub returns-clause-no_memory : goal.returns-clause-no_memory
returns-clause-no_memory g c = memory_never _ (resource_lacks _ _ c.args.data_directory _ _ _ c.of_directory.ensures)
