use Rattle.pe_resource.specs.Directories.{count}
use Rattle.pe_resource.proofs.LeafWalks.{whole_table}
use Rattle.pe_resource.proofs.resource.first_entries.Goals as goal

pub returns-in-Ok-default-clause-whole : goal.returns-in-Ok-default-clause-whole
returns-in-Ok-default-clause-whole c =
    whole_table c.args.data.now c.in-Ok-default.table.now 16 (count c.args.directory.now) (rw c.entries_size-size.ensures at c.in-Ok-default.ensures)
