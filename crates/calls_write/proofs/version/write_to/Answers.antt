use Rattle.pe_version.specs.VersionRefusals.{block_view, version_kind_of}
use Rattle.calls_write.proofs.ResourceEdits.{block_refused}
use Rattle.calls_write.proofs.version.write_to.Goals as goal

pub returns-in-Err : goal.returns-in-Err
returns-in-Err c = (
  block_refused (block_view c.args.block.now) c.args.room.now (version_kind_of c.in-Err.error) c.number_of_version.result c.in-Err.ensures.0 c.number_of_version.ensures,
  c.in-Err.ensures.1,
)
