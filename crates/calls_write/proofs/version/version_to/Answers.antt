use Rattle.pe_version.specs.VersionRecords.{records_version}
use Rattle.pe_version.specs.VersionRefusals.{version_kind_of}
use Rattle.calls_write.proofs.ResourceEdits.{version_refused}
use Rattle.calls_write.proofs.version.version_to.Goals as goal

pub returns-in-Err : goal.returns-in-Err
returns-in-Err c = (
  version_refused (records_version c.args.value.now) c.args.room.now (version_kind_of c.in-Err.error) c.number_of_version.result c.in-Err.ensures.0 c.number_of_version.ensures,
  c.in-Err.ensures.1,
)
