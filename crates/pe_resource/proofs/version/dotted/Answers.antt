use Rattle.std.proofs.Common.{append_assoc}
use Rattle.pe_resource.proofs.version.dotted.Goals as goal

pub returns : goal.returns
returns g c = simp append_assoc c.format.ensures.ok
