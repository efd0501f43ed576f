use Rattle.std.proofs.Common.{◌∙◌}
use Rattle.pe_resource.proofs.ValueRanges.{value_of_range}
use Rattle.pe_resource.proofs.version.value_in.Goals as goal

pub returns : goal.returns
returns c = c.bytes_in.ensures ∙ value_of_range _ c.args.data.now _ _ _ c.requires.ranges c.requires.key
