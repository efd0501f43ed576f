use Rattle.pe_resource.proofs.Names.{name_whole}
use Rattle.pe_resource.proofs.string.ResourceString.has_key.Goals as goal

pub returns : goal.returns
returns c = name_whole _ c.args.name.now _ _ c.requires.whole c.requires.plain c.as_bytes.ensures.value c.same_units.ensures
