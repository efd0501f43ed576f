use Rattle.pe_resource.proofs.Names.{plain_at}
use Rattle.pe_resource.proofs.string.ResourceString.keep_range.Goals as goal

pub has_key-requires-clause-plain : goal.has_key-requires-clause-plain
has_key-requires-clause-plain c = plain_at (λ key. key.now) c.args.keys.now c.loop-i.i _ c.requires.plain c.loop-i-test.true
