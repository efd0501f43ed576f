use Rattle.pe_core.proofs.FieldEquality.{options_equal}
use Rattle.pe_core.proofs.laws.derives.equal_options_are_the_same.Goals as goal

pub returns : goal.returns
returns c x y = options_equal _ c.equal_records_are_the_same.ensures.parse_mode x y
