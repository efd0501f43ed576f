use Rattle.pe_frame.proofs.Found.{code_at_bottom, gap_at_bottom, outside_at_bottom, records_at_bottom, whole_is_sure}
use Rattle.pe_frame.proofs.laws.walks.bottoms_are_returns_to_0.Goals as goal

pub returns-clause-records : goal.returns-clause-records
returns-clause-records c = records_at_bottom

pub returns-clause-leaf : goal.returns-clause-leaf
returns-clause-leaf c = code_at_bottom

pub returns-clause-gap : goal.returns-clause-gap
returns-clause-gap c = gap_at_bottom

pub returns-clause-outside : goal.returns-clause-outside
returns-clause-outside c = outside_at_bottom

pub returns-clause-whole : goal.returns-clause-whole
returns-clause-whole c = whole_is_sure
