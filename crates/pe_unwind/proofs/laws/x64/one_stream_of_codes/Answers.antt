use Rattle.pe_unwind.proofs.Streams.{items_from_yields}
use Rattle.pe_unwind.proofs.laws.x64.one_stream_of_codes.Goals as goal

pub returns-clause-whole : goal.returns-clause-whole
returns-clause-whole c = λ s xs d. items_from_yields s d.1.0 d.0 xs d.1.1 d.1.2
