use Rattle.pe_unwind.proofs.LinkChains.{unwinds_cycle, unwinds_no_memory}
use Rattle.pe_unwind.proofs.OneChain.{one_record}
use Rattle.pe_unwind.proofs.SomeAnswer.{some_record}
use Rattle.pe_unwind.proofs.laws.x64.one_record_of_addresses.Goals as goal

pub returns : goal.returns
returns c = record { exists = some_record; one = one_record; cycle = unwinds_cycle; no_memory = unwinds_no_memory }
