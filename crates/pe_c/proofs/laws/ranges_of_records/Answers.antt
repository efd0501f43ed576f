use Rattle.calls_unwind.proofs.RecordRanges.{codes_of_record, handler_of_record}
use Rattle.pe_c.proofs.laws.ranges_of_records.Goals as goal

pub returns-clause-codes : goal.returns-clause-codes
returns-clause-codes c = codes_of_record

pub returns-clause-handler : goal.returns-clause-handler
returns-clause-handler c = handler_of_record
