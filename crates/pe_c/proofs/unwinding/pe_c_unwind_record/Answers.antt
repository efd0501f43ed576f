use Rattle.calls_unwind.proofs.EvenRecords.{near_done}
use Rattle.pe_c.proofs.unwinding.pe_c_unwind_record.Goals as goal

pub returns-then-put_plain : goal.returns-then-put_plain
returns-then-put_plain c = near_done _ _ _ _ _ _ c.in-Some.ensures c.if-put_plain.ensures
