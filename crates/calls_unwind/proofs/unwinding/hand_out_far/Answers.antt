use Rattle.calls_unwind.proofs.EvenRecords.{near_done}
use Rattle.calls_unwind.proofs.unwinding.hand_out_far.Goals as goal

pub returns-then-put_plain : goal.returns-then-put_plain
returns-then-put_plain c = near_done _ _ _ _ _ _ c.in-Some.ensures c.if-put_plain.ensures
