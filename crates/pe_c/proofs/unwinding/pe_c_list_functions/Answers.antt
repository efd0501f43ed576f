use Rattle.calls_unwind.proofs.CodeBytes.{lists_functions}
use Rattle.pe_c.proofs.unwinding.pe_c_list_functions.Goals as goal

pub returns-in-Ok : goal.returns-in-Ok
returns-in-Ok c =
    lists_functions c.args.bytes.now c.in-Ok.table.now c.args.table.now c.hand_out_list.result c.args.next.now c.hand_out_list.new.walk c.args.entries.now c.hand_out_list.new.entries c.args.written.now c.hand_out_list.new.written c.in-Ok.ensures c.hand_out_list.ensures
