use Rattle.std.proofs.Common.{sym}
use Rattle.std.proofs.lemmas.Bool.{eqb-true}
use Rattle.calls_unwind.proofs.PutCodes.{all_done}
use Rattle.pe_c.proofs.unwinding.pe_c_all_codes.Goals as goal

pub returns-then-is_empty : goal.returns-then-is_empty
returns-then-is_empty c = all_done _ _ c.args.entries.now c.put_frequent.new.entries c.put_frequent.result c.put_frequent.ensures (eqb-true _ _ (sym c.if-is_empty.ensures))

pub returns : goal.returns
returns c = c.finish_codes.ensures _ c.args.entries.now c.put_frequent.ensures
