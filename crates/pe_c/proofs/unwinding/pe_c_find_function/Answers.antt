use Rattle.std.proofs.Common.{Err, Ok, refl}
use Rattle.pe_core.specs.Refusals.{kind_of}
use Rattle.calls_unwind.proofs.TableLookups.{found_in, refused_in}
use Rattle.pe_c.proofs.unwinding.pe_c_find_function.Goals as goal

pub returns-in-Ok : goal.returns-in-Ok
returns-in-Ok c = (Ok c.find.result, found_in c.args.bytes.now c.in-Ok.entries.now c.args.table.now c.args.rva c.find.result c.in-Ok.ensures c.find.ensures, c.hand_out_some.ensures)

pub returns-in-Err : goal.returns-in-Err
returns-in-Err c = (Err (kind_of c.in-Err.error), refused_in c.args.bytes.now c.args.table.now c.args.rva (kind_of c.in-Err.error) c.in-Err.ensures, (c.number_of.ensures, refl))
