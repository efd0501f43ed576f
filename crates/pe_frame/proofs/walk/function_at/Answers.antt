use Rattle.std.proofs.Common.{sym, arith}
use Rattle.pe_unwind.specs.ExceptionTable.{table_of}
use Rattle.pe_unwind.specs.FunctionTable.{functions}
use Rattle.pe_unwind.proofs.Searches.{finds_inside, finds_none, finds_past}
use Rattle.pe_frame.proofs.walk.function_at.Goals as goal

pub returns-in-Some : goal.returns-in-Some
unfolding functions
returns-in-Some c =
    finds_inside (table_of c.args.exceptions.now) c.args.rva c.function_from.result c.in-Some.function c.function_from.ensures c.in-Some.is (omega (arith, c.if-rva-function.true))

pub returns-in_default : goal.returns-in_default
unfolding functions
returns-in_default c =
    finds_past (table_of c.args.exceptions.now) c.args.rva c.function_from.result c.in-Some.function c.function_from.ensures c.in-Some.is (omega (arith, c.if-rva-function.false))

pub returns-in_default-2 : goal.returns-in_default-2
unfolding functions
returns-in_default-2 c =
    finds_none (table_of c.args.exceptions.now) c.args.rva c.function_from.result c.function_from.ensures c.in_default.is
