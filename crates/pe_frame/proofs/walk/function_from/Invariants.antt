use Rattle.std.proofs.Common.{◌≡◌, ◌-◌}
use Rattle.pe_unwind.specs.ExceptionTable.{table_of}
use Rattle.pe_frame.proofs.FunctionSearch.{Searching}
use Rattle.pe_frame.proofs.walk.function_from.Given as goal

abbrev pub invariant-loop-low : goal.invariant-loop-low
invariant-loop-low l = record {
  kept : l.table.content ≡ table_of l.exceptions;
  searches : Searching (table_of l.exceptions) l.rva l.low l.high;
}

abbrev pub decreases-loop-low : goal.decreases-loop-low
decreases-loop-low l = l.high - l.low
