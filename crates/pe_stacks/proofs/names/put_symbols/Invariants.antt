use Rattle.std.proofs.Common.{◌≡◌, ◌≤◌, length, take}
use Rattle.pe_stacks.specs.Names.{function_in, named_below, next_symbol}
use Rattle.pe_stacks.proofs.names.put_symbols.Given as goal

-- the addresses of the entries so far, and the next entry of a symbol
abbrev pub invariant-loop-row : goal.invariant-loop-row
invariant-loop-row l = record {
  are : take l.count l.room ≡ named_below (function_in l.sections l.table) l.row;
  next : l.next ≡ next_symbol l.table l.row;
  few : l.count ≤ l.row;
  same : length l.room ≡ length l.fn.room;
}
