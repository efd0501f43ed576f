use Rattle.std.proofs.Common.{map}
use Rattle.pe_directories.proofs.Cited.{function_view, imported_by, function_name_offset, table_items}
use Rattle.pe_directories.proofs.DelayLists.{NamesLeft}
use Rattle.pe_directories.proofs.WalkLists.{ReadSoFar}
use Rattle.pe_directories.proofs.delay_import.DelayImport.named_functions.Given as goal

-- the functions so far, and the names of the numbers that are left
abbrev pub invariant-loop-name : goal.invariant-loop-name
invariant-loop-name g l = record {
  read : ReadSoFar (imported_by l.image l.self) (table_items l.initial.table) (table_items l.table) (map function_view l.functions.items);
  names : NamesLeft l.image.bytes (function_name_offset l.image l.self) (table_items l.table) l.names l.name-index;
}
