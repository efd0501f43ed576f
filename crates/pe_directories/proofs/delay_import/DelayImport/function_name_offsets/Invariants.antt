use Rattle.std.proofs.Common.{◌≡◌, ◌++◌, map}
use Rattle.pe_directories.specs.DelayImportSteps.{function_name_offset, item_offset, table_items}
use Rattle.pe_directories.proofs.delay_import.DelayImport.function_name_offsets.Given as goal

-- the offsets so far, and those of the numbers that are left
abbrev pub invariant-loop-item : goal.invariant-loop-item
invariant-loop-item g l =
    l.offsets.items ++ map (item_offset (function_name_offset l.image l.self)) (table_items l.table) ≡ map (item_offset (function_name_offset l.image l.self)) (table_items l.initial.table)
