use Rattle.std.proofs.Common.{◌≡◌, ◌++◌, map}
use Rattle.pe_directories.specs.DelayImportSteps.{dll_name_offset, entry_items, item_offset}
use Rattle.pe_directories.proofs.delay_import_list.dll_name_offsets.Given as goal

-- the offsets so far, and those of the entries that are left
abbrev pub invariant-loop-item : goal.invariant-loop-item
invariant-loop-item g l =
    l.offsets.items ++ map (item_offset (dll_name_offset l.image)) (entry_items l.entries) ≡ map (item_offset (dll_name_offset l.image)) (entry_items l.initial.entries)
