use Rattle.std.proofs.Common.{◌≡◌, ◌++◌}
use Rattle.pe_records.specs.DebugDirectory.{debug_bytes_left, fixup_of}
use Rattle.peinfo.specs.DebugEntries.{entry_lines}
use Rattle.peinfo.proofs.debug.push_entries.Given as goal

-- the lines so far, and those of the entries that are left
abbrev pub invariant-loop-item : goal.invariant-loop-item
invariant-loop-item g l =
    l.text.items ++ entry_lines (fixup_of l.item-iterator) (debug_bytes_left l.item-iterator) ≡ l.fn.text.items ++ entry_lines (fixup_of l.fn.entries) (debug_bytes_left l.fn.entries)
