-- The `debug` lines of `list`.
use Rattle.std.specs.Prelude.{ℕ, ◌++◌, List, [], Option, Some, None, Result, Ok, Err, codes}
use Rattle.std.specs.List.{flat_map}
use Rattle.std.specs.Fmt.{decimal}
use Rattle.pe_core.specs.Refusals.{Refusal}
use Rattle.pe_records.specs.DebugDirectory.{debug_entries, debug_entry_count}
use Rattle.pe_records.specs.DebugRecords.{DebugFields}
use Rattle.pe_records.specs.declared.debug.ImageDebugDirectory.{ImageDebugDirectory}
use Rattle.peinfo.specs.Hex.{hex}

-- the line of an entry: its type, the size of its record, and the record's RVA and file offset
unfoldable pub entry_line : ImageDebugDirectory → List ℕ
entry_line e =
    codes "debug " ++ decimal e.data_type ++ codes " " ++ decimal e.size_of_data
    ++ codes " " ++ hex 8 e.address_of_raw_data ++ codes " " ++ hex 8 e.pointer_to_raw_data ++ codes "\n"

-- a line for an entry, and one for a truncated entry
abbrev pub debug_item_line : Result ImageDebugDirectory Refusal → List ℕ
debug_item_line (Ok e) = entry_line e
debug_item_line (Err refusal) = codes "debug cut\n"

-- the lines of the entries of a table
abbrev pub entry_lines : ℕ → List ℕ → List ℕ
entry_lines fixup table = flat_map debug_item_line (debug_entries fixup table)

-- the lines of debug data, if there is any
abbrev pub debug_lines : Option DebugFields → List ℕ
debug_lines None = []
debug_lines (Some debug) = entry_lines debug.fixup debug.table

-- the count of these lines
abbrev pub line_count : Option DebugFields → ℕ
line_count None = 0
line_count (Some debug) = debug_entry_count debug.table
