-- How the lists of delay imports are read, step by step. Only private contracts cite this.
use Rattle.std.specs.Prelude.{◌≡◌, ℕ, ◌+◌, ◌-◌, ◌%◌, ◌^◌, min, nat_le, Bool, List, Option, Some, None, Result, Ok, Err, map, if◌then◌else◌}
use Rattle.std.specs.Borrow.{Bor}
use Rattle.pe_core.specs.Text.{text_at, texts_of}
use Rattle.pe_directories.specs.DelayImports.{first_delay_import, delay_imports_left, hint_offset, offset_in_entry, ordinal_flag}
use Rattle.pe_directories.specs.DirectoryRefusals.{DirectoryRefusal}
use Rattle.pe_directories.specs.ImageParts.{ImageView}
use Rattle.pe_directories.specs.VaTables.{first_va, vas_left, vas_are_64}
use Rattle.pe_directories.specs.Walks.{all_items}
use Rattle.pe_directories.specs.declared.delay_import.DelayImport.{DelayImport}
use Rattle.pe_directories.specs.declared.delay_import.DelayImports.{DelayImports}
use Rattle.pe_directories.specs.declared.va_table.VaTable.{VaTable}

-- the ordinal that a number of a lookup table is
abbrev pub ordinal_of : Bool → ℕ → Option ℕ
ordinal_of is_64 number = if nat_le (ordinal_flag is_64) number then Some (number % 2 ^ 16) else None

-- the offset, or if there is none the greatest number, at which no byte is
abbrev pub or_end : Result ℕ DirectoryRefusal → ℕ
or_end (Ok p) = p
or_end (Err r) = 2 ^ 64 - 1

-- the offset of the name of a DLL
abbrev pub dll_name_offset : ImageView → DelayImport → ℕ
dll_name_offset i e = or_end (offset_in_entry i e e.name)

-- the offset of the name that a number leads to, after its hint; for an ordinal one at which no byte is
unfoldable pub function_name_offset : ImageView → DelayImport → ℕ → ℕ
function_name_offset i e number =
    if nat_le (ordinal_flag i.is_64) number then 2 ^ 64 - 1
    else min (or_end (hint_offset i e number) + 2) (2 ^ 64 - 1)

-- the offset of an item's name; for a refusal one at which no byte is
abbrev pub item_offset : {X : Type 0} → (X → ℕ) → Result X DirectoryRefusal → ℕ
item_offset offset (Ok x) = offset x
item_offset offset (Err r) = 2 ^ 64 - 1

-- these are the texts at the offsets of the items' names
abbrev pub AreItemNames : {X : Type 0} → List ℕ → (X → ℕ) → List (Result X DirectoryRefusal) → List (Option (Bor (List ℕ))) → Type 0
AreItemNames b offset items names = texts_of names ≡ map (text_at b) (map (item_offset offset) items)

-- the items that are left of a table, and those of a directory
abbrev pub table_items : VaTable → List (Result ℕ DirectoryRefusal)
table_items s = all_items (first_va (vas_are_64 s)) (vas_left s)

abbrev pub entry_items : DelayImports → List (Result DelayImport DirectoryRefusal)
entry_items s = all_items first_delay_import (delay_imports_left s)
