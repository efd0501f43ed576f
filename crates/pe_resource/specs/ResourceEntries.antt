-- Entries of a resource directory. (PE format: resource directory entries.)
use Rattle.std.specs.Prelude.{ℕ, ◌+◌, ◌*◌, ◌/◌, ◌%◌, ◌^◌, ◌==◌, Bool, false, List, Option, Some, None, Result, Ok, if◌then◌else◌}
use Rattle.std.specs.List.{find}
use Rattle.pe_core.specs.Bytes.{le}
use Rattle.pe_resource.specs.declared.entry.ResourceEntry.{ResourceEntry}
use Rattle.pe_core.specs.EntriesLeft.{whole_bytes_left, whole_left}
use Rattle.pe_core.specs.Rows.{whole_entries}
use Rattle.pe_core.specs.declared.error.Error.{Error}
use Rattle.pe_core.specs.declared.table_entries.WholeEntries.{WholeEntries}

-- the entry of a 64-bit number: the high half is the name or id, the low half the offset
abbrev pub entry_of_number : ℕ → ResourceEntry
entry_of_number n = record { name_or_id = n / 2 ^ 32; offset_to_data_or_directory = n % 2 ^ 32 }

-- the 64-bit number of an entry
abbrev pub number_of : ResourceEntry → ℕ
number_of e = e.name_or_id * 2 ^ 32 + e.offset_to_data_or_directory

-- bit 31 of the name or id: the entry has a name
abbrev pub has_name : ResourceEntry → Bool
has_name e = e.name_or_id / 2 ^ 31 == 1

-- the offset of its name: the low 31 bits
abbrev pub name_offset : ResourceEntry → ℕ
name_offset e = e.name_or_id % 2 ^ 31

-- its id: the low 16 bits, unless it has a name
abbrev pub id_of : ResourceEntry → Option ℕ
id_of e = if has_name e then None else Some (e.name_or_id % 2 ^ 16)

-- bit 31 of the offset: the entry leads to a directory
abbrev pub is_directory : ResourceEntry → Bool
is_directory e = e.offset_to_data_or_directory / 2 ^ 31 == 1

-- the offset of that directory: the low 31 bits
abbrev pub directory_offset : ResourceEntry → ℕ
directory_offset e = e.offset_to_data_or_directory % 2 ^ 31

-- the offset of its data entry, unless it leads to a directory
abbrev pub data_offset : ResourceEntry → Option ℕ
data_offset e = if is_directory e then None else Some e.offset_to_data_or_directory

-- the entry at p, 8 bytes
abbrev pub entry_at : List ℕ → ℕ → ResourceEntry
entry_at b p = record { name_or_id = le b p 4; offset_to_data_or_directory = le b (p + 4) 4 }

-- the whole entries of these bytes
unfoldable pub entries : List ℕ → List ResourceEntry
entries b = whole_entries entry_at 8 b

-- there is an id, and it is this one
abbrev pub is_id : ℕ → Option ℕ → Bool
is_id id None = false
is_id id (Some own) = own == id

-- the entry has this id
abbrev pub has_id : ℕ → ResourceEntry → Bool
has_id id e = is_id id (id_of e)

-- the first entry with this id
abbrev pub with_id : ℕ → List ResourceEntry → Option ResourceEntry
with_id id es = find (has_id id) es

-- the entries that an iterator has left
abbrev pub entries_left : WholeEntries (Result ResourceEntry Error) → List ResourceEntry
entries_left s = entries (whole_bytes_left s)

-- the items that an iterator has left: each is a whole entry, and none an error
abbrev pub resource_items_left : WholeEntries (Result ResourceEntry Error) → List (Result ResourceEntry Error)
resource_items_left s = whole_left (λ b p. Ok (entry_at b p)) 8 s
