-- Imports: the import directory, and the lookup entries of its records. (PE format: the .idata section.)
use Rattle.std.specs.Prelude.{ℕ, suc, ◌+◌, ◌-◌, ◌*◌, ◌/◌, ◌%◌, ◌^◌, ◌==◌, ◌||◌, Bool, List, [], map, flat_map, length, take, nat_le, Option, Some, None, Result, Ok, Err, if◌then◌else◌}
use Rattle.std.specs.Cmp.Lexicographic.{slice_cmp}
use Rattle.std.specs.List.{All, Contains}
use Rattle.std.specs.List.Sorted.{IsStrictlySortedBy}
use Rattle.std.specs.Option.{option_and_then, option_map}
use Rattle.std.specs.Ordering.{nat_cmp}
use Rattle.pe_core.specs.Bytes.{le, range, record_at}
use Rattle.pe_core.specs.Gathered.{all_or_refusal, up_to_none}
use Rattle.pe_core.specs.Records.{import_entry}
use Rattle.pe_core.specs.Refusals.{Refusal, ImportName, ◌>>=◌}
use Rattle.pe_core.specs.Rows.{each}
use Rattle.pe_core.specs.SectionMap.{mapped}
use Rattle.pe_core.specs.Text.{text_at}
use Rattle.pe_core.specs.declared.import_list.Import.{Import}
use Rattle.pe_core.specs.declared.import.ImportData.{ImportData}
use Rattle.pe_core.specs.declared.import.ImportDirectoryEntry.{ImportDirectoryEntry}
use Rattle.pe_core.specs.declared.import.SyntheticImportDirectoryEntry.{SyntheticImportDirectoryEntry}

-- what is seen of a record of the import directory, with the DLL's name and the lookup entries as bytes
pub record ImportRecordView : Type 0 where
  pub import_directory_entry : ImportDirectoryEntry
  pub name : List ℕ
  pub lookups : List ℕ

-- what is seen of `SyntheticImportDirectoryEntry`
abbrev pub import_record_view : SyntheticImportDirectoryEntry → ImportRecordView
import_record_view r = record { import_directory_entry = r.import_directory_entry; name = r.name.now; lookups = r.lookups.now }

-- what is seen of `ImportData`: its records
abbrev pub import_data_view : {Z : Type 0} → ImportData Z → List ImportRecordView
import_data_view d = map import_record_view d.import_data.items

-- what is seen of an import, with its names as bytes
pub record ImportView : Type 0 where
  pub name : Option (List ℕ)
  pub dll : List ℕ
  pub ordinal : ℕ
  pub rva : ℕ

-- what is seen of `Import`
abbrev pub import_view : Import → ImportView
import_view i = record { name = option_map (λ s. s.now) i.name; dll = i.dll.now; ordinal = i.ordinal; rva = i.rva }

-- ---- the directory; `offset` maps an RVA to its file offset

-- the size of a lookup entry in bytes: 8 in PE32+, 4 in PE32
abbrev pub entry_size : Bool → ℕ
entry_size pe32_plus = if pe32_plus then 8 else 4

-- the name, or `ImportName` if there is none
abbrev pub name_or_refusal : Option (List ℕ) → Result (List ℕ) Refusal
name_or_refusal None = Err ImportName
name_or_refusal (Some name) = Ok name

-- a lookup entry of w bytes at offset p; a zero entry is `None`, and ends the entries
abbrev pub lookup_at : ℕ → List ℕ → ℕ → Result (Option ℕ) Refusal
lookup_at w b p = record_at b p w (if le b p w == 0 then None else Some (le b p w))

-- the lookup entries from offset p on, up to a zero one; there are fewer of them than bytes
unfoldable pub lookup_entries : ℕ → List ℕ → ℕ → Result (List ℕ) Refusal
lookup_entries w b p = up_to_none (each (λ k. lookup_at w b (p + w * k)) (suc (length b)))

-- the bytes of the lookup entries at an offset, and none if there is no offset
abbrev pub lookups_at : ℕ → List ℕ → Option ℕ → Result (List ℕ) Refusal
lookups_at w b None = Ok []
lookups_at w b (Some p) = lookup_entries w b p >>= λ entries. Ok (range b p (w * length entries))

-- the RVA of the lookup entries: that of the lookup table, or if that is 0 of the address table
abbrev pub lookups_rva : ImportDirectoryEntry → ℕ
lookups_rva e = if e.lookup_table_rva == 0 then e.address_table_rva else e.lookup_table_rva

-- the record ends the directory
abbrev pub is_last : ImportDirectoryEntry → Bool
is_last e = e.name_rva == 0 || e.address_table_rva == 0

-- a record with its name, then its lookup entries
unfoldable pub import_record : (ℕ → Option ℕ) → ℕ → List ℕ → ImportDirectoryEntry → Result (Option ImportRecordView) Refusal
import_record offset w b e = do
  p ← mapped (offset e.name_rva)
  name ← name_or_refusal (text_at b p)
  lookups ← lookups_at w b (offset (lookups_rva e))
  Ok (Some (record { import_directory_entry = e; name = name; lookups = lookups }))

-- the record at offset p, or `None` if it ends the directory
unfoldable pub import_record_at : (ℕ → Option ℕ) → ℕ → List ℕ → ℕ → Result (Option ImportRecordView) Refusal
import_record_at offset w b p = record_at b p 20 (import_entry b p) >>= λ e. if is_last e then Ok None else import_record offset w b e

-- the records from offset p on, up to the one that ends the directory; there are fewer of them than bytes
unfoldable pub import_records : (ℕ → Option ℕ) → ℕ → List ℕ → ℕ → Result (List ImportRecordView) Refusal
import_records offset w b p = up_to_none (each (λ i. import_record_at offset w b (p + 20 * i)) (suc (length b)))

-- the records of the directory at an RVA
abbrev pub import_data_at : (ℕ → Option ℕ) → ℕ → List ℕ → ℕ → Result (List ImportRecordView) Refusal
import_data_at offset w b rva = mapped (offset rva) >>= import_records offset w b

-- these are the names of the DLLs, sorted by their bytes, each once
pub record AreLibraries (names libraries : List (List ℕ)) : Type 0 where
  pub in_order : IsStrictlySortedBy (slice_cmp nat_cmp) libraries
  pub named : All (Contains names) libraries
  pub whole : All (Contains libraries) names

-- the text at the RVA of a record's name, if one is there
abbrev pub name_read_of : (ℕ → Option ℕ) → List ℕ → ImportRecordView → Option (List ℕ)
name_read_of offset b r = option_and_then (text_at b) (offset r.import_directory_entry.name_rva)

-- ---- the list

-- a lookup entry, with the DLL's name and the RVA of its entry of the address table
pub record EntryView : Type 0 where
  pub dll : List ℕ
  pub entry : ℕ
  pub rva : ℕ

-- lookup entry k of a record
abbrev pub import_entry_at : ℕ → ImportRecordView → ℕ → EntryView
import_entry_at w r k = record { dll = r.name; entry = le r.lookups (w * k) w; rva = r.import_directory_entry.address_table_rva + w * k }

-- the lookup entries of all records, in order
unfoldable pub import_entries : ℕ → List ImportRecordView → List EntryView
import_entries w records = flat_map (λ r. each (import_entry_at w r) (length r.lookups / w)) records

-- an import by name: a hint of 2 bytes is at offset p, and the name follows it
abbrev pub named_import : List ℕ → EntryView → ℕ → Result ImportView Refusal
named_import b e p = do
  hint ← record_at b p 2 (le b p 2)
  name ← name_or_refusal (text_at b (p + 2))
  Ok (record { name = Some name; dll = e.dll; ordinal = hint; rva = e.rva })

-- the highest bit of the entry is set: it is an ordinal
abbrev pub is_ordinal : ℕ → EntryView → Bool
is_ordinal w e = nat_le (2 ^ (8 * w - 1)) e.entry

-- the import of an entry: by the ordinal in its low 16 bits, or by the hint and name at the RVA in its low 31 bits
unfoldable pub import_of : (ℕ → Option ℕ) → ℕ → List ℕ → EntryView → Result ImportView Refusal
import_of offset w b e =
    if is_ordinal w e
    then Ok (record { name = None; dll = e.dll; ordinal = e.entry % 2 ^ 16; rva = e.rva })
    else (mapped (offset (e.entry % 2 ^ 31)) >>= named_import b e)

-- the imports of all entries, or the first refusal
unfoldable pub imports : (ℕ → Option ℕ) → ℕ → List ℕ → List ImportRecordView → Result (List ImportView) Refusal
imports offset w b records = all_or_refusal (map (import_of offset w b) (import_entries w records))

-- the imports of the first entries, at most so many, or the first refusal among them
unfoldable pub first_imports : (ℕ → Option ℕ) → ℕ → List ℕ → List ImportRecordView → ℕ → Result (List ImportView) Refusal
first_imports offset w b records most = all_or_refusal (map (import_of offset w b) (take most (import_entries w records)))
