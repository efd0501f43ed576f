-- Imports: a walk over the libraries of an import directory, and a walk over the imports of each.
use Rattle.std.specs.Prelude.{◌≡◌, ℕ, ◌+◌, ◌%◌, ◌^◌, ◌==◌, List, [], length, Option, Some, None, Result, Ok, Err, if◌then◌else◌}
use Rattle.std.specs.Option.{option_map}
use Rattle.pe_core.specs.Bytes.{le}
use Rattle.pe_core.specs.Imports.{EntryView, ImportRecordView, ImportView, import_of, import_record, import_record_at, lookups_rva, named_import}
use Rattle.pe_core.specs.Refusals.{Refusal, ◌>>=◌}
use Rattle.pe_core.specs.SectionMap.{mapped}
use Rattle.pe_core.specs.declared.import.ImportDirectoryEntry.{ImportDirectoryEntry}
use Rattle.calls_base.specs.declared.image.Image.{Image}
use Rattle.calls_directories.specs.declared.names.imports.Import.{Import}
use Rattle.calls_directories.specs.declared.names.imports.Imports.{Imports}
use Rattle.calls_directories.specs.declared.names.imports.Libraries.{Libraries}
use Rattle.calls_directories.specs.declared.names.imports.Library.{Library}
use Rattle.calls_base.specs.declared.ranges.Range.{Range}
use Rattle.calls_base.specs.Ranges.{one_if_some, range_after, no_bytes, range_from, bytes_there}
use Rattle.calls_base.specs.Images.{import_directory, is_absent}
use Rattle.calls_base.specs.Walks.{left_entry}
use Rattle.calls_base.specs.FailureNumbers.{number_there}

-- ---- libraries; `offset` maps an RVA to its file offset, `w` is the size of an entry of a list in bytes

-- a walk whose next record is at offset p
abbrev pub libraries_from : ℕ → Libraries
libraries_from p = record { next = p; is_over = 0; spare = 0 }

-- a walk that is over
abbrev pub no_libraries : Libraries
no_libraries = record { next = 0; is_over = 1; spare = 0 }

-- the libraries of an image's import directory, if it has one; its RVA has to be mapped
abbrev pub libraries_at : Image → (ℕ → Option ℕ) → Result (Option Libraries) Refusal
libraries_at image offset =
    if is_absent (import_directory image) then Ok None
    else mapped (offset (import_directory image).virtual_address) >>= λ p. Ok (Some (libraries_from p))

-- a library, its name and its list as ranges
abbrev pub library_reported : (ℕ → Option ℕ) → ImportRecordView → Library
library_reported offset r =
    let e = r.import_directory_entry in
    record {
      name = range_from (length r.name) (offset e.name_rva);
      imports = record { left = range_from (length r.lookups) (offset (lookups_rva e)); rva = e.address_table_rva };
      lookup_table_rva = e.lookup_table_rva;
      time_date_stamp = e.time_date_stamp;
      forwarder_chain = e.forwarder_chain;
      name_rva = e.name_rva;
      address_table_rva = e.address_table_rva;
      spare = 0;
    }

-- the library of a record
abbrev pub library_of : (ℕ → Option ℕ) → ℕ → List ℕ → ImportDirectoryEntry → Result (Option Library) Refusal
library_of offset w b e = import_record offset w b e >>= λ r. Ok (option_map (library_reported offset) r)

-- the library whose record is at offset p, or none where the record ends the directory
abbrev pub library_at : (ℕ → Option ℕ) → ℕ → List ℕ → ℕ → Result (Option Library) Refusal
library_at offset w b p = import_record_at offset w b p >>= λ r. Ok (option_map (library_reported offset) r)

-- a step's result, and the walk after it: over at the end and after a refusal
abbrev pub library_by : Libraries → Result (Option Library) Refusal → Result (Option Library) Refusal × Libraries
library_by walk (Ok (Some library)) = (Ok (Some library), libraries_from (walk.next + 20))
library_by walk (Ok None) = (Ok None, no_libraries)
library_by walk (Err refusal) = (Err refusal, no_libraries)

-- a step over libraries; a walk that is over stays as it is
unfoldable pub library_step : (ℕ → Option ℕ) → ℕ → List ℕ → Libraries → Result (Option Library) Refusal × Libraries
library_step offset w b walk = if walk.is_over == 0 then library_by walk (library_at offset w b walk.next) else (Ok None, walk)

-- a step by its result, and the walk after it
abbrev pub StepsLibraries : (ℕ → Option ℕ) → ℕ → List ℕ → Libraries → Result (Option Library) Refusal → Libraries → Type 0
StepsLibraries offset w b old answer new = (answer, new) ≡ library_step offset w b old

-- ---- the imports of a library

-- the range of an import's name, if it has one: the name follows the hint at this offset
abbrev pub import_name_reported : Option ℕ → Option (List ℕ) → Range
import_name_reported hint None = no_bytes
import_name_reported hint (Some name) = range_from (length name) (option_map (λ p. p + 2) hint)

-- an import, its name as a range
abbrev pub import_reported : (ℕ → Option ℕ) → ℕ → ImportView → Import
import_reported offset entry i = record { name = import_name_reported (offset (entry % 2 ^ 31)) i.name; rva = i.rva; ordinal = i.ordinal; has_name = one_if_some i.name }

-- an entry with its slot; which library it belongs to makes no difference to its import
abbrev pub slot_entry : ℕ → ℕ → EntryView
slot_entry entry rva = record { dll = []; entry = entry; rva = rva }

-- the import of an entry by name
abbrev pub named_reported : (ℕ → Option ℕ) → List ℕ → ℕ → ℕ → Result Import Refusal
named_reported offset b entry rva = (mapped (offset (entry % 2 ^ 31)) >>= named_import b (slot_entry entry rva)) >>= λ i. Ok (import_reported offset entry i)

-- the import of an entry
abbrev pub import_at : (ℕ → Option ℕ) → ℕ → List ℕ → ℕ → ℕ → Result Import Refusal
import_at offset w b entry rva = import_of offset w b (slot_entry entry rva) >>= λ i. Ok (import_reported offset entry i)

-- a walk over imports that is over
abbrev pub no_imports : Imports → Imports
no_imports walk = record walk { left = no_bytes }

-- a step's result, and the walk after it: its next slot follows this one
abbrev pub import_by : ℕ → Imports → Result Import Refusal → Result (Option Import) Refusal × Imports
import_by w walk (Ok import) = (Ok (Some import), record { left = range_after walk.left w; rva = (walk.rva + w) % 2 ^ 64 })
import_by w walk (Err refusal) = (Err refusal, no_imports walk)

-- the same of a walk with these bytes left, which start with its next entry
abbrev pub import_left : (ℕ → Option ℕ) → ℕ → List ℕ → Imports → Result (Option (List ℕ)) Refusal → Result (Option Import) Refusal × Imports
import_left offset w b walk (Ok None) = (Ok None, walk)
import_left offset w b walk (Ok (Some left)) = import_by w walk (import_at offset w b (le left 0 w) walk.rva)
import_left offset w b walk (Err refusal) = (Err refusal, no_imports walk)

-- a step over the imports of a library
unfoldable pub import_step : (ℕ → Option ℕ) → ℕ → List ℕ → Imports → Result (Option Import) Refusal × Imports
import_step offset w b walk = import_left offset w b walk (left_entry w b walk.left)

-- a step by its result, and the walk after it
abbrev pub StepsImports : (ℕ → Option ℕ) → ℕ → List ℕ → Imports → Result (Option Import) Refusal → Imports → Type 0
StepsImports offset w b old answer new = (answer, new) ≡ import_step offset w b old

-- the RVA of a hint, in the low 31 bits of the entry that a walk over imports is at
abbrev pub hint_rva : ℕ → List ℕ → Imports → ℕ
hint_rva w b walk = number_there (bytes_there b walk.left) 0 w % 2 ^ 31
