-- Bound imports. (winnt.h: IMAGE_BOUND_IMPORT_DESCRIPTOR, IMAGE_BOUND_FORWARDER_REF.)
use Rattle.std.specs.Prelude.{◌≡◌, ℕ, ◌+◌, ◌*◌, ◌^◌, ◌==◌, ◌&&◌, ◌||◌, min, List, [], ◌∷◌, map, length, drop, Bool, Option, Some, None, Result, Ok, Err, if◌then◌else◌}
use Rattle.std.specs.Borrow.{Bor}
use Rattle.std.specs.Option.{option_map}
use Rattle.pe_core.specs.Bytes.{le, range, holds, record_at}
use Rattle.pe_core.specs.Refusals.{Short, outcome}
use Rattle.pe_core.specs.Rows.{each}
use Rattle.pe_core.specs.Text.{text_at, texts_of}
use Rattle.pe_core.specs.declared.data_directories.DataDirectory.{DataDirectory}
use Rattle.pe_directories.specs.DirectoryRefusals.{DirectoryRefusal, Image, BoundImportName, of_image}
use Rattle.pe_directories.specs.Walks.{First}
use Rattle.pe_directories.specs.declared.bound_import.BoundForwarder.{BoundForwarder}
use Rattle.pe_directories.specs.declared.bound_import.BoundImport.{BoundImport}
use Rattle.pe_directories.specs.declared.bound_import.BoundImports.{BoundImports}

-- what callers see of a DLL: also the bytes of its forwarders
pub record Bound : Type 0 where
  pub time_date_stamp : ℕ
  pub name : ℕ
  pub forwarders : List ℕ

-- this DLL as callers see it
abbrev pub bound_view : BoundImport → Bound
bound_view x = record { time_date_stamp = x.time_date_stamp; name = x.name; forwarders = x.forwarder_bytes.now }

-- how many bytes a DLL takes: 8, and 8 for each of its forwarders
abbrev pub bound_size : List ℕ → ℕ
bound_size b = 8 + 8 * le b 6 2

-- the DLL at the start of some bytes
abbrev pub bound_at : List ℕ → Bound
bound_at b = record { time_date_stamp = le b 0 4; name = le b 4 2; forwarders = range b 8 (8 * le b 6 2) }

-- the DLL at the start of some bytes, and those after its forwarders
unfoldable pub bound_of : List ℕ → Result (Bound × List ℕ) DirectoryRefusal
bound_of b =
    outcome ((holds b 0 8, Image Short) ∷ (holds b 0 (bound_size b), Image Short) ∷ []) (bound_at b, drop (bound_size b) b)

-- a directory ends with its bytes, or with an entry without a name
abbrev pub bound_imports_end : List ℕ → Bool
bound_imports_end b = length b == 0 || (holds b 0 8 && le b 4 2 == 0)

-- the DLL that stands first in a directory
unfoldable pub first_bound_import : List ℕ → First Bound (List ℕ)
first_bound_import b = if bound_imports_end b then None else Some (bound_of b)

-- a forwarder, 8 bytes: the last two are reserved
abbrev pub bound_forwarder_at : List ℕ → ℕ → BoundForwarder
bound_forwarder_at b p = record { time_date_stamp = le b p 4; name = le b (p + 4) 2 }

-- the directory: as many bytes as its size says; it stands in the headers, where RVAs are file offsets
abbrev pub bound_table : List ℕ → DataDirectory → Result (List ℕ) DirectoryRefusal
bound_table b d = of_image (record_at b d.virtual_address d.size (range b d.virtual_address d.size))

-- the name at an offset from the start of the directory
abbrev pub name_or_refusal : Option (List ℕ) → Result (List ℕ) DirectoryRefusal
name_or_refusal None = Err BoundImportName
name_or_refusal (Some name) = Ok name

unfoldable pub bound_name : List ℕ → ℕ → Result (List ℕ) DirectoryRefusal
bound_name table offset = name_or_refusal (text_at table offset)

-- these are the texts at all offsets of the directory that 16 bits can say
abbrev pub AreTexts : List ℕ → List (Option (Bor (List ℕ))) → Type 0
AreTexts table texts = texts_of texts ≡ map (text_at table) (each (λ offset. offset) (min (length table) (2 ^ 16)))

-- the bytes that a walk has left
abbrev pub bound_imports_left : BoundImports → Option (List ℕ)
bound_imports_left s = option_map (λ b. b.now) s.left
