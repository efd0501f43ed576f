-- Delay imports: a walk over the DLLs of the directory, and a walk over what is imported of each.
use Rattle.std.specs.Prelude.{ℕ, ◌+◌, ◌-◌, ◌%◌, ◌^◌, ◌==◌, Bool, List, length, nat_le, Option, Some, None, Result, Ok, Err, if◌then◌else◌}
use Rattle.pe_core.specs.Bytes.{le, record_at}
use Rattle.pe_core.specs.Refusals.{◌>>=◌}
use Rattle.pe_core.specs.SectionMap.{mapped}
use Rattle.pe_core.specs.Text.{text_at}
use Rattle.pe_directories.specs.DelayImports.{first_delay_import, name_or_refusal, ordinal_flag, Function, Ordinal, Name, delay_dll, hint_offset, imported_by, offset_in_entry}
use Rattle.pe_directories.specs.DirectoryRefusals.{DirectoryRefusal, VaBelowBase, of_image}
use Rattle.pe_directories.specs.Walks.{First}
use Rattle.pe_directories.specs.declared.delay_import.DelayImport.{DelayImport}
use Rattle.calls_base.specs.Directories.{first_in, first_va_in, left_after, read_first}
use Rattle.calls_base.specs.Ranges.{no_bytes}
use Rattle.calls_directories.specs.declared.directories.delay_imports.DelayLibrary.{DelayLibrary}
use Rattle.calls_directories.specs.declared.directories.delay_imports.DelayedFunction.{DelayedFunction}
use Rattle.calls_directories.specs.declared.directories.delay_imports.DelayedFunctions.{DelayedFunctions}
use Rattle.calls_base.specs.declared.image.Image as images
use Rattle.calls_base.specs.declared.ranges.Range.{Range}
use Rattle.pe_directories.specs.ImageParts.{ImageView}

-- ---- addresses; `offset` maps an RVA to its file offset

-- the RVA of an address, by the attributes of the DLL's entry: the address itself, or where bit 0 is clear a virtual address less
-- the image base
abbrev pub rva_of : ℕ → ℕ → ℕ → Result ℕ DirectoryRefusal
rva_of base attributes address =
    if attributes % 2 == 1 then Ok address
    else if nat_le base address then Ok (address - base)
    else Err VaBelowBase

-- the file offset of an address
unfoldable pub address_offset : (ℕ → Option ℕ) → ℕ → ℕ → ℕ → Result ℕ DirectoryRefusal
address_offset offset base attributes address = rva_of base attributes address >>= λ rva. of_image (mapped (offset rva))

-- ---- DLLs

-- the range of the name at a file offset
unfoldable pub name_range : List ℕ → ℕ → Result Range DirectoryRefusal
name_range b p = name_or_refusal (text_at b p) >>= λ name. Ok (record { offset = p; length = length name })

-- the range of the name of an entry's DLL
abbrev pub dll_range : (ℕ → Option ℕ) → List ℕ → images.Image → DelayImport → Result Range DirectoryRefusal
dll_range offset b image e = address_offset offset image.base e.attributes e.name >>= name_range b

-- a walk over what an entry's DLL is imported for: from the first number of its table to the end of the bytes
abbrev pub functions_of : (ℕ → Option ℕ) → List ℕ → images.Image → DelayImport → Result DelayedFunctions DirectoryRefusal
functions_of offset b image e =
    address_offset offset image.base e.attributes e.import_name_table
    >>= λ p. Ok (record { left = record { offset = p; length = length b - p }; attributes = e.attributes; spare = 0 })

-- an entry as callers get it
abbrev pub library_of : (ℕ → Option ℕ) → List ℕ → images.Image → DelayImport → Result DelayLibrary DirectoryRefusal
library_of offset b image e =
    dll_range offset b image e >>= λ name. functions_of offset b image e
    >>= λ functions. Ok (record { name = name; functions = functions; descriptor = e })

-- the entry that stands first in a range of a directory
abbrev pub first_library_in : (ℕ → Option ℕ) → List ℕ → images.Image → Range → First DelayLibrary (List ℕ)
first_library_in offset b image r = read_first (library_of offset b image) (first_in first_delay_import b r)

-- ---- what is imported of a DLL

-- the ordinal that a number is, if it is one. Only a private contract cites this
abbrev pub ordinal_in : Bool → ℕ → Option ℕ
ordinal_in is_64 number = if nat_le (ordinal_flag is_64) number then Some (number % 2 ^ 16) else None

-- the address of a hint that a number leads to: its low 31 bits as an RVA; as a virtual address all its bits but the highest
abbrev pub address_in : Bool → ℕ → ℕ → ℕ
address_in is_64 attributes number = if attributes % 2 == 1 then number % 2 ^ 31 else number % ordinal_flag is_64

-- an import by name, by the file offset of its hint of 2 bytes: the name follows it
unfoldable pub named_at : List ℕ → ℕ → Result DelayedFunction DirectoryRefusal
named_at b p =
    of_image (record_at b p 2 (le b p 2))
    >>= λ hint. name_range b (p + 2) >>= λ name. Ok (record { name = name; ordinal = hint; has_name = 1 })

-- what a number of the table imports, as callers get it, by the attributes of the DLL's entry
unfoldable pub function_of : (ℕ → Option ℕ) → List ℕ → images.Image → ℕ → ℕ → Result DelayedFunction DirectoryRefusal
function_of offset b image attributes number =
    if nat_le (ordinal_flag (image.width == 64)) number
    then Ok (record { name = no_bytes; ordinal = number % 2 ^ 16; has_name = 0 })
    else (address_offset offset image.base attributes (address_in (image.width == 64) attributes number) >>= named_at b)

-- what stands first in a range of a table, by the attributes of the DLL's entry
abbrev pub first_function_in : (ℕ → Option ℕ) → List ℕ → images.Image → ℕ → Range → First DelayedFunction (List ℕ)
first_function_in offset b image attributes r = read_first (function_of offset b image attributes) (first_va_in image b r)

-- the same of a walk
abbrev pub first_of_walk : (ℕ → Option ℕ) → List ℕ → images.Image → DelayedFunctions → First DelayedFunction (List ℕ)
first_of_walk offset b image w = first_function_in offset b image w.attributes w.left

-- the walk after a step
abbrev pub functions_after : DelayedFunctions → First DelayedFunction (List ℕ) → DelayedFunctions
functions_after w first = record w { left = left_after w.left first }

-- ---- delay imports as callers get them of what pe_directories defines. Steps return these where RVAs are mapped by the sections of
-- the image: the law `delay_imports_are_those_of_the_image`.

-- the range of the name of an entry's DLL
abbrev pub dll_reported : ImageView → DelayImport → Result Range DirectoryRefusal
dll_reported i e = delay_dll i e >>= λ name. offset_in_entry i e e.name >>= λ p. Ok (record { offset = p; length = length name })

-- the walk over what is imported of it, from the first number of its table to the end of the bytes
abbrev pub table_reported : ImageView → DelayImport → Result DelayedFunctions DirectoryRefusal
table_reported i e =
    offset_in_entry i e e.import_name_table
    >>= λ p. Ok (record { left = record { offset = p; length = length i.bytes - p }; attributes = e.attributes; spare = 0 })

-- what is imported, where the hint has this file offset: a name follows a hint of 2 bytes
abbrev pub function_reported : Result ℕ DirectoryRefusal → Function → Result DelayedFunction DirectoryRefusal
function_reported hint_at (Ordinal ordinal) = Ok (record { name = no_bytes; ordinal = ordinal; has_name = 0 })
function_reported hint_at (Name hint name) =
    hint_at >>= λ p. Ok (record { name = record { offset = p + 2; length = length name }; ordinal = hint; has_name = 1 })

-- what a number of the table imports
abbrev pub import_reported : ImageView → DelayImport → ℕ → Result DelayedFunction DirectoryRefusal
import_reported i e number = imported_by i e number >>= function_reported (hint_offset i e number)
