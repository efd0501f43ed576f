-- Delay imports. (PE format: delay-load import tables. Virtual addresses where bit 0 of the attributes is clear: winnt.h.)
use Rattle.std.specs.Prelude.{ℕ, ◌+◌, ◌%◌, ◌^◌, ◌==◌, ◌&&◌, ◌||◌, List, [], ◌∷◌, length, drop, Bool, Option, Some, None, Result, Ok, Err, nat_le, if◌then◌else◌}
use Rattle.std.specs.Option.{option_map}
use Rattle.pe_core.specs.Bytes.{le, holds, record_at}
use Rattle.pe_core.specs.Refusals.{Short, outcome, ◌>>=◌}
use Rattle.pe_core.specs.Text.{text_at}
use Rattle.pe_directories.specs.DirectoryRefusals.{DirectoryRefusal, Image, DelayImportName, of_image}
use Rattle.pe_directories.specs.ImageParts.{ImageView, offset_of_rva, offset_of_va}
use Rattle.pe_directories.specs.Walks.{First, all_items, each_read}
use Rattle.pe_directories.specs.VaTables.{first_va}
use Rattle.pe_directories.specs.declared.delay_import.DelayImport.{DelayImport}
use Rattle.pe_directories.specs.declared.delay_import.DelayImports.{DelayImports}
use Rattle.pe_directories.specs.declared.delay_import.DelayedFunction.{DelayedFunction}
use Rattle.pe_directories.specs.declared.delay_import_list.DelayedDll.{DelayedDll}
use Rattle.pe_directories.specs.declared.delay_import.DelayedFunction.TheVariants as functions

-- an entry of the directory, 32 bytes
unfoldable pub delay_import_at : List ℕ → DelayImport
delay_import_at b = record {
  attributes = le b 0 4;
  name = le b 4 4;
  module_handle = le b 8 4;
  import_address_table = le b 12 4;
  import_name_table = le b 16 4;
  bound_import_address_table = le b 20 4;
  unload_information_table = le b 24 4;
  time_date_stamp = le b 28 4;
}

-- a directory ends with its bytes, or with an entry without a name
abbrev pub delay_imports_end : List ℕ → Bool
delay_imports_end b = length b == 0 || (holds b 0 32 && le b 4 4 == 0)

-- the entry that stands first in a directory
unfoldable pub first_delay_import : List ℕ → First DelayImport (List ℕ)
first_delay_import b =
    if delay_imports_end b then None
    else Some (outcome ((holds b 0 32, Image Short) ∷ []) (delay_import_at b, drop 32 b))

-- the bytes that a walk has left
abbrev pub delay_imports_left : DelayImports → Option (List ℕ)
delay_imports_left s = option_map (λ b. b.now) s.left

-- the offset of an address in an entry: an RVA, or a virtual address if bit 0 of the attributes is clear
unfoldable pub offset_in_entry : ImageView → DelayImport → ℕ → Result ℕ DirectoryRefusal
offset_in_entry i e address =
    if e.attributes % 2 == 1 then offset_of_rva i address
    else offset_of_va i address

-- a name at an offset
abbrev pub name_or_refusal : Option (List ℕ) → Result (List ℕ) DirectoryRefusal
name_or_refusal None = Err DelayImportName
name_or_refusal (Some name) = Ok name

unfoldable pub delay_name : ImageView → ℕ → Result (List ℕ) DirectoryRefusal
delay_name i p = name_or_refusal (text_at i.bytes p)

-- the name of the DLL
abbrev pub delay_dll : ImageView → DelayImport → Result (List ℕ) DirectoryRefusal
delay_dll i e = offset_in_entry i e e.name >>= delay_name i

-- the table of what is imported of the DLL
abbrev pub lookup_table : ImageView → DelayImport → Result (Option (List ℕ)) DirectoryRefusal
lookup_table i e = offset_in_entry i e e.import_name_table >>= λ p. Ok (Some (drop p i.bytes))

-- what is imported, as callers see it
pub data Function : Type 0 where
  Ordinal : ℕ → Function
  Name : ℕ → List ℕ → Function

abbrev pub function_view : DelayedFunction → Function
function_view (functions.Ordinal number) = Ordinal number
function_view (functions.Name hint name) = Name hint name.now

-- the least number of a lookup table that is an ordinal: its highest bit is set
abbrev pub ordinal_flag : Bool → ℕ
ordinal_flag is_64 = if is_64 then 2 ^ 63 else 2 ^ 31

-- a hint of 2 bytes and the name after it
unfoldable pub hint_and_name : ImageView → ℕ → Result Function DirectoryRefusal
hint_and_name i p =
    of_image (record_at i.bytes p 2 (le i.bytes p 2)) >>= λ hint. delay_name i (p + 2) >>= λ name. Ok (Name hint name)

-- the offset of the hint and the name to which a number leads: an RVA in its low 31 bits, or, if the entry has virtual
-- addresses, one in all its bits but the highest
unfoldable pub hint_offset : ImageView → DelayImport → ℕ → Result ℕ DirectoryRefusal
hint_offset i e number =
    if e.attributes % 2 == 1 then offset_of_rva i (number % 2 ^ 31)
    else offset_of_va i (number % ordinal_flag i.is_64)

-- what a number of the table imports: an ordinal in the low 16 bits, or a hint and a name
unfoldable pub imported_by : ImageView → DelayImport → ℕ → Result Function DirectoryRefusal
imported_by i e number =
    if nat_le (ordinal_flag i.is_64) number then Ok (Ordinal (number % 2 ^ 16))
    else (hint_offset i e number >>= hint_and_name i)

-- ---- lists

-- a DLL as callers see it
pub record Dll : Type 0 where
  pub entry : DelayImport
  pub name : List ℕ

abbrev pub dll_view : DelayedDll → Dll
dll_view d = record { entry = d.entry; name = d.name.now }

-- an entry with the name of its DLL
abbrev pub dll_of : ImageView → DelayImport → Result Dll DirectoryRefusal
dll_of i e = delay_dll i e >>= λ name. Ok (record { entry = e; name = name })

-- all DLLs that are left of a directory, or the first refusal
abbrev pub dlls_left : ImageView → Option (List ℕ) → Result (List Dll) DirectoryRefusal
dlls_left i left = each_read (dll_of i) (all_items first_delay_import left)

-- all that is imported of a DLL: what each number of its table imports, or the first refusal
abbrev pub functions_of : ImageView → DelayImport → Result (List Function) DirectoryRefusal
functions_of i e = lookup_table i e >>= λ table. each_read (imported_by i e) (all_items (first_va i.is_64) table)
