-- Names of functions without a PDB: by the COFF symbols of an image, and by its exports.
use Rattle.std.specs.Prelude.{◌≡◌, ℕ, zero, suc, ◌+◌, ◌-◌, ◌*◌, ◌/◌, ◌%◌, ◌^◌, ◌<◌, ◌≤◌, ◌==◌, ◌&&◌, ◌||◌, Bool, true, false, List, [], ◌++◌, Option, Some, None, nat_le, nat_lt, length, min, slice_index_or, if◌then◌else◌}
use Rattle.std.specs.Int.{w16, cast_unsigned}
use Rattle.std.specs.List.{All, Contains}
use Rattle.std.specs.Option.{option_and_then, option_map, option_to_list}
use Rattle.pe_core.specs.ExportAddresses.{AddressesView, lies_in}
use Rattle.pe_core.specs.Exports.{table_entry}
use Rattle.pe_core.specs.Symbols.{row_after, symbol_in}
use Rattle.pe_core.specs.declared.section_table.SectionTable.{SectionTable}
use Rattle.pe_core.specs.declared.symbol.Symbol.{Symbol}
use Rattle.pe_stacks.specs.declared.names.FunctionStart.{FunctionStart}
use Rattle.pe_stacks.specs.declared.names.FunctionStart.TheVariants.{NoTable, NoFunction, Starts}
use Rattle.pe_stacks.specs.declared.names.NamedFunction.{NamedFunction}

-- ---- addresses that have names

-- An address that has a name, as one number: its RVA, and below that the number of what names it. So the order of the numbers is that of
-- the addresses, and at one address that of what names it.
abbrev pub named : ℕ → ℕ → ℕ
named rva number = rva * 2 ^ 32 + number

abbrev pub rva_of : ℕ → ℕ
rva_of a = a / 2 ^ 32

abbrev pub number_of : ℕ → ℕ
number_of a = a % 2 ^ 32

-- those that numbers below n name, in the order of the numbers, where `rva` says which RVA each names, if any
unfoldable pub named_below : (ℕ → Option ℕ) → ℕ → List ℕ
named_below rva zero = []
named_below rva (suc n) = named_below rva n ++ option_to_list (option_map (λ x. named x n) (rva n))

-- ---- symbols, by the numbers of their entries

-- a symbol is that of a function: `IMAGE_SYM_DTYPE_FUNCTION`, and `IMAGE_SYM_CLASS_EXTERNAL` or `IMAGE_SYM_CLASS_STATIC`
abbrev pub is_function : Symbol → Bool
is_function s = s.typ == 32 && (s.storage_class == 2 || s.storage_class == 3)

-- what a number below 2^32 is; there are no others
abbrev pub below_4g : ℕ → Option ℕ
below_4g n = if nat_lt n (2 ^ 32) then Some n else None

-- The RVA of the value of a symbol: it counts from the start of its section, whose numbers start at 1. None in no section, whose
-- numbers are 0 and negative, in one that the image does not have, and past 2^32.
abbrev pub symbol_rva : List SectionTable → Symbol → Option ℕ
symbol_rva sections s =
    let n = cast_unsigned w16 s.section_number in
    if nat_lt 0 n && nat_lt n (2 ^ 15) && nat_le n (length sections)
    then below_4g ((slice_index_or sections (n - 1) (record {
      name = [];
      virtual_size = 0;
      virtual_address = 0;
      size_of_raw_data = 0;
      pointer_to_raw_data = 0;
      pointer_to_relocations = 0;
      pointer_to_linenumbers = 0;
      number_of_relocations = 0;
      number_of_linenumbers = 0;
      characteristics = 0;
    })).virtual_address + s.value)
    else None

-- the RVA of the function of a symbol
unfoldable pub function_rva : List SectionTable → Symbol → Option ℕ
function_rva sections s = if is_function s then symbol_rva sections s else None

-- the first entry from n on that is no auxiliary record of a symbol before it
unfoldable pub next_symbol : List ℕ → ℕ → ℕ
next_symbol b zero = 0
next_symbol b (suc n) = if next_symbol b n == n then row_after b n else next_symbol b n

-- the RVA of the function of the symbol in an entry, if it is an entry of a symbol
unfoldable pub function_in : List SectionTable → List ℕ → ℕ → Option ℕ
function_in sections b n = if next_symbol b n == n then function_rva sections (symbol_in b n) else None

-- the addresses that the symbols of a table name; numbers have 32 bits, and headers count no more entries
abbrev pub symbol_addresses : List SectionTable → List ℕ → List ℕ
symbol_addresses sections b = named_below (function_in sections b) (min (length b / 18) (2 ^ 32))

-- ---- exports, by the numbers of their names

-- the RVA that entry i of the name table exports: a forwarder has no code, and where the RVA is 0 nothing is exported
unfoldable pub exported_rva : AddressesView → ℕ → Option ℕ
exported_rva t i =
    option_and_then (λ rva. if rva == 0 || lies_in t.directory rva then None else Some rva)
    (option_and_then (table_entry 4 t.addresses) (table_entry 2 t.ordinals i))

abbrev pub export_addresses : AddressesView → List ℕ
export_addresses t = named_below (exported_rva t) (min (length t.names / 4) (2 ^ 32))

-- ---- the address that names an RVA

-- it is the last one at or before the RVA, and of those at one RVA the first
pub record IsNearest (addresses : List ℕ) (rva a : ℕ) : Type 0 where
  pub listed : Contains addresses a
  pub before : rva_of a ≤ rva
  pub last : All (λ k. rva_of k ≤ rva → rva_of k ≤ rva_of a) addresses
  pub first : All (λ k. rva_of k ≡ rva_of a → a ≤ k) addresses

-- the same; there is none where all are after the RVA
abbrev pub Nearest : List ℕ → ℕ → Option ℕ → Type 0
Nearest addresses rva None = All (λ k. rva < rva_of k) addresses
Nearest addresses rva (Some a) = IsNearest addresses rva a

-- the name that an address has
abbrev pub function_named : Bool → Bool → ℕ → NamedFunction
function_named is_export is_nearest a =
    record { start = rva_of a; number = number_of a; is_export = is_export; is_nearest = is_nearest }

-- an export that starts a function
abbrev pub export_at : ℕ → Option ℕ → Option NamedFunction
export_at start None = None
export_at start (Some e) = if rva_of e == start then Some (function_named true false e) else None

-- within a function that starts there: the last symbol at or before the RVA, if it is in the function; else an export at its start
abbrev pub name_inside : ℕ → Option ℕ → Option ℕ → Option NamedFunction
name_inside start None e = export_at start e
name_inside start (Some s) e = if nat_le start (rva_of s) then Some (function_named false false s) else export_at start e

-- without a function table: the last of both, a symbol where both are at one RVA
abbrev pub nearer : Option ℕ → Option ℕ → Option NamedFunction
nearer None None = None
nearer None (Some e) = Some (function_named true true e)
nearer (Some s) None = Some (function_named false true s)
nearer (Some s) (Some e) = if nat_lt (rva_of s) (rva_of e) then Some (function_named true true e) else Some (function_named false true s)

-- The name of an RVA, by the addresses that symbols and exports name, and by what the function table says of the function there.
abbrev pub Names : List ℕ → List ℕ → FunctionStart → ℕ → Option NamedFunction → Type 0
Names symbols exports NoTable rva name =
    (s : Option ℕ) × Nearest symbols rva s × (e : Option ℕ) × Nearest exports rva e × (name ≡ nearer s e)
Names symbols exports NoFunction rva name = name ≡ None
Names symbols exports (Starts start) rva name =
    (s : Option ℕ) × Nearest symbols rva s × (e : Option ℕ) × Nearest exports start e × (name ≡ name_inside start s e)
