-- Names of functions without a PDB, as calls return them.
use Rattle.std.specs.Prelude.{◌≡◌, ℕ, ◌+◌, ◌-◌, ◌*◌, ◌/◌, ◌<◌, ◌==◌, ◌&&◌, Bool, true, false, List, drop, length, min, nat_le, take, slice_index_or, Option, None, Some, Result, Ok, Err, if◌then◌else◌}
use Rattle.std.specs.Option.{option_and_then, option_map}
use Rattle.pe_core.specs.Bytes.{holds, le}
use Rattle.pe_core.specs.ExportAddresses.{AddressesView}
use Rattle.pe_core.specs.Exports.{table_entry}
use Rattle.pe_core.specs.Refusals.{Refusal, ◌>>=◌}
use Rattle.pe_core.specs.Text.{text_at}
use Rattle.pe_core.specs.declared.header.TheConstants.{COFF_MACHINE_ARM64, COFF_MACHINE_X86_64}
use Rattle.pe_stacks.specs.Names.{Names, export_addresses, symbol_addresses}
use Rattle.pe_stacks.specs.declared.names.FunctionStart.{FunctionStart}
use Rattle.pe_stacks.specs.declared.names.FunctionStart.TheVariants.{NoFunction, NoTable, Starts}
use Rattle.pe_stacks.specs.declared.names.NamedFunction.{NamedFunction}
use Rattle.pe_unwind.specs.Arm64Lookup.{length_by}
use Rattle.pe_unwind.specs.declared.arm64.function.Arm64RuntimeFunction.{Arm64RuntimeFunction}
use Rattle.pe_unwind.specs.declared.function_table.RuntimeFunction.{RuntimeFunction}
use Rattle.calls_unwind.specs.Arm64.{LocatesArm64In}
use Rattle.calls_headers.specs.Coff.{coff_strings_at, symbol_name_at, symbols_at}
use Rattle.calls_directories.specs.Exports.{one_if, tables_at}
use Rattle.calls_base.specs.HandsOut.{result_number}
use Rattle.calls_headers.specs.Headers.{headers_at}
use Rattle.calls_base.specs.Modes.{resolves}
use Rattle.calls_base.specs.Ranges.{bytes_at, bytes_there, no_bytes, or_no_bytes}
use Rattle.calls_unwind.specs.Unwinding.{LocatesIn, exception_table_at}
use Rattle.calls_base.specs.Views.{directory_sections, map_of}
use Rattle.calls_directories.specs.declared.names.exports.Exports.{Exports}
use Rattle.calls_stacks.specs.declared.stack.function_names.CodeAddress.{CodeAddress}
use Rattle.calls_stacks.specs.declared.stack.function_names.FunctionName.{FunctionName}
use Rattle.calls_stacks.specs.declared.stack.function_names.NameSources.{NameSources}
use Rattle.calls_stacks.specs.declared.stack.function_names.TheConstants.{EXPORT, MOST_OF_NAME, NO_NAME, SYMBOL}
use Rattle.calls_base.specs.declared.ranges.Range.{Range}
use Rattle.calls_base.specs.declared.results.TheConstants.{DONE, NOTHING, ROOM}
use Rattle.calls_base.specs.declared.view.View.{View}

-- ---- the tables that names are read of

-- the value at hand, or another one where there is none
abbrev pub value_or : {X : Type 0} → X → Result (Option X) Refusal → X
value_or other (Ok None) = other
value_or other (Ok (Some x)) = x
value_or other (Err refusal) = other

-- the number of the result
abbrev pub number_of : {X : Type 0} → Result (Option X) Refusal → ℕ
number_of (Ok None) = NOTHING
number_of (Ok (Some x)) = DONE
number_of (Err refusal) = result_number refusal

-- the function table, by the machine
abbrev pub functions_of : View → Result (Option Range) Refusal
functions_of v =
    if (v.image.now).machine == COFF_MACHINE_ARM64
    then exception_table_at COFF_MACHINE_ARM64 8 v.bytes.now v.image.now (directory_sections v 3) (v.image.now).mode
    else exception_table_at COFF_MACHINE_X86_64 12 v.bytes.now v.image.now (directory_sections v 3) (v.image.now).mode

-- the symbol table, and the string table after it: an image as loaded has neither, since a file alone has what no section has
abbrev pub symbols_of : View → Result (Option Range) Refusal
symbols_of v =
    if resolves (v.image.now).mode
    then (headers_at v.bytes.now (v.image.now).mode >>= λ h. symbols_at v.bytes.now h.coff >>= λ w. Ok (option_map (λ s. s.table) w))
    else Ok None

abbrev pub strings_of : View → Result (Option Range) Refusal
strings_of v =
    if resolves (v.image.now).mode
    then (headers_at v.bytes.now (v.image.now).mode >>= λ h. coff_strings_at v.bytes.now h.coff)
    else Ok None

abbrev pub exports_of : View → Result (Option Exports) Refusal
exports_of v = tables_at v.bytes.now v.image.now (map_of v)

abbrev pub no_exports : Exports
no_exports = record { names = no_bytes; ordinals = no_bytes; addresses = no_bytes; next = 0; directory = record { virtual_address = 0; size = 0 } }

-- how many numbers the room for names has to have: one for each entry of the symbol table, and for each name of an export
abbrev pub numbers_of : Range → Exports → ℕ
numbers_of symbols exports = symbols.length / 18 + (exports.names).length / 4

-- each table by itself, with the number of the result
abbrev pub name_tables : View → NameSources
name_tables v = record {
  functions = value_or no_bytes (functions_of v);
  symbols = value_or no_bytes (symbols_of v);
  strings = value_or no_bytes (strings_of v);
  exports = value_or no_exports (exports_of v);
  room = numbers_of (value_or no_bytes (symbols_of v)) (value_or no_exports (exports_of v));
  functions_result = number_of (functions_of v);
  symbols_result = number_of (symbols_of v);
  strings_result = number_of (strings_of v);
  exports_result = number_of (exports_of v);
}

-- ---- the function at an RVA

abbrev pub start_x64 : Result (Option RuntimeFunction) Refusal → FunctionStart
start_x64 (Ok None) = NoFunction
start_x64 (Ok (Some f)) = Starts f.begin_address
start_x64 (Err refusal) = NoFunction

abbrev pub start_arm64 : Result (Option Arm64RuntimeFunction) Refusal → FunctionStart
start_arm64 (Ok None) = NoFunction
start_arm64 (Ok (Some f)) = Starts f.begin_address
start_arm64 (Err refusal) = NoFunction

-- By whether the image has no table, and whether it is for ARM64. A table that is refused says of no RVA that a function has it.
abbrev pub StartsBy : Bool → Bool → View → NameSources → ℕ → FunctionStart → Type 0
StartsBy true arm64 v t rva start = start ≡ NoTable
StartsBy false true v t rva start =
    (found : Result (Option Arm64RuntimeFunction) Refusal) × LocatesArm64In (length_by (map_of v) v.bytes.now) (bytes_at v.bytes.now t.functions) rva found
    × (start ≡ start_arm64 found)
StartsBy false false v t rva start =
    (found : Result (Option RuntimeFunction) Refusal) × LocatesIn (bytes_at v.bytes.now t.functions) rva found × (start ≡ start_x64 found)

abbrev pub StartsAt : View → NameSources → ℕ → FunctionStart → Type 0
StartsAt v t rva start = StartsBy (t.functions_result == NOTHING) ((v.image.now).machine == COFF_MACHINE_ARM64) v t rva start

-- ---- names

-- the addresses that have names, by the tables
abbrev pub symbols_named : View → NameSources → List ℕ
symbols_named v t = symbol_addresses v.sections.now (bytes_there v.bytes.now t.symbols)

abbrev pub address_tables : View → NameSources → AddressesView
address_tables v t = record {
  addresses = bytes_there v.bytes.now (t.exports).addresses;
  names = bytes_there v.bytes.now (t.exports).names;
  ordinals = bytes_there v.bytes.now (t.exports).ordinals;
  directory = (t.exports).directory;
  ordinal_base = 0;
}

abbrev pub exports_named : View → NameSources → List ℕ
exports_named v t = export_addresses (address_tables v t)

-- so many bytes of names are read at most
abbrev pub bytes_from : List ℕ → ℕ → List ℕ
bytes_from b p = take (p + MOST_OF_NAME) b

-- the offset in the string table of the name of a symbol, where it has its name there
abbrev pub offset_or_zero : Option ℕ → ℕ
offset_or_zero None = 0
offset_or_zero (Some p) = p

abbrev pub string_offset : List ℕ → ℕ → ℕ
string_offset entries n = offset_or_zero (if holds entries (18 * n + 4) 4 then Some (le entries (18 * n + 4) 4) else None)

-- the string table up to the bytes of a name that are read
abbrev pub shortened : Range → ℕ → Range
shortened strings p = record { offset = strings.offset; length = min strings.length (p + MOST_OF_NAME) }

-- the range of the name of a symbol: no bytes where it is not text of so few bytes
abbrev pub symbol_text : View → NameSources → ℕ → Range
symbol_text v t n =
    value_or no_bytes (symbol_name_at v.bytes.now t.symbols (shortened t.strings (string_offset (bytes_there v.bytes.now t.symbols) n)) n)

-- that of the name of an export
abbrev pub text_range : List ℕ → ℕ → Option Range
text_range b p = option_map (λ text. record { offset = p; length = length text }) (text_at (bytes_from b p) p)

abbrev pub export_text : View → NameSources → ℕ → Range
export_text v t n =
    or_no_bytes (option_and_then (text_range v.bytes.now) (option_and_then (map_of v) (table_entry 4 (bytes_there v.bytes.now (t.exports).names) n)))

-- a name as the call returns it, of this address
abbrev pub name_reported : View → NameSources → ℕ → Option NamedFunction → FunctionName
name_reported v t rva None = record { name = no_bytes; start = 0; offset = 0; source = NO_NAME; is_nearest = 0 }
name_reported v t rva (Some f) = record {
  name = if f.is_export then export_text v t f.number else symbol_text v t f.number;
  start = f.start;
  offset = rva - f.start;
  source = if f.is_export then EXPORT else SYMBOL;
  is_nearest = one_if f.is_nearest;
}

-- The RVA by which an address is looked up: of a return address the byte before it, since a call may be the last instruction of a
-- function. No call is before the start of the image.
abbrev pub looked_up : CodeAddress → Option ℕ
looked_up a = if a.is_return == 0 then Some a.rva else (if a.rva == 0 then None else Some (a.rva - 1))

-- the name of an address that is looked up by this RVA
abbrev pub NamesAddressBy : Option ℕ → View → NameSources → ℕ → FunctionName → Type 0
NamesAddressBy None v t address name = name ≡ name_reported v t address None
NamesAddressBy (Some rva) v t address name =
    (start : FunctionStart) × StartsAt v t rva start
    × (found : Option NamedFunction) × Names (symbols_named v t) (exports_named v t) start rva found
    × (name ≡ name_reported v t address found)

abbrev pub NamesAddress : View → NameSources → CodeAddress → FunctionName → Type 0
NamesAddress v t a name = NamesAddressBy (looked_up a) v t a.rva name

-- the first n addresses have these names
abbrev pub AreNames : View → NameSources → List CodeAddress → List FunctionName → ℕ → Type 0
AreNames v t addresses names n =
    (i : ℕ) (a : CodeAddress) (f : FunctionName) → i < n → NamesAddress v t (slice_index_or addresses i a) (slice_index_or names i f)

-- how many entries of tables at these ranges there are
abbrev pub numbers_in : View → NameSources → ℕ
numbers_in v t = length (bytes_there v.bytes.now t.symbols) / 18 + length (bytes_there v.bytes.now (t.exports).names) / 4

-- By whether there is room, which is left open then: else nothing changes. What is written to is before and after the call.
abbrev pub PutsNamesIf : Bool → View → NameSources → List CodeAddress → ℕ → List ℕ × List ℕ → List FunctionName × List FunctionName → Type 0
PutsNamesIf true v t addresses number room (old, new) =
    (number ≡ DONE) × (length new ≡ length old) × AreNames v t addresses new (length addresses) × (drop (length addresses) new ≡ drop (length addresses) old)
PutsNamesIf false v t addresses number (before, after) (old, new) = (number ≡ ROOM) × (new ≡ old) × (after ≡ before)

abbrev pub PutsNames : View → NameSources → List CodeAddress → ℕ → List ℕ × List ℕ → List FunctionName × List FunctionName → Type 0
PutsNames v t addresses number (before, after) (old, new) =
    PutsNamesIf (nat_le (numbers_in v t) (length before) && nat_le (length addresses) (length old)) v t addresses number (before, after) (old, new)
