-- What calls return of COFF objects, and of the COFF symbols of images.
use Rattle.std.specs.Prelude.{◌≡◌, ℕ, ◌+◌, ◌-◌, ◌*◌, ◌==◌, min, List, length, nat_lt, slice_index, Option, Some, None, Result, Ok, Err, if◌then◌else◌}
use Rattle.std.specs.List.{before_first}
use Rattle.std.specs.Option.{option_map}
use Rattle.pe_core.specs.Bytes.{record_at}
use Rattle.pe_core.specs.Records.{coff_header}
use Rattle.pe_core.specs.Refusals.{Refusal, ◌>>=◌}
use Rattle.pe_core.specs.Strings.{strings_of, strings_offset}
use Rattle.pe_core.specs.Symbols.{SymbolItem, row_count, symbol_in, symbol_name, symbols_of}
use Rattle.pe_core.specs.Symbols as symbols
use Rattle.pe_core.specs.Text.{text_of}
use Rattle.pe_core.specs.declared.header.CoffHeader.{CoffHeader}
use Rattle.pe_core.specs.declared.symbol.Symbol as core
use Rattle.calls_headers.specs.Headers.{coff_fields}
use Rattle.calls_base.specs.Ranges.{bytes_at, no_bytes}
use Rattle.calls_headers.specs.declared.coff.Symbol.{Symbol}
use Rattle.calls_headers.specs.declared.coff.SymbolWalk.{SymbolWalk}
use Rattle.calls_headers.specs.declared.headers.CoffFields.{CoffFields}
use Rattle.calls_base.specs.declared.ranges.Range.{Range}
use Rattle.calls_base.specs.HandsOut.{result_number}
use Rattle.calls_headers.specs.declared.coff.NamedSymbol.{NamedSymbol}
use Rattle.calls_base.specs.declared.results.TheConstants.{DONE, NOTHING}

-- ---- an object

-- the header of an object, which is its first 20 bytes
abbrev pub object_at : List ℕ → Result CoffFields Refusal
object_at b = record_at b 0 20 (coff_fields (coff_header b 0))

-- the header that a record of calls stands for
abbrev pub coff_header_of : CoffFields → CoffHeader
coff_header_of c = record {
  machine = c.machine;
  number_of_sections = c.number_of_sections;
  time_date_stamp = c.time_date_stamp;
  pointer_to_symbol_table = c.pointer_to_symbol_table;
  number_of_symbol_table = c.number_of_symbol_table;
  size_of_optional_header = c.size_of_optional_header;
  characteristics = c.characteristics;
}

-- ---- its tables

-- the walk over the symbols of a header, from the first one on, if there is a symbol table
abbrev pub symbols_at : List ℕ → CoffFields → Result (Option SymbolWalk) Refusal
symbols_at b c = symbols_of b (coff_header_of c) >>= λ table.
    Ok (option_map (λ t. record { table = record { offset = c.pointer_to_symbol_table; length = length t }; next = 0 }) table)

-- the range of the string table that follows the symbols of a header, if there is one
abbrev pub coff_strings_at : List ℕ → CoffFields → Result (Option Range) Refusal
coff_strings_at b c = strings_of b (coff_header_of c) >>= λ table.
    Ok (option_map (λ t. record { offset = strings_offset (coff_header_of c); length = length t }) table)

-- ---- its symbols

-- the auxiliary records after the symbol in an entry: as many as it says, up to the last of so many entries
abbrev pub auxiliary_of : Range → ℕ → ℕ → core.Symbol → Range
auxiliary_of table rows index s = record {
  offset = table.offset + 18 * (index + 1);
  length = 18 * min s.number_of_aux_symbols (rows - (index + 1));
}

-- the offset of the name in the string table, or 0 where the name is in the symbol itself
abbrev pub string_offset_of : core.Symbol → ℕ
string_offset_of s = if slice_index s.name 0 == 0 then symbols.string_offset s else 0

-- the symbol in an entry of a table, which has so many
abbrev pub symbol_with : Range → ℕ → ℕ → core.Symbol → Symbol
symbol_with table rows index s = record {
  auxiliary = auxiliary_of table rows index s;
  index = index;
  name = s.name;
  value = s.value;
  string_offset = string_offset_of s;
  section_number = s.section_number;
  typ = s.typ;
  storage_class = s.storage_class;
  number_of_aux_symbols = s.number_of_aux_symbols;
  spare = 0;
}

-- the symbol in an entry of the table at a range; there is none past the last entry
abbrev pub symbol_at : List ℕ → Range → ℕ → Result (Option Symbol) Refusal
symbol_at b table index = bytes_at b table >>= λ t.
    Ok (if nat_lt index (row_count t) then Some (symbol_with table (row_count t) index (symbol_in t index)) else None)

-- the walk after a step: past the symbol and its auxiliary records; it stays at its end, and is over after a refusal
abbrev pub symbols_after : SymbolWalk → Result (Option Symbol) Refusal → SymbolWalk
symbols_after w (Ok None) = w
symbols_after w (Ok (Some s)) = record w { next = w.next + 1 + s.number_of_aux_symbols }
symbols_after w (Err refusal) = record w { table = no_bytes }

-- a step: the symbol in the next entry, and the walk after it
abbrev pub StepsSymbols : List ℕ → SymbolWalk → Result (Option Symbol) Refusal → SymbolWalk → Type 0
StepsSymbols b old answer new = (answer ≡ symbol_at b old.table old.next) × (new ≡ symbols_after old (symbol_at b old.table old.next))

-- a symbol of a table as a walk over these bytes at a range returns it
abbrev pub symbol_reported : Range → List ℕ → SymbolItem → Result Symbol Refusal
symbol_reported table t item = Ok (symbol_with table (row_count t) item.row item.symbol)

-- ---- names of symbols

-- the range of the name of the symbol in an entry: in the string table at a range, or in the entry itself
abbrev pub name_range : Range → Range → ℕ → core.Symbol → List ℕ → Range
name_range table strings index s name = record {
  offset = if slice_index s.name 0 == 0 then strings.offset + symbols.string_offset s else table.offset + 18 * index;
  length = length name;
}

-- the name in these bytes, before their first zero, is a text of so many bytes
abbrev pub IsNameOf : List ℕ → ℕ → Type 0
IsNameOf name n = (text : List ℕ) × (text_of (before_first (λ c. c == 0) name) ≡ Some text) × (length text ≡ n)

-- the same, or what refuses the name
abbrev pub name_range_by : Range → Range → ℕ → core.Symbol → List ℕ → Result (Option Range) Refusal
name_range_by table strings index x s = symbol_name x s >>= λ name. Ok (Some (name_range table strings index x name))

-- the range of the name of the symbol in an entry, if the table has so many entries
abbrev pub symbol_name_in : Range → Range → ℕ → List ℕ → List ℕ → Result (Option Range) Refusal
symbol_name_in table strings index t s = if nat_lt index (row_count t) then name_range_by table strings index (symbol_in t index) s else Ok None

-- the same by the ranges of both tables
abbrev pub symbol_name_at : List ℕ → Range → Range → ℕ → Result (Option Range) Refusal
symbol_name_at b table strings index = bytes_at b table >>= λ t. bytes_at b strings >>= λ s. symbol_name_in table strings index t s

-- ---- COFF symbols with their names.

-- a symbol with what a call for its name returns: the range of the name, or the number of the error, and then no bytes
abbrev pub named_by : Symbol → Result (Option Range) Refusal → NamedSymbol
named_by x (Ok (Some name)) = record { symbol = x; name = name; name_result = DONE; spare = 0 }
named_by x (Ok None) = record { symbol = x; name = no_bytes; name_result = NOTHING; spare = 0 }
named_by x (Err refusal) = record { symbol = x; name = no_bytes; name_result = result_number refusal; spare = 0 }

-- the symbol in an entry of a table, and its name by the string table at a range
unfoldable pub named_at : List ℕ → Range → Range → ℕ → Result (Option NamedSymbol) Refusal
named_at b table strings index = symbol_at b table index >>= λ o. Ok (option_map (λ x. named_by x (symbol_name_at b table strings index)) o)

-- the walk after a step, as after one without names
abbrev pub named_after : SymbolWalk → Result (Option NamedSymbol) Refusal → SymbolWalk
named_after w (Ok None) = w
named_after w (Ok (Some x)) = record w { next = w.next + 1 + x.symbol.number_of_aux_symbols }
named_after w (Err refusal) = record w { table = no_bytes }

-- a step over the symbols of a table, with their names
abbrev pub StepsNamedSymbols : List ℕ → Range → SymbolWalk → Result (Option NamedSymbol) Refusal → SymbolWalk → Type 0
StepsNamedSymbols b strings old answer new =
    (answer ≡ named_at b old.table strings old.next) × (new ≡ named_after old (named_at b old.table strings old.next))
