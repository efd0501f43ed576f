-- COFF symbols. (PE format: COFF symbol table.)
use Rattle.std.specs.Prelude.{◌≡◌, ℕ, zero, suc, ◌+◌, ◌*◌, ◌/◌, ◌<◌, ◌≤◌, ◌==◌, List, [], ◌∷◌, length, Option, Some, None, Result, Ok, Err, nat_le, slice_index, if◌then◌else◌}
use Rattle.std.specs.Borrow.{Bor}
use Rattle.std.specs.Int.{w16, cast_signed}
use Rattle.std.specs.List.{before_first}
use Rattle.std.specs.Option.{option_map}
use Rattle.pe_core.specs.Bytes.{le, range, record_at}
use Rattle.pe_core.specs.Gathered.{up_to_none}
use Rattle.pe_core.specs.Refusals.{Refusal, StringTable, ◌>>=◌}
use Rattle.pe_core.specs.Rows.{each}
use Rattle.pe_core.specs.Text.{text_of, text_at}
use Rattle.pe_core.specs.declared.header.CoffHeader.{CoffHeader}
use Rattle.pe_core.specs.declared.symbol.Symbol.{Symbol}
use Rattle.pe_core.specs.declared.symbol.SymbolTable.{SymbolTable}
use Rattle.pe_core.specs.declared.symbol.SymbolIterator.{SymbolIterator}

-- ---- one symbol

-- the symbol at offset p, 18 bytes
unfoldable pub symbol : List ℕ → ℕ → Symbol
symbol b p = record {
  name = range b p 8;
  value = le b (p + 8) 4;
  section_number = cast_signed w16 (le b (p + 12) 2);
  typ = le b (p + 14) 2;
  storage_class = le b (p + 16) 1;
  number_of_aux_symbols = le b (p + 17) 1;
}

-- the name in the 8 bytes themselves: they start with no zero, and are UTF-8 up to the first zero
abbrev pub inline_name : List ℕ → Option (List ℕ)
inline_name name = if slice_index name 0 == 0 then None else text_of (before_first (λ c. c == 0) name)

-- the offset of the name in the string table, from its size field: the last 4 of the 8 bytes
abbrev pub string_offset : Symbol → ℕ
string_offset s = le s.name 4 4

-- the text at an offset of a string table that is not inside its size field
abbrev pub string_at : List ℕ → ℕ → Option (List ℕ)
string_at table offset = if nat_le 4 offset then text_at table offset else None

-- the text, or `StringTable` if there is none
abbrev pub or_no_text : Option (List ℕ) → Result (List ℕ) Refusal
or_no_text None = Err StringTable
or_no_text (Some text) = Ok text

-- the name of a symbol with this string table: that in its 8 bytes, or the string at the offset in them
unfoldable pub symbol_name : Symbol → List ℕ → Result (List ℕ) Refusal
symbol_name s table = or_no_text (if slice_index s.name 0 == 0 then string_at table (string_offset s) else inline_name s.name)

-- ---- the table

-- the number of entries of 18 bytes
abbrev pub row_count : List ℕ → ℕ
row_count b = length b / 18

-- the symbol in an entry
abbrev pub symbol_in : List ℕ → ℕ → Symbol
symbol_in b row = symbol b (18 * row)

-- the entry after a symbol and its auxiliary records
abbrev pub row_after : List ℕ → ℕ → ℕ
row_after b row = row + 1 + (symbol_in b row).number_of_aux_symbols

-- the entry of symbol k: the first is 0, and the next is after the auxiliary records of the one before
unfoldable pub row_of : List ℕ → ℕ → ℕ
row_of b zero = 0
row_of b (suc k) = row_after b (row_of b k)

-- a symbol, with the index of its entry and the name in its 8 bytes
pub record SymbolItem : Type 0 where
  pub row : ℕ
  pub name : Option (List ℕ)
  pub symbol : Symbol

-- the symbol in an entry, as such an item
abbrev pub item_in : List ℕ → ℕ → SymbolItem
item_in b row = record { row = row; name = inline_name (symbol_in b row).name; symbol = symbol_in b row }

-- the symbols of a table from an entry on, up to its end
abbrev pub AreSymbols : List ℕ → ℕ → List SymbolItem → Type 0
AreSymbols b row [] = row_count b ≤ row
AreSymbols b row (item ∷ more) = (row < row_count b) × (item ≡ item_in b row) × AreSymbols b (row_after b row) more

-- ---- the names of all symbols

-- the name of the symbol in an entry, or `None` after the last entry
abbrev pub name_in : List ℕ → List ℕ → ℕ → Result (Option (List ℕ)) Refusal
name_in b table row = if nat_le (row_count b) row then Ok None else (symbol_name (symbol_in b row) table >>= λ name. Ok (Some name))

-- the names of the symbols in order, or the first refusal; there are no more symbols than entries
unfoldable pub symbol_names : List ℕ → List ℕ → Result (List (List ℕ)) Refusal
symbol_names b table = up_to_none (each (λ k. name_in b table (row_of b k)) (suc (row_count b)))

-- ---- the iterator

-- the table of an iterator
abbrev pub symbol_bytes : SymbolIterator → List ℕ
symbol_bytes s = s.bytes.now

-- the entry that an iterator reads next
abbrev pub row_at : SymbolIterator → ℕ
row_at s = s.row

-- what is seen of an item that the iterator returns
abbrev pub item_view : ℕ × Option (Bor (List ℕ)) × Symbol → SymbolItem
item_view item = record { row = item.0; name = option_map (λ s. s.now) item.1; symbol = item.2 }

-- what one call of next returns, and the entry that it leaves to the next call
abbrev pub ReturnsSymbol : List ℕ → ℕ → Option (ℕ × Option (Bor (List ℕ)) × Symbol) → ℕ → Type 0
ReturnsSymbol b row None left = (row_count b ≤ row) × (left ≡ row)
ReturnsSymbol b row (Some item) left = (row < row_count b) × (item_view item ≡ item_in b row) × (left ≡ row_after b row)

-- ---- the table of an object or image

-- the bytes of the symbol table; there is none if the header says that there are no symbols
unfoldable pub symbols_of : List ℕ → CoffHeader → Result (Option (List ℕ)) Refusal
symbols_of b c =
    if c.pointer_to_symbol_table == 0 then Ok None
    else record_at b c.pointer_to_symbol_table (18 * c.number_of_symbol_table) (Some (range b c.pointer_to_symbol_table (18 * c.number_of_symbol_table)))

-- a symbol table as its bytes
abbrev pub symbol_table_view : Option SymbolTable → Option (List ℕ)
symbol_table_view t = option_map (λ s. s.bytes.now) t
