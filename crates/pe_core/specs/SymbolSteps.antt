-- How the names of all symbols are read, step by step. Only private contracts cite this.
use Rattle.std.specs.Prelude.{◌≡◌, ℕ, ◌<◌, ◌≤◌, ◌==◌, ◌&&◌, List, length, nat_le, Option, Some, None, slice_index, if◌then◌else◌}
use Rattle.pe_core.specs.Rows.{each}
use Rattle.pe_core.specs.SectionIndex.{offset_or_end}
use Rattle.pe_core.specs.Symbols.{inline_name, row_count, row_of, string_offset, symbol_in}
use Rattle.pe_core.specs.declared.symbol.Symbol.{Symbol}

-- the offset of the name in the string table, if the symbol has its name there
abbrev pub named_at : Symbol → Option ℕ
named_at s = if slice_index s.name 0 == 0 && nat_le 4 (string_offset s) then Some (string_offset s) else None

-- these are the offsets of the names of the symbols of a table, each `named_at` or one at which no byte is
pub record AreStringOffsets (b : List ℕ) (offsets : List ℕ) : Type 0 where
  pub are : offsets ≡ each (λ k. offset_or_end (named_at (symbol_in b (row_of b k)))) (length offsets)
  pub there : (k : ℕ) → k < length offsets → row_of b k < row_count b
  pub all : row_count b ≤ row_of b (length offsets)

-- the name of a symbol, whose name in the string table is this text if it has its name there
abbrev pub name_by_text : Symbol → Option (List ℕ) → Option (List ℕ)
name_by_text s text = if slice_index s.name 0 == 0 then text else inline_name s.name
