-- The COFF string table.
-- (PE format: COFF string table. A size below 4, and a file that ends after the symbols, are this project's profile.)
use Rattle.std.specs.Prelude.{ℕ, ◌+◌, ◌*◌, ◌==◌, max, List, [], ◌∷◌, length, drop, Option, Some, None, Result, Ok, Err, if◌then◌else◌}
use Rattle.std.specs.List.{list_all}
use Rattle.std.specs.Str.{is_utf8}
use Rattle.std.specs.Option.{option_map}
use Rattle.pe_core.specs.Bytes.{le, holds, range}
use Rattle.pe_core.specs.Refusals.{Refusal, Short, StringTable, outcome}
use Rattle.pe_core.specs.declared.header.CoffHeader.{CoffHeader}
use Rattle.pe_core.specs.declared.strtab.Strtab.{Strtab}

-- the file offset of the string table: after the symbols
abbrev pub strings_offset : CoffHeader → ℕ
strings_offset c = c.pointer_to_symbol_table + 18 * c.number_of_symbol_table

-- the size of the table at offset p, its size field included; at least 4
abbrev pub strings_size : List ℕ → ℕ → ℕ
strings_size b p = max (le b p 4) 4

-- the table at offset p; there is none at the end of the file
abbrev pub strings_at : List ℕ → ℕ → Result (Option (List ℕ)) Refusal
strings_at b p =
    if length b == p then Ok None
    else outcome ((holds b p 4, StringTable) ∷ (holds b p (strings_size b p), StringTable) ∷ []) (Some (range b p (strings_size b p)))

-- the bytes of the string table; there is none if the header says that there are no symbols
unfoldable pub strings_of : List ℕ → CoffHeader → Result (Option (List ℕ)) Refusal
strings_of b c =
    if c.pointer_to_symbol_table == 0 then Ok None
    else (if holds b c.pointer_to_symbol_table (18 * c.number_of_symbol_table) then strings_at b (strings_offset c) else Err Short)

-- a string table as its bytes
abbrev pub strings_view : Option Strtab → Option (List ℕ)
strings_view t = option_map (λ s. s.bytes.now) t

-- ---- its strings

-- the pieces, with one more byte before the first
abbrev pub in_front : ℕ → List (List ℕ) → List (List ℕ)
in_front c [] = (c ∷ []) ∷ []
in_front c (piece ∷ more) = (c ∷ piece) ∷ more

-- the pieces that zeros end, empty ones included, and a last piece without a zero unless it is empty
unfoldable pub pieces : List ℕ → List (List ℕ)
pieces [] = []
pieces (c ∷ b) = if c == 0 then [] ∷ pieces b else in_front c (pieces b)

-- all strings of a table, or `StringTable` if one is not UTF-8
abbrev pub all_strings : List ℕ → Result (List (List ℕ)) Refusal
all_strings table =
    let strings = pieces (drop 4 table) in
    outcome ((list_all is_utf8 strings, StringTable) ∷ []) strings
