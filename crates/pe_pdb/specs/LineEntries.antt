-- The rows of all lines of a module, each with its RVA, and the entries of an index of them.
use Rattle.std.specs.Prelude.{◌≡◌, ℕ, zero, suc, ◌+◌, ◌-◌, ◌*◌, ◌/◌, ◌%◌, ◌^◌, ◌==◌, ◌&&◌, Bool, List, [], ◌∷◌, ◌++◌, length, take, nat_le, nat_lt, Option, Some, None, Result, Ok, Err, if◌then◌else◌}
use Rattle.std.specs.Option.{option_to_list}
use Rattle.pe_core.specs.Bytes.{le}
use Rattle.pe_core.specs.Gathered.{with_rest}
use Rattle.pe_core.specs.Refusals.{◌>>=◌}
use Rattle.pe_pdb.specs.Lines.{BlockView, SubsectionView, blocks, line_header_of, line_row, subsections}
use Rattle.pe_pdb.specs.Refusals.{PdbRefusal, SymbolsSize, pdb_kind_of}
use Rattle.pe_pdb.specs.SectionHeaders.{rva_of}
use Rattle.pe_pdb.specs.declared.error.PdbError.{PdbError}
use Rattle.pe_pdb.specs.declared.line.LineHeader.{LineHeader}
use Rattle.pe_pdb.specs.declared.line.TheConstants.{DEBUG_S_LINES}
use Rattle.pe_pdb.specs.declared.line_entries.Code.{Code}
use Rattle.pe_pdb.specs.declared.line_entries.CodeLine.{CodeLine}
use Rattle.pe_pdb.specs.declared.line_entries.LineEntry.{LineEntry}

-- ---- rows

-- the code whose lines a subsection has: where it starts, as an RVA, the header, and what follows it
pub record LineCode : Type 0 where
  pub rva : ℕ
  pub header : LineHeader
  pub content : List ℕ

abbrev pub code_view : Code → LineCode
code_view c = record { rva = c.rva; header = c.header; content = c.content.now }

-- how many rows a block has
abbrev pub rows_in : BlockView → ℕ
rows_in b = length b.rows / 8

-- a block has place for columns after its rows, and the header says that they are there
abbrev pub has_columns : LineHeader → BlockView → Bool
has_columns h b = h.flags % 2 == 1 && nat_le (12 + 12 * rows_in b) b.size

-- the column of a row; 0 is none
abbrev pub column_of : LineCode → BlockView → ℕ → ℕ
column_of c b i = if has_columns c.header b then le c.content (b.offset + 12 + 8 * rows_in b + 4 * i) 2 else 0

-- the row with an index in a block, if its code is in that of the subsection, and has RVAs
unfoldable pub code_line : LineCode → BlockView → ℕ → Option CodeLine
code_line c b i =
    if nat_lt (line_row b.rows (8 * i)).offset c.header.size && nat_lt (c.rva + (line_row b.rows (8 * i)).offset) (2 ^ 32)
    then Some (record {
      rva = c.rva + (line_row b.rows (8 * i)).offset;
      code_size = c.header.size - (line_row b.rows (8 * i)).offset;
      file = b.file;
      line = (line_row b.rows (8 * i)).line;
      column = column_of c b i;
    })
    else None

-- those of the first n rows of a block
unfoldable pub block_lines : LineCode → BlockView → ℕ → List CodeLine
block_lines c b zero = []
block_lines c b (suc n) = block_lines c b n ++ option_to_list (code_line c b n)

-- what f has for each of some items, in their order; or the first refusal
unfoldable pub gathered : {X Y : Type 0} → (X → Result (List Y) PdbRefusal) → List (Result X PdbRefusal) → Result (List Y) PdbRefusal
gathered f [] = Ok []
gathered f (Ok x ∷ more) = f x >>= λ own. with_rest own (gathered f more)
gathered f (Err r ∷ more) = Err r

-- the lines of a piece of code, of all its blocks
abbrev pub lines_of_code : LineCode → Result (List CodeLine) PdbRefusal
lines_of_code c = gathered (λ b. Ok (block_lines c b (rows_in b))) (blocks c.content 12)

-- those of code that starts at an RVA; there are none without
abbrev pub lines_from : LineHeader → List ℕ → Option ℕ → Result (List CodeLine) PdbRefusal
lines_from h content None = Ok []
lines_from h content (Some rva) = lines_of_code (record { rva = rva; header = h; content = content })

-- the lines of a subsection; one of another kind has none
unfoldable pub lines_of_subsection : List ℕ → SubsectionView → Result (List CodeLine) PdbRefusal
lines_of_subsection sections s =
    if s.kind == DEBUG_S_LINES then (line_header_of s.content >>= λ h. lines_from h s.content (rva_of sections h.section h.offset)) else Ok []

-- the lines of a module, of all its subsections
abbrev pub module_lines : List ℕ → List ℕ → Result (List CodeLine) PdbRefusal
module_lines sections b = if nat_lt (length b) (2 ^ 32) then gathered (lines_of_subsection sections) (subsections b 0) else Err SymbolsSize

-- ---- entries

-- the lines with their indexes, from one on
unfoldable pub entries_from : ℕ → List CodeLine → List LineEntry
entries_from n [] = []
entries_from n (x ∷ xs) = record { line = x; index = n } ∷ entries_from (n + 1) xs

-- so many entries stand in a room, as far as it has place: those of these lines
pub record HasEntries (xs : List CodeLine) (count : ℕ) (room : List LineEntry) : Type 0 where
  pub counted : count ≡ length xs
  pub written : take count room ≡ take (length room) (entries_from 0 xs)

-- more lines are written after those that a room has
abbrev pub Writes : List CodeLine → ℕ → List LineEntry → ℕ → List LineEntry → Type 0
Writes ys count old n new = (xs : List CodeLine) → HasEntries xs count old → HasEntries (xs ++ ys) n new

-- the same of lines that may be refused
abbrev pub WritesDefined : Result (List CodeLine) PdbRefusal → ℕ → List LineEntry → Result ℕ PdbError → List LineEntry → Type 0
WritesDefined defined count old (Ok n) new = (ys : List CodeLine) × (defined ≡ Ok ys) × Writes ys count old n new
WritesDefined defined count old (Err e) new = defined ≡ Err (pdb_kind_of e)

-- so many lines there are
abbrev pub count_of : Result (List CodeLine) PdbRefusal → Result ℕ PdbRefusal
count_of (Ok xs) = Ok (length xs)
count_of (Err r) = Err r

-- as many of them as a room has place for are written to it
abbrev pub PutsLines : Result (List CodeLine) PdbRefusal → List LineEntry → Result ℕ PdbError → Type 0
PutsLines defined room (Ok n) = (xs : List CodeLine) × (defined ≡ Ok xs) × HasEntries xs n room
PutsLines defined room (Err e) = defined ≡ Err (pdb_kind_of e)
