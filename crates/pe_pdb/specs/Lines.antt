-- Lines of a module: subsections, and in those with lines blocks of rows.
use Rattle.std.specs.Prelude.{◌≡◌, ℕ, ◌+◌, ◌*◌, ◌/◌, ◌%◌, ◌^◌, ◌<◌, ◌≤◌, List, [], ◌∷◌, length, nat_le, nat_lt, Option, Some, None, Result, Ok, Err, ◌==◌, if◌then◌else◌}
use Rattle.std.specs.Int.{div_ceil}
use Rattle.pe_core.specs.Bytes.{le, range, holds}
use Rattle.pe_core.specs.Refusals.{outcome}
use Rattle.pe_pdb.specs.Refusals.{PdbRefusal, Short, RecordTruncated}
use Rattle.pe_pdb.specs.Walks.{items, with_end}
use Rattle.pe_pdb.specs.declared.line.LineBlock.{LineBlock}
use Rattle.pe_pdb.specs.declared.line.LineBlocks.{LineBlocks}
use Rattle.pe_pdb.specs.declared.line.LineHeader.{LineHeader}
use Rattle.pe_pdb.specs.declared.line.LineRow.{LineRow}
use Rattle.pe_pdb.specs.declared.line.Subsection.{Subsection}
use Rattle.pe_pdb.specs.declared.line.Subsections.{Subsections}
use Rattle.pe_pdb.specs.declared.module.ModuleRecord.{ModuleRecord}

-- the lines of a module in its stream, after its symbols and older lines
abbrev pub line_bytes_of : ModuleRecord → List ℕ → Result (List ℕ) PdbRefusal
line_bytes_of m b =
    outcome ((holds b (m.symbols_size + m.c11_size) m.c13_size, RecordTruncated) ∷ []) (range b (m.symbols_size + m.c11_size) m.c13_size)

-- ---- subsections

-- what callers see of one
pub record SubsectionView : Type 0 where
  pub offset : ℕ
  pub kind : ℕ
  pub content : List ℕ

abbrev pub subsection_view : Subsection → SubsectionView
subsection_view s = record { offset = s.offset; kind = s.kind; content = s.content.now }

-- the subsection at an offset
unfoldable pub subsection_at : List ℕ → ℕ → Result SubsectionView PdbRefusal
subsection_at b p =
    outcome (
    (holds b p 8, Short) ∷ (holds b (p + 8) (le b (p + 4) 4), RecordTruncated) ∷ []
    ) (record { offset = p; kind = le b p 4; content = range b (p + 8) (le b (p + 4) 4) })

-- where the next one starts
abbrev pub subsection_end : SubsectionView → ℕ
subsection_end s = div_ceil (s.offset + 8 + length s.content) 4 * 4

-- the subsections from an offset on
abbrev pub subsections : List ℕ → ℕ → List (Result SubsectionView PdbRefusal)
subsections b p = items (with_end subsection_end (subsection_at b)) (length b) p

-- the first one of a kind
unfoldable pub first_of_kind : ℕ → List (Result SubsectionView PdbRefusal) → Result (Option SubsectionView) PdbRefusal
first_of_kind kind [] = Ok None
first_of_kind kind (Ok s ∷ more) = if s.kind == kind then Ok (Some s) else first_of_kind kind more
first_of_kind kind (Err refusal ∷ more) = Err refusal

-- what a walk has left
abbrev pub subsections_left : Subsections → List (Result SubsectionView PdbRefusal)
subsections_left s = subsections s.bytes.now s.next

-- ---- lines

unfoldable pub line_header : List ℕ → LineHeader
line_header b = record { offset = le b 0 4; section = le b 4 2; flags = le b 6 2; size = le b 8 4 }

abbrev pub line_header_of : List ℕ → Result LineHeader PdbRefusal
line_header_of b = outcome ((holds b 0 12, Short) ∷ []) (line_header b)

-- what callers see of a block
pub record BlockView : Type 0 where
  pub offset : ℕ
  pub file : ℕ
  pub size : ℕ
  pub rows : List ℕ

abbrev pub block_view : LineBlock → BlockView
block_view b = record { offset = b.offset; file = b.file; size = b.size; rows = b.rows.now }

-- the block at an offset, whose rows it has place for
unfoldable pub block_at : List ℕ → ℕ → Result BlockView PdbRefusal
block_at b p =
    outcome (
    (holds b p 12, Short) ∷ (nat_le (12 + 8 * le b (p + 4) 4) (le b (p + 8) 4), RecordTruncated) ∷ (holds b p (le b (p + 8) 4), RecordTruncated) ∷ []
    ) (record { offset = p; file = le b p 4; size = le b (p + 8) 4; rows = range b (p + 12) (8 * le b (p + 4) 4) })

-- where the next one starts
abbrev pub block_end : BlockView → ℕ
block_end b = b.offset + b.size

-- the blocks from an offset on
abbrev pub blocks : List ℕ → ℕ → List (Result BlockView PdbRefusal)
blocks b p = items (with_end block_end (block_at b)) (length b) p

-- what a walk has left
abbrev pub blocks_left : LineBlocks → List (Result BlockView PdbRefusal)
blocks_left s = blocks s.bytes.now s.next

-- the row at an offset; its line has 24 bits
unfoldable pub line_row : List ℕ → ℕ → LineRow
line_row b p = record { offset = le b p 4; line = le b (p + 4) 4 % 2 ^ 24 }

-- the row with an index
abbrev pub row_of : List ℕ → ℕ → Option LineRow
row_of b i = if nat_lt i (length b / 8) then Some (line_row b (8 * i)) else None

-- ---- the row of an offset

-- the later one of a row that was found and the next one, if that is at or before an offset
abbrev pub later_row : Option LineRow → LineRow → ℕ → Option LineRow
later_row None row x = if nat_lt x row.offset then None else Some row
later_row (Some last) row x = if nat_lt x row.offset then Some last else (if nat_lt row.offset last.offset then Some last else Some row)

-- of n rows this one is the last by offset at or before an offset, and of those at one offset the last by index
pub record IsRowAt (b : List ℕ) (n x i : ℕ) : Type 0 where
  pub listed : i < n
  pub before : (line_row b (8 * i)).offset ≤ x
  pub last : (k : ℕ) → k < n → (line_row b (8 * k)).offset ≤ x → (line_row b (8 * k)).offset ≤ (line_row b (8 * i)).offset
  pub latest : (k : ℕ) → k < n → (line_row b (8 * k)).offset ≡ (line_row b (8 * i)).offset → k ≤ i

-- that row; there is none where all are after the offset
abbrev pub RowAt : List ℕ → ℕ → ℕ → Option LineRow → Type 0
RowAt b n x None = (k : ℕ) → k < n → x < (line_row b (8 * k)).offset
RowAt b n x (Some row) = (i : ℕ) × IsRowAt b n x i × (row ≡ line_row b (8 * i))
