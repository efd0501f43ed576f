-- Where inlined functions are in the source: a subsection of a module with a record for each.
use Rattle.std.specs.Prelude.{ℕ, ◌+◌, ◌*◌, ◌%◌, ◌^◌, ◌==◌, Bool, List, [], ◌∷◌, length, Option, Some, None, Result, Ok, Err, if◌then◌else◌}
use Rattle.pe_core.specs.Bytes.{le, holds}
use Rattle.pe_core.specs.Refusals.{outcome, ◌>>=◌}
use Rattle.pe_pdb.specs.LineIndexes.{is_line}
use Rattle.pe_pdb.specs.Refusals.{PdbRefusal, Short, RecordTruncated}
use Rattle.pe_pdb.specs.Walks.{items}
use Rattle.pe_pdb.specs.declared.inline_rows.InlineRow.{InlineRow}
use Rattle.pe_pdb.specs.declared.inlinee.InlineeLine.{InlineeLine}
use Rattle.pe_pdb.specs.declared.inlinee.SourceLine.{SourceLine}

unfoldable pub inlinee_row : List ℕ → ℕ → InlineeLine
inlinee_row b p = record { inlinee = le b p 4; file = le b (p + 4) 4; line = le b (p + 8) 4 }

-- where the record at an offset ends: after 12 bytes, or after a number of other files and these
abbrev pub inlinee_end : Bool → List ℕ → ℕ → Result ℕ PdbRefusal
inlinee_end extended b p =
    if extended then outcome ((holds b (p + 12) 4, Short) ∷ (holds b (p + 16) (4 * le b (p + 12) 4), RecordTruncated) ∷ []) (p + 16 + 4 * le b (p + 12) 4)
    else Ok (p + 12)

-- the record at an offset, and where it ends
unfoldable pub inlinee_at : Bool → List ℕ → ℕ → Result (InlineeLine × ℕ) PdbRefusal
inlinee_at extended b p = outcome ((holds b p 12, Short) ∷ []) p >>= λ start. inlinee_end extended b p >>= λ end. Ok (inlinee_row b p, end)

-- the records after the number at the start, which is 1 where they have other files
abbrev pub inlinees : List ℕ → ℕ → List (Result (InlineeLine) PdbRefusal)
inlinees b p = items (inlinee_at (le b 0 4 == 1) b) (length b) p

-- the first of some records with an id, or the refusal of one before it
unfoldable pub first_inlinee : ℕ → List (Result InlineeLine PdbRefusal) → Result (Option InlineeLine) PdbRefusal
first_inlinee id [] = Ok None
first_inlinee id (Ok x ∷ more) = if x.inlinee == id then Ok (Some x) else first_inlinee id more
first_inlinee id (Err r ∷ more) = Err r

-- that of a subsection
abbrev pub inlinee_of : List ℕ → ℕ → Result (Option InlineeLine) PdbRefusal
inlinee_of b id = outcome ((holds b 0 4, Short) ∷ []) b >>= λ b. first_inlinee id (inlinees b 4)

-- ---- lines

-- the file of a row, else that of the function
abbrev pub file_or : ℕ → Option ℕ → ℕ
file_or file None = file
file_or file (Some own) = own

-- the line of a row of a function, whose lines count from that of the function
abbrev pub inline_line : InlineeLine → InlineRow → Option SourceLine
inline_line i r = if is_line ((i.line + r.line) % 2 ^ 32) then Some (record { file = file_or i.file r.file; line = (i.line + r.line) % 2 ^ 32 }) else None
