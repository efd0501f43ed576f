-- Binary annotations of an inlined function: numbers that say, each from what the ones before it said, which code is of which line.
use Rattle.std.specs.Prelude.{ℕ, ◌+◌, ◌-◌, ◌*◌, ◌/◌, ◌%◌, ◌^◌, ◌==◌, ◌&&◌, ◌||◌, Bool, List, [], ◌∷◌, length, nat_le, nat_lt, Option, Some, None, Result, Ok, Err, if◌then◌else◌}
use Rattle.pe_core.specs.Bytes.{le, holds}
use Rattle.pe_core.specs.Refusals.{outcome, ◌>>=◌}
use Rattle.pe_pdb.specs.Refusals.{PdbRefusal, Annotation as Refused}
use Rattle.pe_pdb.specs.Walks.{items}
use Rattle.pe_pdb.specs.declared.annotation.Annotation.{Annotation}
use Rattle.pe_pdb.specs.declared.inline_rows.Cursor.{Cursor}
use Rattle.pe_pdb.specs.declared.inline_rows.InlineRow.{InlineRow}
use Rattle.pe_pdb.specs.declared.inline_rows.InlineRows.{InlineRows}
use Rattle.pe_pdb.specs.declared.inline_rows.OpenRow.{OpenRow}

-- how many bytes a compressed number has, by the first of them; 0 where it starts none
abbrev pub number_size : ℕ → ℕ
number_size first = if nat_lt first 128 then 1 else if nat_lt first 192 then 2 else if nat_lt first 224 then 4 else 0

-- its value: what is left of the first byte, and the other bytes, the highest first
abbrev pub number_value : List ℕ → ℕ → ℕ
number_value b p =
    if nat_lt (le b p 1) 128 then le b p 1
    else if nat_lt (le b p 1) 192 then le b p 1 % 64 * 256 + le b (p + 1) 1
    else le b p 1 % 32 * 16777216 + le b (p + 1) 1 * 65536 + le b (p + 2) 1 * 256 + le b (p + 3) 1

-- the number at an offset, and where it ends
unfoldable pub number_at : List ℕ → ℕ → Result (ℕ × ℕ) PdbRefusal
number_at b p =
    outcome (
    (holds b p 1, Refused) ∷ (nat_lt 0 (number_size (le b p 1)), Refused) ∷ (holds b p (number_size (le b p 1)), Refused) ∷ []
    ) (number_value b p, p + number_size (le b p 1))

-- the annotation at an offset, and where it ends: an operation and its operands; operation 0 ends all of them
unfoldable pub annotation_at : List ℕ → ℕ → Result (Annotation × ℕ) PdbRefusal
annotation_at b p =
    number_at b p >>= λ operation.
    if operation.0 == 0 then Ok (record { operation = 0; first = 0; second = 0 }, length b)
    else (outcome ((nat_le operation.0 13, Refused) ∷ []) p >>= λ known.
    number_at b operation.1 >>= λ first.
    if operation.0 == 12 then (number_at b first.1 >>= λ second. Ok (record { operation = operation.0; first = first.0; second = second.0 }, second.1))
    else Ok (record { operation = operation.0; first = first.0; second = 0 }, first.1))

-- those from an offset on
abbrev pub annotations : List ℕ → ℕ → List (Result Annotation PdbRefusal)
annotations b p = items (annotation_at b) (length b) p

-- ---- rows

-- a line moved by a number whose lowest bit is its sign; lines have 32 bits
abbrev pub moved_line : ℕ → ℕ → ℕ
moved_line line u = if u % 2 == 1 then (line + (2 ^ 32 - u / 2)) % 2 ^ 32 else (line + u / 2) % 2 ^ 32

-- how far an annotation moves the offset
abbrev pub advance : Annotation → ℕ
advance a = if a.operation == 3 || a.operation == 4 then a.first else if a.operation == 11 then a.first % 16 else if a.operation == 12 then a.second else 0

-- where an annotation leaves offset, line and file
unfoldable pub moved : Cursor → Annotation → Cursor
moved c a = record {
  offset = if a.operation == 1 then a.first else (c.offset + advance a) % 2 ^ 32;
  line = if a.operation == 6 then moved_line c.line a.first else if a.operation == 11 then moved_line c.line (a.first / 16) else c.line;
  file = if a.operation == 5 then Some a.first else c.file;
}

-- an annotation starts a row
abbrev pub starts_row : Annotation → Bool
starts_row a = a.operation == 3 || a.operation == 11 || a.operation == 12

-- the row that it starts, which has a length of its own by operation 12
abbrev pub row_from : Annotation → Cursor → OpenRow
row_from a c = record { start = c; own_length = if a.operation == 12 then Some a.first else None }

-- operation 4 gives the row before it a length
abbrev pub with_length : Annotation → OpenRow → OpenRow
with_length a r = if a.operation == 4 then record { start = r.start; own_length = Some a.first } else r

abbrev pub kept : Annotation → Option OpenRow → Option OpenRow
kept a None = None
kept a (Some r) = Some (with_length a r)

-- its length, if the next row starts at an offset
abbrev pub length_to : Option ℕ → ℕ → ℕ → ℕ
length_to (Some n) start next = n
length_to None start next = next - start

-- the row, as it is if the next one starts at an offset
abbrev pub closed : OpenRow → ℕ → InlineRow
closed r next = record { offset = r.start.offset; length = length_to r.own_length r.start.offset next; line = r.start.line; file = r.start.file }

-- the last row, if there is one, and others after it
abbrev pub ended : Option OpenRow → ℕ → List (Result InlineRow PdbRefusal) → List (Result InlineRow PdbRefusal)
ended None next more = more
ended (Some r) next more = Ok (closed r next) ∷ more

-- the rows of annotations, by where the cursor is and the last row that was started; the last of all reaches nowhere without a length
unfoldable pub rows_of : Cursor → Option OpenRow → List (Result Annotation PdbRefusal) → List (Result InlineRow PdbRefusal)
rows_of c last [] = ended last 0 []
rows_of c last (Err r ∷ more) = Err r ∷ []
rows_of c last (Ok a ∷ more) =
    if starts_row a then ended last (moved c a).offset (rows_of (moved c a) (Some (row_from a (moved c a))) more)
    else rows_of (moved c a) (kept a last) more

-- where they start: at the start of the procedure, in the file of the inlined function, at the line of it
abbrev pub start : Cursor
start = record { offset = 0; line = 0; file = None }

-- the rows of annotations that are these bytes
abbrev pub inline_rows : List ℕ → List (Result InlineRow PdbRefusal)
inline_rows b = rows_of start None (annotations b 0)

-- what a walk has left
abbrev pub rows_left : InlineRows → List (Result InlineRow PdbRefusal)
rows_left s = rows_of s.cursor s.last (annotations s.bytes.now s.next)

-- ---- the row of an offset

-- a row has an offset
abbrev pub has_offset : ℕ → InlineRow → Bool
has_offset x r = nat_le r.offset x && nat_lt x (r.offset + r.length)

-- the last of some rows that has an offset, else the one that was found before; or the first refusal
unfoldable pub last_with : ℕ → Option InlineRow → List (Result InlineRow PdbRefusal) → Result (Option InlineRow) PdbRefusal
last_with x found [] = Ok found
last_with x found (Ok r ∷ more) = last_with x (if has_offset x r then Some r else found) more
last_with x found (Err r ∷ more) = Err r

-- the row of an offset
abbrev pub row_at : List ℕ → ℕ → Result (Option InlineRow) PdbRefusal
row_at b x = last_with x None (inline_rows b)

-- a row that has an offset, if the next one starts at another, else the one that was found before it
abbrev pub found_in : Option OpenRow → ℕ → ℕ → Option InlineRow → Option InlineRow
found_in None next x found = found
found_in (Some r) next x found = if has_offset x (closed r next) then Some (closed r next) else found
