-- Bytes that are written over others, piece by piece. A byte is that of the last piece that covers its offset.
use Rattle.std.specs.Prelude.{◌≡◌, ℕ, ◌+◌, ◌-◌, ◌&&◌, ◌^◌, max, Bool, List, [], ◌∷◌, length, filter, replicate, Option, Some, None, Result, Ok, Err, nat_le, nat_lt, slice_index}
use Rattle.std.specs.List.{last_or, list_all}
use Rattle.pe_core.specs.Rows.{each}
use Rattle.pe_core.specs.declared.error.Error.{Error}

-- a piece: some bytes, and the offset that they are written at
pub record Piece : Type 0 where
  pub offset : ℕ
  pub content : List ℕ

-- the piece with the bytes s at offset p
abbrev pub piece : ℕ → List ℕ → Piece
piece p s = record { offset = p; content = s }

-- the piece covers offset q
abbrev pub has_byte : ℕ → Piece → Bool
has_byte q x = nat_le x.offset q && nat_lt q (x.offset + length x.content)

-- the byte of the piece at offset q; without a piece the old byte
abbrev pub byte_of : ℕ → ℕ → Option Piece → ℕ
byte_of q old None = old
byte_of q old (Some x) = slice_index x.content (q - x.offset)

-- the last piece that covers offset q
abbrev pub last_piece : List Piece → ℕ → Option Piece
last_piece pieces q = last_or None (filter (has_byte q) pieces)

-- the byte at offset q after the pieces are written: that of the last piece that covers q, else the old byte
unfoldable pub byte_after : List Piece → ℕ → ℕ → ℕ
byte_after pieces q old = byte_of q old (last_piece pieces q)

-- the bytes after the pieces are written over them
unfoldable pub overlay : List ℕ → List Piece → List ℕ
overlay b pieces = each (λ q. byte_after pieces q (slice_index b q)) (length b)

-- the piece fits into n bytes
abbrev pub fits : ℕ → Piece → Bool
fits n x = nat_le (x.offset + length x.content) n

-- every piece fits into n bytes
abbrev pub all_fit : ℕ → List Piece → Bool
all_fit n pieces = list_all (fits n) pieces

-- the greatest end of a piece; 0 without a piece
abbrev pub greatest_end : List Piece → ℕ
greatest_end [] = 0
greatest_end (x ∷ after) = max (x.offset + length x.content) (greatest_end after)

-- the greatest length of a buffer in bytes
abbrev pub longest : ℕ
longest = 2 ^ 63 - 1

-- all bytes of the piece are zeros
abbrev pub IsOfZeros : Piece → Type 0
IsOfZeros x = x.content ≡ replicate (length x.content) 0

-- the last piece that covers offset q is one of zeros
abbrev pub EndsInZeros : List Piece → ℕ → Type 0
EndsInZeros pieces q = (x : Piece) × (last_piece pieces q ≡ Some x) × IsOfZeros x

-- an accepted write leaves the overlay of these pieces, and a refused one changes nothing
abbrev pub LeavesOverlay : List Piece → Result ℕ Error → List ℕ → List ℕ → Type 0
LeavesOverlay pieces (Ok n) old new = new ≡ overlay old pieces
LeavesOverlay pieces (Err e) old new = new ≡ old
