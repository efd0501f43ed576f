-- The memory of a full dump: pieces whose bytes stand in the file one after the other. `ranges` are the entries, 16 bytes each.
use Rattle.std.specs.Prelude.{ℕ, zero, suc, ◌+◌, ◌-◌, ◌*◌, ◌/◌, ◌^◌, ◌==◌, List, [], ◌∷◌, drop, length, map, nat_lt, Result}
use Rattle.std.specs.List.{range_with_len}
use Rattle.pe_core.specs.Bytes.{le, holds}
use Rattle.pe_core.specs.Refusals.{outcome}
use Rattle.pe_minidump.specs.Pieces.{PieceView, piece}
use Rattle.pe_minidump.specs.Refusals.{DumpRefusal, ListSize, Location, Short}

-- how many bytes the piece with an index has
abbrev pub size_of_piece : List ℕ → ℕ → ℕ
size_of_piece ranges i = le ranges (16 * i + 8) 8

-- how many bytes the first n pieces have in sum
unfoldable pub size_of_first : List ℕ → ℕ → ℕ
size_of_first ranges zero = 0
size_of_first ranges (suc n) = size_of_first ranges n + size_of_piece ranges n

-- the piece with an index: its bytes follow those of all pieces before it
abbrev pub piece64 : List ℕ → List ℕ → ℕ → ℕ → PieceView
piece64 file ranges base i = piece file (le ranges (16 * i) 8) (base + size_of_first ranges i) (size_of_piece ranges i)

-- the pieces from an index on
abbrev pub pieces_from : List ℕ → List ℕ → ℕ → ℕ → List PieceView
pieces_from file ranges base i = map (λ k. piece64 file ranges base k) (range_with_len i (length ranges / 16 - i))

-- what a stream lists: the offset of the first byte, and the entries
pub record Listed64 : Type 0 where
  pub base_rva : ℕ
  pub ranges : List ℕ

-- a list is refused if the bytes of its pieces would end past offset 2 ^ 64 - 1
unfoldable pub memory64_of : List ℕ → Result Listed64 DumpRefusal
memory64_of b =
    outcome (
    (holds b 0 16, Short)
    ∷ (length b == 16 + 16 * le b 0 8, ListSize)
    ∷ (nat_lt (le b 8 8 + size_of_first (drop 16 b) (length (drop 16 b) / 16)) (2 ^ 64), Location) ∷ []
    ) (record { base_rva = le b 8 8; ranges = drop 16 b })
