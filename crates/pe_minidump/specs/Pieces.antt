-- Pieces of memory, with the bytes that the file has of them.
use Rattle.std.specs.Prelude.{ℕ, ◌-◌, List, length, take, drop}
use Rattle.pe_minidump.specs.declared.memory.MemoryPiece.{MemoryPiece}

-- as many of so many bytes from an offset on as lie in the file
abbrev pub bytes_from : List ℕ → ℕ → ℕ → List ℕ
bytes_from file offset size = take size (drop offset file)

-- a piece as callers see it
pub record PieceView : Type 0 where
  pub start : ℕ
  pub offset : ℕ
  pub bytes : List ℕ
  pub lost : ℕ

abbrev pub piece_view : MemoryPiece → PieceView
piece_view p = record { start = p.start; offset = p.offset; bytes = p.bytes.now; lost = p.lost }

-- the piece of so many bytes from an offset on
abbrev pub piece : List ℕ → ℕ → ℕ → ℕ → PieceView
piece file start offset size = record {
  start = start;
  offset = offset;
  bytes = bytes_from file offset size;
  lost = size - length (bytes_from file offset size);
}
