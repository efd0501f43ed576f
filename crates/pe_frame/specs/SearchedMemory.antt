-- Memory by a list of its pieces that is searched by halving. Every list is legal: a piece is tested as it is used.
use Rattle.std.specs.Prelude.{ℕ, ◌+◌, ◌-◌, ◌==◌, ◌&&◌, Bool, List, length, slice_index, slice_index_or, Option, Some, None, if◌then◌else◌}
use Rattle.std.specs.Option.{option_map}
use Rattle.pe_core.specs.Bytes.{holds, le}
use Rattle.pe_lookup.specs.AddressRanges.{started}
use Rattle.pe_frame.specs.MemoryLists.{has_word, lists_byte}
use Rattle.pe_frame.specs.MemoryPieces.{known_word}
use Rattle.pe_frame.specs.declared.memory_list.MemoryPiece.{MemoryPiece}

-- a piece without a byte
abbrev pub no_piece : MemoryPiece
no_piece = record { start = 0; offset = 0; length = 0 }

-- how many pieces start at or before an address, as the search finds it. As many bits as there are pieces are enough.
abbrev pub pieces_started : List MemoryPiece → ℕ → ℕ
pieces_started pieces a = started (λ p. p.start) no_piece pieces a (length pieces) 0

-- the last of them; without one a piece without a byte
abbrev pub piece_found : List MemoryPiece → ℕ → MemoryPiece
piece_found pieces a = if pieces_started pieces a == 0 then no_piece else slice_index_or pieces (pieces_started pieces a - 1) no_piece

-- a piece has a byte at this address, and lies in the bytes
abbrev pub shows_byte : List ℕ → ℕ → MemoryPiece → Bool
shows_byte bytes a p = lists_byte a p && holds bytes p.offset p.length

-- the piece that is found, if it shows the byte
unfoldable pub piece_shown : List ℕ → List MemoryPiece → ℕ → Option MemoryPiece
piece_shown bytes pieces a = if shows_byte bytes a (piece_found pieces a) then Some (piece_found pieces a) else None

-- the byte at an address
abbrev pub searched_byte : List ℕ → List MemoryPiece → ℕ → Option ℕ
searched_byte bytes pieces a =
    option_map (λ p. slice_index bytes (p.offset + (a - p.start))) (piece_shown bytes pieces a)

-- the word at an address by the piece that is found there: its own, if it has all eight bytes, else that of the bytes
abbrev pub word_by : List ℕ → List MemoryPiece → ℕ → Option MemoryPiece → Option ℕ
word_by bytes pieces a None = known_word (searched_byte bytes pieces) a
word_by bytes pieces a (Some p) =
    if has_word a p then Some (le bytes (p.offset + (a - p.start)) 8) else known_word (searched_byte bytes pieces) a

abbrev pub searched_word : List ℕ → List MemoryPiece → ℕ → Option ℕ
searched_word bytes pieces a = word_by bytes pieces a (piece_shown bytes pieces a)
