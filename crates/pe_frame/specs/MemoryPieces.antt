-- Memory in several pieces.
use Rattle.std.specs.Prelude.{◌≡◌, ℕ, zero, suc, ◌+◌, ◌-◌, ◌^◌, ◌<◌, nat_le, Bool, List, [], ◌∷◌, ◌++◌, length, slice_index, Option, Some, None, if◌then◌else◌}
use Rattle.std.specs.List.{find, list_any, AllByRecursion}
use Rattle.std.specs.Option.{option_map, option_and_then}
use Rattle.pe_core.specs.Bytes.{le}
use Rattle.pe_frame.specs.declared.memory.Stack.{Stack}
use Rattle.pe_lookup.specs.AddressRanges.{has_address}

-- how many bytes a piece has
abbrev pub piece_size : Stack → ℕ
piece_size s = length s.bytes.now

-- it has a byte at this address
abbrev pub has_byte : ℕ → Stack → Bool
has_byte a s = has_address (λ s. s.start) piece_size a s

-- the byte at an address, of the first piece that has one there
abbrev pub byte_in : List Stack → ℕ → Option ℕ
byte_in pieces a = option_map (λ s. slice_index s.bytes.now (a - s.start)) (find (has_byte a) pieces)

-- the n bytes from an address on, if each of them is known
abbrev pub known_bytes : (ℕ → Option ℕ) → ℕ → ℕ → Option (List ℕ)
known_bytes byte a zero = Some []
known_bytes byte a (suc n) = option_and_then (λ before. option_map (λ b. before ++ b ∷ []) (byte (a + n))) (known_bytes byte a n)

-- the number of the eight bytes at an address, if each of them is known, and none passes the last address
abbrev pub known_word : (ℕ → Option ℕ) → ℕ → Option ℕ
known_word byte a =
    if nat_le (a + 8) (2 ^ 64) then option_map (λ bytes. le bytes 0 8) (known_bytes byte a 8) else None

-- the word of pieces
abbrev pub pieces_word : List Stack → ℕ → Option ℕ
pieces_word pieces a = known_word (byte_in pieces) a

-- the pieces show what a memory has
abbrev pub ArePiecesOf : (ℕ → ℕ) → List Stack → Type 0
ArePiecesOf memory pieces = AllByRecursion (λ s. (i : ℕ) → i < piece_size s → slice_index s.bytes.now i ≡ memory (s.start + i)) pieces

-- one of them has a byte at this address
abbrev pub have_byte : ℕ → List Stack → Bool
have_byte a pieces = list_any (has_byte a) pieces
