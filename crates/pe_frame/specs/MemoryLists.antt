-- Memory by a list of its pieces in some bytes, as those of a minidump file.
use Rattle.std.specs.Prelude.{◌≡◌, ℕ, ◌+◌, ◌-◌, ◌<◌, ◌≤◌, ◌^◌, ◌&&◌, nat_le, Bool, List, [], ◌∷◌, length, slice_index, Option, Result}
use Rattle.std.specs.List.{find, list_all, list_any, AllByRecursion}
use Rattle.std.specs.Option.{option_map}
use Rattle.pe_core.specs.Bytes.{holds, range}
use Rattle.pe_core.specs.Refusals.{Refusal, Short, outcome}
use Rattle.pe_lookup.specs.AddressRanges.{has_address, rise_from}
use Rattle.pe_frame.specs.MemoryPieces.{known_word}
use Rattle.pe_frame.specs.declared.memory.Stack.{Stack}
use Rattle.pe_frame.specs.declared.memory_list.MemoryPiece.{MemoryPiece}

-- each piece lies in the bytes
abbrev pub are_inside : List ℕ → List MemoryPiece → Bool
are_inside bytes pieces = list_all (λ p. holds bytes p.offset p.length) pieces

-- the bytes and the pieces, or `Short` if a piece does not lie in the bytes
abbrev pub memory_of : List ℕ → List MemoryPiece → Result (List ℕ × List MemoryPiece) Refusal
memory_of bytes pieces = outcome ((are_inside bytes pieces, Short) ∷ []) (bytes, pieces)

-- the test whether the pieces are in ascending order and do not overlap
abbrev pub ascend : List MemoryPiece → Bool
ascend pieces = rise_from (λ p. p.start) (λ p. p.length) 0 pieces

-- a piece has a byte at this address
abbrev pub lists_byte : ℕ → MemoryPiece → Bool
lists_byte a p = has_address (λ q. q.start) (λ q. q.length) a p

-- a piece that has a byte at this address has the eight from there on, of which none passes the last address
abbrev pub has_word : ℕ → MemoryPiece → Bool
has_word a p = nat_le (a + 8) (2 ^ 64) && nat_le (a + 8) (p.start + p.length)

-- the byte at an address, of the first piece that has one there
abbrev pub listed_byte : List ℕ → List MemoryPiece → ℕ → Option ℕ
listed_byte bytes pieces a =
    option_map (λ p. slice_index bytes (p.offset + (a - p.start))) (find (lists_byte a) pieces)

-- the number of the eight bytes at an address, of which none passes the last address
abbrev pub listed_word : List ℕ → List MemoryPiece → ℕ → Option ℕ
listed_word bytes pieces a = known_word (listed_byte bytes pieces) a

-- the pieces show what a memory has
abbrev pub AreListed : (ℕ → ℕ) → List ℕ → List MemoryPiece → Type 0
AreListed memory bytes pieces =
    AllByRecursion (λ p. (i : ℕ) → i < p.length → slice_index bytes (p.offset + i) ≡ memory (p.start + i)) pieces

-- one of them has a byte at this address
abbrev pub list_byte : ℕ → List MemoryPiece → Bool
list_byte a pieces = list_any (lists_byte a) pieces

-- the bytes of a piece of a list, which lies in these bytes
pub record IsPiece (bytes : List ℕ) (p : MemoryPiece) (s : Stack) : Type 0 where
  pub start : s.start ≡ p.start
  pub inside : p.offset + p.length ≤ length bytes
  pub same : s.bytes.now ≡ range bytes p.offset p.length

-- the same of each of them in turn
abbrev pub ArePieces : List ℕ → List MemoryPiece → List Stack → Type 0
ArePieces bytes [] [] = Unit {0}
ArePieces bytes [] (s ∷ ss) = ⊥
ArePieces bytes (p ∷ ps) [] = ⊥
ArePieces bytes (p ∷ ps) (s ∷ ss) = IsPiece bytes p s × ArePieces bytes ps ss
