-- Ranges of bytes.
use Rattle.std.specs.Prelude.{◌≡◌, ℕ, ◌+◌, ◌≤◌, List, length}
use Rattle.pe_core.specs.Bytes.{range}
use Rattle.pe_core.specs.declared.byte_range.ByteRange.{ByteRange}

-- the bytes of a range
abbrev pub bytes_in : List ℕ → ByteRange → List ℕ
bytes_in b r = range b r.offset r.length

-- the range of no bytes
abbrev pub empty_range : ByteRange
empty_range = record { offset = 0; length = 0 }

-- the range lies in b
abbrev pub IsWithin : List ℕ → ByteRange → Type 0
IsWithin b r = r.offset + r.length ≤ length b

-- b has these bytes at offset p
pub record StandAt (b : List ℕ) (p : ℕ) (part : List ℕ) : Type 0 where
  pub inside : p + length part ≤ length b
  pub here : range b p (length part) ≡ part
