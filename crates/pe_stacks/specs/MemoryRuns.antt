-- The memory of a dump in ascending order, as runs of addresses whose bytes follow one another in the file too.
use Rattle.std.specs.Prelude.{◌≡◌, ℕ, ◌+◌, ◌-◌, ◌*◌, ◌<◌, ◌≤◌, ◌^◌, ◌==◌, ◌&&◌, Bool, true, false, List, [], ◌∷◌, length, Option, Some, None, drop, nat_le, nat_lt, min, if◌then◌else◌, slice_index_or, take}
use Rattle.std.specs.List.{find, list_all}
use Rattle.std.specs.Option.{option_map}
use Rattle.pe_core.specs.Bytes.{range}
use Rattle.pe_lookup.specs.AddressRanges.{AreAscending}
use Rattle.pe_frame.specs.MemoryLists.{are_inside, lists_byte}
use Rattle.pe_frame.specs.declared.memory_list.MemoryPiece.{MemoryPiece}
use Rattle.pe_core.specs.declared.range_index.RangeEntry.{RangeEntry}

-- where in the file the byte at an address is: that of the first piece that has one there
abbrev pub offset_in : List MemoryPiece → ℕ → Option ℕ
offset_in ps x = option_map (λ p. p.offset + (x - p.start)) (find (lists_byte x) ps)

-- the same of addresses below 2^64, the only ones that there are
abbrev pub offset_at : List MemoryPiece → ℕ → Option ℕ
offset_at ps x = if nat_lt x (2 ^ 64) then offset_in ps x else None

-- a run follows another one, in memory and in the file
abbrev pub is_followed : MemoryPiece → MemoryPiece → Bool
is_followed r q = r.start + r.length == q.start && r.offset + r.length == q.offset

-- each run has bytes, and none follows the one before it: they are as long as can be
abbrev pub AreApart : List MemoryPiece → Type 0
AreApart [] = Unit {0}
AreApart (r ∷ []) = 0 < r.length
AreApart (r ∷ s ∷ rs) = (0 < r.length) × (is_followed r s ≡ false) × AreApart (s ∷ rs)

-- the runs ascend and do not overlap, each byte is where the pieces have it, and where the pieces lie in a file the runs do
pub record AreRuns (pieces runs : List MemoryPiece) : Type 0 where
  pub ascending : AreAscending (λ p. p.start) (λ p. p.length) runs
  pub apart : AreApart runs
  pub offsets : (x : ℕ) → offset_at runs x ≡ offset_at pieces x
  pub inside : (file : List ℕ) → are_inside file pieces ≡ true → are_inside file runs ≡ true

-- ---- the bytes from an address on

-- as many as there are of n bytes from an address on, of a run that has it; none without one
abbrev pub bytes_in : List ℕ → ℕ → ℕ → Option MemoryPiece → List ℕ
bytes_in file x n None = []
bytes_in file x n (Some r) = range file (r.offset + (x - r.start)) (min n (r.length - (x - r.start)))

-- the bytes from an address on, at most n: they end with the run that has the address
abbrev pub bytes_at : List ℕ → List MemoryPiece → ℕ → ℕ → List ℕ
bytes_at file rs x n = bytes_in file x n (find (lists_byte x) rs)

-- ---- making the runs

-- both as one
abbrev pub joined : MemoryPiece → MemoryPiece → MemoryPiece
joined r q = record { start = r.start; offset = r.offset; length = r.length + q.length }

-- runs with one after them, which continues the last if it follows it
abbrev pub continued : List MemoryPiece → MemoryPiece → List MemoryPiece
continued [] q = q ∷ []
continued (r ∷ []) q = if is_followed r q then joined r q ∷ [] else r ∷ q ∷ []
continued (r ∷ s ∷ rs) q = r ∷ continued (s ∷ rs) q

-- the same; a run of no bytes is left out
abbrev pub appended : List MemoryPiece → MemoryPiece → List MemoryPiece
appended rs q = if q.length == 0 then rs else continued rs q

-- a run of no bytes
abbrev pub no_run : ℕ → MemoryPiece
no_run start = record { start = start; offset = 0; length = 0 }

-- the part of a piece from an address on, at most so many bytes
abbrev pub part_of : MemoryPiece → ℕ → ℕ → MemoryPiece
part_of p x n = record { start = x; offset = p.offset + (x - p.start); length = min n (p.length - (x - p.start)) }

-- an address is before the entry with an index, if there is one
abbrev pub IsBefore : List RangeEntry → ℕ → ℕ → Type 0
IsBefore es i x = (d : RangeEntry) → i < length es → x < (slice_index_or es i d).start

-- how many addresses there are from the start of an entry up to that of the next one, or of the last entry to the last address
abbrev pub addresses_of : List RangeEntry → ℕ → ℕ → ℕ
addresses_of es i start = if nat_lt (i + 1) (length es) then (slice_index_or es (i + 1) (record { start = 0; number = 0 })).start - start else 2 ^ 64 - 1

-- the run of the addresses of an entry: it has what the pieces have there, ends before the next entry, and lies where the pieces do
pub record IsRunOf (pieces : List MemoryPiece) (es : List RangeEntry) (i : ℕ) (r : MemoryPiece) : Type 0 where
  pub start : (d : RangeEntry) → r.start ≡ (slice_index_or es i d).start
  pub ends : (d : RangeEntry) → i + 1 < length es → r.start + r.length ≤ (slice_index_or es (i + 1) d).start
  pub offsets : (x : ℕ) → x < 2 ^ 64 → r.start ≤ x → IsBefore es (i + 1) x → offset_in (r ∷ []) x ≡ offset_in pieces x
  pub within : (n : ℕ) → list_all (λ p. nat_le (p.offset + p.length) n) pieces ≡ true → 0 < r.length → r.offset + r.length ≤ n

-- the pieces end below offset 2^64
abbrev pub end_low : List MemoryPiece → Bool
end_low pieces = list_all (λ p. nat_le (p.offset + p.length) (2 ^ 64 - 1)) pieces

-- the rooms for an index of pieces and for their runs have four entries and two runs for each piece
abbrev pub has_rooms : List MemoryPiece → List RangeEntry × List MemoryPiece → Bool
has_rooms pieces (es, rs) = nat_le (4 * length pieces) (length es) && nat_le (2 * length pieces) (length rs)

-- what writing the runs to rooms returns: how many there are, if the rooms have the room
abbrev pub PutsRuns : List MemoryPiece → List RangeEntry × List MemoryPiece → List RangeEntry × List MemoryPiece → Option ℕ → Type 0
PutsRuns pieces (es, rs) (fs, ss) (Some n) =
    (has_rooms pieces (es, rs) ≡ true)
    × (n ≤ 2 * length pieces)
    × AreRuns pieces (take n ss)
    × (drop (2 * length pieces) ss ≡ drop (2 * length pieces) rs)
    × (drop (4 * length pieces) fs ≡ drop (4 * length pieces) es)
PutsRuns pieces old new None = (has_rooms pieces old ≡ false) × (new ≡ old)
