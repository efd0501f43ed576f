-- The streams of a file, by their index: how long each is, which blocks it has, and its bytes.
use Rattle.std.specs.Prelude.{◌≡◌, ℕ, zero, suc, min, ◌+◌, ◌-◌, ◌*◌, ◌/◌, ◌%◌, ◌==◌, ◌&&◌, ◌<◌, ◌≤◌, List, [], ◌∷◌, ◌++◌, Bool, true, nat_le, nat_lt, drop, slice_index, length, Option, Some, None, Result, Ok, Err, if◌then◌else◌}
use Rattle.std.specs.Int.{div_ceil}
use Rattle.pe_core.specs.Bytes.{range}
use Rattle.pe_core.specs.Refusals.{outcome}
use Rattle.pe_core.specs.Rows.{each}
use Rattle.pe_core.specs.declared.byte_range.ByteRange.{ByteRange}
use Rattle.pe_pdb.specs.Places.{all_below}
use Rattle.pe_pdb.specs.Msf.{MsfView, word_of, msf_view}
use Rattle.pe_pdb.specs.Refusals.{PdbRefusal, Block, Directory, NoStream, Outside, StreamSize, pdb_kind_of}
use Rattle.pe_pdb.specs.declared.error.PdbError.{PdbError}
use Rattle.pe_pdb.specs.declared.stream.Stream.{Stream}

-- the number of streams
abbrev pub streams : MsfView → ℕ
streams m = word_of m 0

-- how many bytes a stream has; one that was deleted has none
abbrev pub size_of : MsfView → ℕ → ℕ
size_of m i = if word_of m (i + 1) == 4294967295 then 0 else word_of m (i + 1)

-- how many blocks it has
abbrev pub blocks_of : MsfView → ℕ → ℕ
blocks_of m i = div_ceil (size_of m i) (4 * m.words)

-- the word of the directory at which the list of its blocks starts: after the number of streams, their sizes, and the lists of those
-- before it
unfoldable pub list_start : MsfView → ℕ → ℕ
list_start m zero = 1 + streams m
list_start m (suc i) = list_start m i + blocks_of m i

-- what callers see of a stream: the file, the word at which its list of blocks starts, and how many bytes it has
pub record StreamView : Type 0 where
  pub msf : MsfView
  pub first : ℕ
  pub size : ℕ

abbrev pub stream_view : Stream → StreamView
stream_view s = record { msf = msf_view s.msf; first = s.first; size = s.size }

-- the stream with an index, if the list of its blocks starts at this word
unfoldable pub stream_from : MsfView → ℕ → ℕ → Result StreamView PdbRefusal
stream_from m i first =
    outcome (
    (nat_lt i (streams m), NoStream)
    ∷ (nat_le (blocks_of m i) m.blocks, StreamSize)
    ∷ (nat_le (first + blocks_of m i) m.directory_words, Directory)
    ∷ (all_below m.blocks (λ k. word_of m (first + k)) (blocks_of m i), Block) ∷ []
    ) (record { msf = m; first = first; size = size_of m i })

-- the stream with an index
abbrev pub stream_of : MsfView → ℕ → Result StreamView PdbRefusal
stream_of m i = stream_from m i (list_start m i)

-- the starts of all lists at the start of a room, which has to have as many numbers
abbrev pub PutsStarts : MsfView → List ℕ → List ℕ → Result ℕ ℕ → Type 0
PutsStarts m old new (Ok n) = (n ≡ streams m) × (n ≤ length old) × (new ≡ each (list_start m) n ++ drop n old)
PutsStarts m old new (Err n) = (n ≡ streams m) × (length old < n) × (new ≡ old)

-- ---- bytes

-- where a block of a stream stands in the file, by its index in the list
abbrev pub block_start : StreamView → ℕ → ℕ
block_start s k = 4 * s.msf.words * word_of s.msf (s.first + k)

-- where a byte of a stream stands in the file: in the block that is listed for it
abbrev pub place_of : StreamView → ℕ → ℕ
place_of s o = block_start s (o / (4 * s.msf.words)) + o % (4 * s.msf.words)

-- the bytes of a stream
unfoldable pub stream_bytes : StreamView → List ℕ
stream_bytes s = each (λ o. slice_index s.msf.bytes (place_of s o)) s.size

-- how many bytes from an offset on stand in one block
abbrev pub left_in_block : StreamView → ℕ → ℕ
left_in_block s o = min (4 * s.msf.words - o % (4 * s.msf.words)) (s.size - o)

-- a call filled a room with the bytes from an offset on, or refused to, and changed nothing
abbrev pub CopiesStream : StreamView → ℕ → List ℕ → List ℕ → Result (Unit {0}) PdbError → Type 0
CopiesStream s o old new (Ok u) = (o + length old ≤ s.size) × (new ≡ range (stream_bytes s) o (length old))
CopiesStream s o old new (Err e) = (s.size < o + length old) × (new ≡ old) × (pdb_kind_of e ≡ Outside)

-- each of the first n blocks follows the one before it in the file
unfoldable pub follow_on : StreamView → ℕ → Bool
follow_on s zero = true
follow_on s (suc n) = follow_on s n && word_of s.msf (s.first + n) == word_of s.msf s.first + n

-- the range of the file that has the bytes of a stream in their order, if its blocks follow one another
abbrev pub contiguous_of : StreamView → Option ByteRange
contiguous_of s =
    if follow_on s (div_ceil s.size (4 * s.msf.words)) then Some (record { offset = if s.size == 0 then 0 else block_start s 0; length = s.size }) else None

-- ---- what a law says of the bytes

-- the bytes of the block with an index in the list of a stream
abbrev pub block_bytes : StreamView → ℕ → List ℕ
block_bytes s k = range s.msf.bytes (block_start s k) (4 * s.msf.words)

-- the first n of some lists, one after the other
unfoldable pub joined : (ℕ → List ℕ) → ℕ → List ℕ
joined f zero = []
joined f (suc n) = joined f n ++ f n

-- each block of a stream lies in the file
abbrev pub HasBlocks : StreamView → Type 0
HasBlocks s = (k : ℕ) → k < div_ceil s.size (4 * s.msf.words) → block_start s k + 4 * s.msf.words ≤ length s.msf.bytes
