-- The memory of a dump: the pieces of both of its lists, as walks take them.
use Rattle.std.specs.Prelude.{◌≡◌, ℕ, ◌+◌, ◌-◌, ◌*◌, ◌/◌, ◌<◌, ◌==◌, ◌&&◌, Bool, true, false, List, [], ◌∷◌, ◌++◌, length, map, nat_le, nat_lt, Option, Some, None, Result, Ok, Err, min, if◌then◌else◌}
use Rattle.std.specs.List.{flat_map}
use Rattle.pe_core.specs.Bytes.{le}
use Rattle.pe_frame.specs.declared.memory_list.MemoryPiece.{MemoryPiece}
use Rattle.pe_minidump.specs.Dumps.{DumpView, read_stream}
use Rattle.pe_minidump.specs.Memory64.{Listed64, memory64_of, pieces_from, size_of_first, size_of_piece}
use Rattle.pe_minidump.specs.Pieces.{PieceView, piece}
use Rattle.pe_minidump.specs.Refusals.{DumpRefusal}
use Rattle.pe_minidump.specs.Streams.{memory_list, threads}
use Rattle.pe_minidump.specs.declared.memory.MemoryDescriptor.{MemoryDescriptor}
use Rattle.pe_minidump.specs.declared.thread.Thread.{Thread}

-- a piece, and where the bytes are that the file has of it
abbrev pub listed_piece : List ℕ → PieceView → MemoryPiece
listed_piece file p = record {
  start = p.start;
  offset = min p.offset (length file);
  length = length p.bytes;
}

-- that of an entry of the memory list
abbrev pub described : List ℕ → MemoryDescriptor → MemoryPiece
described file d = listed_piece file (piece file d.start_of_memory_range (d.memory).rva (d.memory).size)

-- the elements of a list, if it is there and not refused
abbrev pub elements : {X Y : Type 0} → (X → List Y) → Result (Option X) DumpRefusal → List Y
elements of (Ok (Some x)) = of x
elements of (Ok None) = []
elements of (Err e) = []

-- the pieces of the memory list
abbrev pub described_all : List ℕ → List MemoryDescriptor → List MemoryPiece
described_all file ds = map (described file) ds

-- those of a full dump's
abbrev pub listed_all : List ℕ → Listed64 → List MemoryPiece
listed_all file l = map (listed_piece file) (pieces_from file l.ranges l.base_rva 0)

-- the pieces of both lists, those of the memory list first
abbrev pub pieces_of : DumpView → List MemoryPiece
pieces_of d = elements (described_all d.bytes) (memory_list d) ++ elements (listed_all d.bytes) (read_stream memory64_of d 9)

-- ---- the stacks that threads name

-- the stack of a thread: none at offset 0, where the file has its header
abbrev pub stack_of : List ℕ → Thread → List MemoryPiece
stack_of file t = if ((t.stack).memory).rva == 0 then [] else described file t.stack ∷ []

-- those of all threads
abbrev pub stacks_of : List ℕ → List Thread → List MemoryPiece
stacks_of file ts = flat_map (stack_of file) ts

-- the pieces of both lists, and after them the stacks
abbrev pub pieces_and_stacks_of : DumpView → List MemoryPiece
pieces_and_stacks_of d = pieces_of d ++ elements (stacks_of d.bytes) (threads d)

-- ---- a full dump's list by its numbers

-- where in the file the bytes of the piece with an index are: after those of all pieces before it
abbrev pub offset64 : Listed64 → ℕ → ℕ
offset64 l i = l.base_rva + size_of_first l.ranges i

-- the address of the piece
abbrev pub start64 : Listed64 → ℕ → ℕ
start64 l i = le l.ranges (16 * i) 8

-- the file has a byte of the piece for an address; a truncated one has those of its bytes that are before its end
abbrev pub has64 : List ℕ → Listed64 → ℕ → ℕ → Bool
has64 file l x i = nat_le (start64 l i) x && nat_lt x (start64 l i + min (size_of_piece l.ranges i) (length file - offset64 l i))

-- of the pieces it is the first for which the file has that
pub record IsFirst64 (file : List ℕ) (l : Listed64) (x i : ℕ) : Type 0 where
  pub within : i < length l.ranges / 16
  pub has : has64 file l x i ≡ true
  pub before : (j : ℕ) → j < i → has64 file l x j ≡ false
