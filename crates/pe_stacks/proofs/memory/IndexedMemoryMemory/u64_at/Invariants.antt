use Rattle.std.proofs.Common.{◌≡◌, Some, length, take}
use Rattle.pe_frame.specs.MemoryLists.{listed_byte}
use Rattle.pe_frame.specs.MemoryPieces.{known_bytes}
use Rattle.pe_stacks.proofs.memory.IndexedMemoryMemory.u64_at.Given as goal

-- the bytes so far
abbrev pub invariant-loop-index : goal.invariant-loop-index
invariant-loop-index g l =
    (length l.bytes ≡ 8) × (known_bytes (listed_byte l.self.bytes.now l.self.pieces.ranges.now) l.address l.index ≡ Some (take l.index l.bytes))
