use Rattle.std.proofs.Common.{◌≡◌, Some, length, take}
use Rattle.pe_frame.specs.MemoryPieces.{known_bytes}
use Rattle.pe_frame.proofs.memory.known_word.Given as goal

abbrev pub invariant-loop-index : goal.invariant-loop-index
invariant-loop-index g l =
    (length l.bytes ≡ 8) × (known_bytes (g.B.KnownBytes.byte l.memory) l.address l.index ≡ Some (take l.index l.bytes))
