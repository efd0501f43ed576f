use Rattle.std.proofs.Common.{◌≡◌, ◌++◌, map}
use Rattle.pe_minidump.specs.Memory64.{pieces_from}
use Rattle.pe_stacks.specs.DumpMemory.{listed_all, listed_piece}
use Rattle.pe_stacks.proofs.memory.push_list_64.Given as goal

-- the pieces so far, and those of the entries that are left
abbrev pub invariant-loop-piece : goal.invariant-loop-piece
invariant-loop-piece g l =
    l.pieces.items ++ map (listed_piece l.dump.bytes.now) (pieces_from l.piece-iterator.list.file.now l.piece-iterator.list.ranges.now l.piece-iterator.list.base_rva l.piece-iterator.next)
    ≡ l.fn.pieces.items ++ listed_all l.dump.bytes.now (record { base_rva = l.list.base_rva; ranges = l.list.ranges.now })
