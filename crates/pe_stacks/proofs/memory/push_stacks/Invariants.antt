use Rattle.std.proofs.Common.{◌≡◌, ◌≤◌, ◌++◌, length}
use Rattle.pe_minidump.specs.Records.{thread}
use Rattle.pe_minidump.specs.Tables.{records, records_from}
use Rattle.pe_stacks.specs.DumpMemory.{stacks_of}
use Rattle.pe_stacks.proofs.memory.push_stacks.Given as goal

-- the pieces so far, and those of the threads that are left
abbrev pub invariant-loop-entry : goal.invariant-loop-entry
invariant-loop-entry g l =
    (l.pieces.items ++ stacks_of l.dump.bytes.now (records_from thread l.entry-iterator.table.bytes.now l.entry-iterator.table.stride l.entry-iterator.table.count l.entry-iterator.next)
    ≡ l.fn.pieces.items ++ stacks_of l.dump.bytes.now (records thread l.threads.bytes.now l.threads.stride l.threads.count))
    × (length l.fn.pieces.items ≤ length l.pieces.items)
