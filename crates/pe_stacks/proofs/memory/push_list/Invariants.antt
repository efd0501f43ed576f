use Rattle.std.proofs.Common.{◌≡◌, ◌≤◌, ◌++◌, length}
use Rattle.pe_minidump.specs.Records.{memory_descriptor}
use Rattle.pe_minidump.specs.Tables.{records, records_from}
use Rattle.pe_stacks.specs.DumpMemory.{described_all}
use Rattle.pe_stacks.proofs.memory.push_list.Given as goal

-- the pieces so far, and those of the entries that are left
abbrev pub invariant-loop-entry : goal.invariant-loop-entry
invariant-loop-entry g l =
    (l.pieces.items ++ described_all l.dump.bytes.now (records_from memory_descriptor l.entry-iterator.table.bytes.now l.entry-iterator.table.stride l.entry-iterator.table.count l.entry-iterator.next)
    ≡ l.fn.pieces.items ++ described_all l.dump.bytes.now (records memory_descriptor l.list.bytes.now l.list.stride l.list.count))
    × (length l.fn.pieces.items ≤ length l.pieces.items)
