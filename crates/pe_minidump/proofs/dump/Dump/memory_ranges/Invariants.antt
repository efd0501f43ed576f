use Rattle.std.proofs.Common.{◌≡◌, ◌*◌}
use Rattle.pe_core.specs.Rows.{each}
use Rattle.pe_minidump.specs.Ranges.{piece_range}
use Rattle.pe_minidump.specs.Records.{memory_descriptor}
use Rattle.pe_minidump.proofs.dump.Dump.memory_ranges.Given as goal

-- the ranges are those of the pieces before the one with this index
abbrev pub invariant-loop-index : goal.invariant-loop-index
invariant-loop-index g l =
    l.ranges.items ≡ each (λ k. piece_range l.self.bytes.now (memory_descriptor l.list.bytes.now (l.list.stride * k))) l.index
