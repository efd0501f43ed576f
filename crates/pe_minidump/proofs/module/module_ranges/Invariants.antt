use Rattle.std.proofs.Common.{◌≡◌, ◌*◌}
use Rattle.pe_core.specs.Rows.{each}
use Rattle.pe_minidump.specs.Ranges.{module_range}
use Rattle.pe_minidump.specs.Records.{module_entry}
use Rattle.pe_minidump.proofs.module.module_ranges.Given as goal

-- the ranges are those of the modules before the one with this index
abbrev pub invariant-loop-index : goal.invariant-loop-index
invariant-loop-index g l =
    l.ranges.items ≡ each (λ k. module_range (module_entry l.list.bytes.now (l.list.stride * k))) l.index
