use Rattle.std.proofs.Common.{◌≡◌}
use Rattle.pe_core.specs.Rows.{each}
use Rattle.pe_directories.proofs.bound_names.first_offsets.Given as goal

-- the offsets so far
abbrev pub invariant-loop-offset : goal.invariant-loop-offset
invariant-loop-offset g l = l.offsets.items ≡ each (λ offset. offset) l.offset
