use Rattle.std.proofs.Common.{length, ◌-◌, ◌≡◌, ◌+◌, ◌≤◌}
use Rattle.pe_resource.specs.VersionStrings as spec
use Rattle.pe_resource.proofs.string.key_length.Given as goal

abbrev pub invariant-loop-end : goal.invariant-loop-end
invariant-loop-end l = record {
  from : l.offset ≤ l.end;
  within : l.end ≤ length l.bytes;
  same : l.end + spec.key_length l.bytes l.end ≡ l.offset + spec.key_length l.bytes l.offset;
}

abbrev pub decreases-loop-end : goal.decreases-loop-end
decreases-loop-end l = length l.bytes - l.end
