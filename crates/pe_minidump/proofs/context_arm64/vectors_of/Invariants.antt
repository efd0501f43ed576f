use Rattle.std.proofs.Common.{◌≡◌, ◌+◌, ◌*◌, length, take}
use Rattle.pe_core.specs.Bytes.{le}
use Rattle.pe_core.specs.Rows.{each}
use Rattle.pe_minidump.proofs.context_arm64.vectors_of.Given as goal

-- the first k registers are read, of 32
abbrev pub invariant-loop-k : goal.invariant-loop-k
invariant-loop-k l = record {
  read : take l.k l.registers ≡ each (λ k. le l.bytes (272 + 16 * k) 16) l.k;
  room : length l.registers ≡ 32;
}
