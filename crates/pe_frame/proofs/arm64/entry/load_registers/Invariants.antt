use Rattle.std.proofs.Common.{◌≡◌, ◌≤◌}
use Rattle.pe_frame.specs.Arm64Undoing.{context_stores, reverted_all}
use Rattle.pe_frame.proofs.arm64.entry.load_registers.Given as goal

-- loading those that are left is loading all
abbrev pub invariant-loop-count : goal.invariant-loop-count
invariant-loop-count g l = record {
  loads : reverted_all (g.M.Memory.word l.memory) (context_stores l.count) l.registers ≡ reverted_all (g.M.Memory.word l.memory) (context_stores 39) l.fn.registers;
  few : l.count ≤ 39;
}

abbrev pub decreases-loop-count : goal.decreases-loop-count
decreases-loop-count g l = l.count
