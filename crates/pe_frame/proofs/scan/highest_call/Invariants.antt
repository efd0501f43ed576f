use Rattle.std.proofs.Common.{◌≡◌, ◌+◌, ◌-◌, ◌<◌, ◌^◌, IfSome}
use Rattle.pe_frame.specs.Scans.{higher_call, highest_call, most_words}
use Rattle.pe_frame.proofs.scan.highest_call.Given as goal

-- the highest so far and that of the words that are left are that of all
abbrev pub invariant-loop : goal.invariant-loop
invariant-loop g l = record {
  value : higher_call l.highest (highest_call (most_words - l.counter) (g.M.Memory.word l.memory) (g.T.CallTargets.targets l.targets) l.address)
      ≡ highest_call most_words (g.M.Memory.word l.memory) (g.T.CallTargets.targets l.targets) l.fn.start;
  room : IfSome l.highest (λ found. found.address + 8 < 2 ^ 64);
}
