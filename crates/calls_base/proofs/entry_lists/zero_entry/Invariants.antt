use Rattle.std.proofs.Common.{length, ◌-◌}
use Rattle.calls_base.proofs.Cited.{entry_size, NoneIsZero}
use Rattle.calls_base.proofs.entry_lists.zero_entry.Given as goal

-- no entry so far is zero
abbrev pub invariant-loop-start : goal.invariant-loop-start
invariant-loop-start l = NoneIsZero (entry_size l.is_64) l.bytes l.start l.end

abbrev pub decreases-loop-start : goal.decreases-loop-start
decreases-loop-start l = length l.bytes - l.end
