use Rattle.std.proofs.Common.{◌≡◌, ◌+◌, ◌-◌, ◌<◌, ◌≤◌, length}
use Rattle.pe_pdb.specs.Lookups.{IsCut, digits}
use Rattle.pe_pdb.proofs.counted_entries.CountedEntries.count_up_to.Given as goal

abbrev pub invariant-loop-size : goal.invariant-loop-size
invariant-loop-size g l = record {
  kept : l.self.entries ≡ l.fn.self.entries;
  some : 0 < l.size;
  cut : IsCut g.T.StartsAt.start_of l.fn.self.entries.now l.address l.low (l.low + l.size);
  cost : l.self.reads + digits (l.size - 1) ≤ l.fn.self.reads + digits (length l.fn.self.entries.now);
}

abbrev pub decreases-loop-size : goal.decreases-loop-size
decreases-loop-size g l = l.size
