use Rattle.std.proofs.Common.{◌-◌, ◌≤◌}
use Rattle.pe_pdb.specs.Scans.{HasSameEntries}
use Rattle.pe_pdb.proofs.symbol_scan.skip_others.Given as goal

-- no record so far has an entry
abbrev pub invariant-loop-end : goal.invariant-loop-end
invariant-loop-end l = record {
  same : HasSameEntries l.class l.bytes l.start l.next;
  after : l.start ≤ l.next;
  before : l.next ≤ l.last;
}

abbrev pub decreases-loop-end : goal.decreases-loop-end
decreases-loop-end l = l.last - l.next
