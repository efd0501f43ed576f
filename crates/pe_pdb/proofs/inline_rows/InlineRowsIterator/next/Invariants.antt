use Rattle.std.proofs.Common.{◌≡◌, ◌-◌, ◌≤◌, length}
use Rattle.pe_pdb.specs.Annotations.{rows_left}
use Rattle.pe_pdb.specs.InlineWalks.{rows_bound}
use Rattle.pe_pdb.proofs.inline_rows.InlineRowsIterator.next.Given as goal

-- no row was left out
abbrev pub invariant-loop-self : goal.invariant-loop-self
invariant-loop-self l = record {
  same : rows_left l.fn.self ≡ rows_left l.self;
  bound : rows_bound l.self ≤ rows_bound l.fn.self;
}

abbrev pub decreases-loop-self : goal.decreases-loop-self
decreases-loop-self l = length l.self.bytes.now - l.self.next
