use Rattle.std.proofs.Common.{◌≡◌, ◌-◌, ◌≤◌, Ok}
use Rattle.pe_pdb.specs.Ids.{start_of}
use Rattle.pe_pdb.proofs.ids.TypeRecords.count.Given as goal

-- where the next record starts
abbrev pub invariant-loop-index : goal.invariant-loop-index
invariant-loop-index l = record {
  at : start_of l.self.records.now l.index ≡ Ok l.next;
  few : l.index ≤ l.count;
}

abbrev pub decreases-loop-index : goal.decreases-loop-index
decreases-loop-index l = l.count - l.index
