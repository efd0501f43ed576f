use Rattle.std.proofs.Common.{◌+◌, ◌/◌, ◌<◌, ◌≤◌, length}
use Rattle.pe_pdb.specs.Lookups.{IsCut}
use Rattle.pe_pdb.specs.Omap.{omap}
use Rattle.pe_pdb.proofs.omap.count_up_to.Given as goal

abbrev pub invariant-loop-size : goal.invariant-loop-size
invariant-loop-size l = record {
  some : 0 < l.size;
  fits : l.low + l.size ≤ length l.table / 8;
  cut : IsCut (λ x. x.rva) (omap l.table) l.rva l.low (l.low + l.size);
}

abbrev pub decreases-loop-size : goal.decreases-loop-size
decreases-loop-size l = l.size
