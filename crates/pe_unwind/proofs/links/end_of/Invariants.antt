use Rattle.pe_unwind.specs.Links.{linked_table}
use Rattle.pe_unwind.proofs.LinkChains.{FollowedTo}
use Rattle.pe_unwind.proofs.links.end_of.Given as goal

abbrev pub invariant-loop-links : goal.invariant-loop-links
invariant-loop-links g l = FollowedTo (linked_table l.table l.start (g.M.RvaMap.offset l.map)) l.fn.address l.links l.current l.saved
