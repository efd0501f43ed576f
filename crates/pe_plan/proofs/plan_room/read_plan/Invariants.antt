use Rattle.std.proofs.Common.{◌≡◌, length, map, take, Some}
use Rattle.pe_plan.proofs.Cited.{links_with, unwind_view, IsChain}
use Rattle.pe_plan.proofs.plan_room.read_plan.Given as goal

-- the records so far are the first of the chain, which goes on with the next function
abbrev pub invariant-loop-count : goal.invariant-loop-count
invariant-loop-count g l = record {
  chain : IsChain (links_with l.exceptions (g.R.RvaMap.offset l.rva_map)) l.exceptions.content (Some l.fn.function) (map unwind_view (take l.count l.room)) l.next;
  same : length l.room ≡ length l.fn.room;
}
