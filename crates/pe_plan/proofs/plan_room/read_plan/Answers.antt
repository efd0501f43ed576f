use Rattle.std.proofs.Common.{Some, arith, subst, map, take}
use Rattle.pe_plan.proofs.Cited.{links_with, length-set, unwind_view, IsChain}
use Rattle.pe_plan.proofs.ShortPlans.{chain_more}
use Rattle.pe_plan.proofs.plan_room.read_plan.Goals as goal

pub loop-count-preserved : goal.loop-count-preserved
loop-count-preserved g c =
    let chain = subst (λ o. IsChain (links_with c.args.exceptions.now (g.R.RvaMap.offset c.args.rva_map.now)) c.args.exceptions.now.content (Some c.args.function) (map unwind_view (take c.loop-count.count c.loop-count.room)) o) c.in-Some.is c.loop-count.invariant.chain in
    record {
      chain = chain_more _ _ (Some c.args.function) c.in-Some.current c.loop-count.room c.in-Ok.record c.loop-count.count (omega (arith, c.loop-count.invariant.same)) chain c.in-Ok.ensures.record;
      same = omega (arith, length-set c.loop-count.room c.loop-count.count c.in-Ok.record, c.loop-count.invariant.same);
    }
