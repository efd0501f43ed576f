use Rattle.std.proofs.Common.{◌≡◌, Some, arith, subst, map, take}
use Rattle.pe_plan.proofs.Cited.{kind_of, links_with, length-set, unwind_view, IsChain}
use Rattle.pe_plan.proofs.ShortPlans.{chain_first, chain_more, refused_at_once, root_at_last}
use Rattle.pe_plan.proofs.short_plan.ShortPlan.of_function.Goals as goal

pub returns-in-Err : goal.returns-in-Err
returns-in-Err g c = refused_at_once _ _ c.args.function (kind_of c.in-Err.error) c.in-Err.ensures.record

pub loop-count-init : goal.loop-count-init
loop-count-init g c =
    let filled = c.repeat-records.ensures.items in
    let first = (filled.each).0 in
    let same : first ≡ c.in-Ok.record = c.clones_are_their_originals.ensures.unwind_info _ first (filled.each).2 in
    record {
      chain = chain_first _ _ c.args.function c.repeat-records.result first c.in-Ok.record filled.long (filled.each).1.0 same c.in-Ok.ensures.record;
      same = filled.long;
    }

pub loop-count-preserved : goal.loop-count-preserved
loop-count-preserved g c =
    let chain = subst (λ o. IsChain (links_with c.args.exceptions.now (g.R.RvaMap.offset c.args.rva_map.now)) c.args.exceptions.now.content (Some c.args.function) (map unwind_view (take c.loop-count.count c.loop-count.records)) o) c.in-Some.is c.loop-count.invariant.chain in
    record {
      chain = chain_more _ _ (Some c.args.function) c.in-Some.parent c.loop-count.records c.in-Ok-get_unwind_info_with_map.record c.loop-count.count (omega (arith, c.loop-count.invariant.same)) chain c.in-Ok-get_unwind_info_with_map.ensures.record;
      same = omega (arith, length-set c.loop-count.records c.loop-count.count c.in-Ok-get_unwind_info_with_map.record, c.loop-count.invariant.same);
    }

pub returns-in-None : goal.returns-in-None
returns-in-None g c =
    root_at_last _ _ c.args.function c.loop-count.records c.loop-count.count c.loop-count.next c.loop-count.invariant.same (omega arith) c.in-None.is c.loop-count.invariant.chain
