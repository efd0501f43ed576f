use Rattle.std.proofs.Common.{◌≡◌, ◌+◌, ◌∙◌, true, get_or, refl, sym, arith}
use Rattle.std.proofs.lemmas.List.Folds.{list_all_more}
use Rattle.pe_lookup.proofs.Lookups.{one_more}
use Rattle.calls_stacks.specs.WalkModules.{has_table, view_base, view_size}
use Rattle.calls_stacks.proofs.stack.walk.are_in_order.Goals as goal

pub loop-i-preserved : goal.loop-i-preserved
loop-i-preserved c =
    let views = c.args.views.now in
    let i = c.loop-i.i in
    let view = c.index-views-i.result in
    let is : view ≡ get_or views i view = c.index-views-i.is in
    let here : has_table view ≡ true = sym c.has_table.ensures ∙ c.if-not-has_table.false in
    let more = one_more view_base view_size views i (c.loop-i.start + c.loop-i.size) view c.loop-i-test.true is c.loop-i.invariant.ascend c.loop-i.invariant.ends (omega (arith, c.if-next-start.false, c.if-next-start-2.false)) in
    record {
      tables = list_all_more has_table views i view c.loop-i-test.true ∙ rw (c.loop-i.invariant.tables, sym is, here) refl;
      ascend = more.0;
      ends = rw c.size-size.ensures more.1;
    }

pub returns-clause-ascending : goal.returns-clause-ascending
returns-clause-ascending c is j k d less lt = c.loop-i.invariant.ascend j k d less (omega arith)
