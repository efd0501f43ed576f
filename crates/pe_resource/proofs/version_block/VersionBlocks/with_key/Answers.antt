use Rattle.std.proofs.Common.{not, ap, sym, ◌∙◌}
use Rattle.pe_resource.proofs.BlockLists.{key_test, found, goes_on, refused_first, refused_again, not_found}
use Rattle.pe_resource.proofs.version_block.VersionBlocks.with_key.Goals as goal

pub returns-then-same_units : goal.returns-then-same_units
returns-then-same_units c =
    let key = key_test _ _ c.args.name.now _ c.as_bytes.ensures.value c.same_units.ensures in
    found c.args.name.now _ _ _ _ _ _ c.in-Some.ensures.steps c.in-Ok.is (sym key ∙ c.if-same_units.true) c.loop-item.invariant

pub loop-item-preserved-else-same_units : goal.loop-item-preserved-else-same_units
loop-item-preserved-else-same_units c =
    let key = key_test _ _ c.args.name.now _ c.as_bytes.ensures.value c.same_units.ensures in
    goes_on c.args.name.now _ _ _ _ _ _ c.in-Some.ensures.steps c.in-Ok.is (sym key ∙ c.if-same_units.false) c.loop-item.invariant

pub loop-item-preserved-then-is_none : goal.loop-item-preserved-then-is_none
loop-item-preserved-then-is_none c =
    refused_first c.args.name.now _ _ _ _ _ _ c.in-Some.ensures.steps c.in-Err.is (c.is_none.ensures ∙ ap not c.if-is_none.true) c.loop-item.invariant

pub loop-item-preserved : goal.loop-item-preserved
loop-item-preserved c =
    refused_again c.args.name.now _ _ _ _ _ _ c.in-Some.ensures.steps c.in-Err.is (c.is_none.ensures ∙ ap not c.if-is_none.false) c.loop-item.invariant

pub returns-in-Some-refusal : goal.returns-in-Some-refusal
returns-in-Some-refusal c = not_found c.args.name.now _ _ _ _ _ c.in-None.ensures.steps c.in-Some-refusal.is c.loop-item.invariant

pub returns-in-None-refusal : goal.returns-in-None-refusal
returns-in-None-refusal c = not_found c.args.name.now _ _ _ _ _ c.in-None.ensures.steps c.in-None-refusal.is c.loop-item.invariant
