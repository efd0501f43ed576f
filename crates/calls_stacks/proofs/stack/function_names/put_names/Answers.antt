use Rattle.std.proofs.Common.{length, length-set, ◌∙◌, arith}
use Rattle.std.proofs.lemmas.List.{drop-set-lt}
use Rattle.calls_base.proofs.NamesPut.{one_more}
use Rattle.calls_stacks.proofs.stack.function_names.put_names.Goals as goal
use Rattle.calls_stacks.specs.FunctionNames.{NamesAddress}

pub loop-i-preserved : goal.loop-i-preserved
loop-i-preserved c =
    let size = length-set c.loop-i.names c.loop-i.i c.name_at.result in
    let here = c.loop-i-test.true in
    record {
      names = one_more (NamesAddress c.args.view.now c.args.sources.now) c.args.addresses.now c.loop-i.names c.loop-i.i _ c.name_at.result (omega (arith, here)) (omega (arith, here, c.requires.names, c.loop-i.invariant.same)) c.loop-i.invariant.names c.name_at.ensures;
      same = size ∙ c.loop-i.invariant.same;
      rest = drop-set-lt (length c.args.addresses.now) c.loop-i.names c.loop-i.i c.name_at.result (omega (arith, here)) ∙ c.loop-i.invariant.rest;
    }
