use Rattle.std.proofs.Common.{◌-◌, ap, sym, ◌∙◌, arith, rules}
use Rattle.pe_frame.specs.Scans.{higher_call}
use Rattle.pe_frame.proofs.Scans.{next_call, no_call_above, no_call_left, none_higher}
use Rattle.pe_frame.proofs.scan.highest_call.Goals as goal

pub returns-then-address-ge-LAST_WORD-clause-value :
    goal.returns-then-address-ge-LAST_WORD-clause-value
returns-then-address-ge-LAST_WORD-clause-value g c =
    sym (none_higher c.loop.highest)
    ∙ ap (higher_call c.loop.highest) (sym (no_call_above (128 - c.loop.counter) (g.M.Memory.word c.args.memory.now) (g.T.CallTargets.targets c.args.targets.now) c.loop.address (omega (arith, c.if-address-ge-LAST_WORD.true))))
    ∙ c.loop.invariant.value

pub loop-preserved : goal.loop-preserved
loop-preserved g c = search (rules, arith, next_call)

pub returns-clause-value : goal.returns-clause-value
returns-clause-value g c = search (rules, arith, none_higher, no_call_left)
