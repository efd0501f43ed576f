use Rattle.std.proofs.Common.{◌+◌, ◌-◌, sym, ◌∙◌, arith}
use Rattle.std.proofs.lemmas.List.{take_rest}
use Rattle.pe_frame.proofs.Tails.{after_step, after_none, after_all}
use Rattle.pe_frame.proofs.epilog.after_pops.Goals as goal

pub loop-preserved : goal.loop-preserved
loop-preserved c =
    rw (take_rest c.loop.rest.now c.in-Some.size)
    (sym (after_step (16 - c.loop.counter) (16 - (c.loop.counter + 1)) c.loop.rest.now (c.in-Some.field-0-0, c.in-Some.size) (omega arith) (sym c.pop_at.ensures.value ∙ c.in-Some.is))
    ∙ c.loop.invariant)

pub returns-in-None : goal.returns-in-None
returns-in-None c = sym (after_none (16 - c.loop.counter) c.loop.rest.now (sym c.pop_at.ensures.value ∙ c.in-None.is)) ∙ c.loop.invariant

pub returns : goal.returns
returns c = sym (after_all (16 - c.loop.counter) c.loop.rest.now (omega arith)) ∙ c.loop.invariant
