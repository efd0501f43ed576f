use Rattle.std.proofs.Common.{◌+◌, ◌-◌, Ok, Err, sym, ◌∙◌, arith, rules}
use Rattle.pe_frame.proofs.Cited.{take_rest, err_from_is_err_and}
use Rattle.pe_frame.proofs.Tails.{pops_step, pops_none, pops_all}
use Rattle.pe_frame.proofs.epilog.execute_pops.Goals as goal

pub loop-preserved : goal.loop-preserved
loop-preserved g c =
    rw (take_rest c.loop.rest.now c.in-Some.size)
    (sym (pops_step (g.M.Memory.word c.args.memory.now) (16 - c.loop.counter) (16 - (c.loop.counter + 1)) c.loop.rest.now (c.in-Some.register, c.in-Some.size) c.loop.registers (Ok c.execute.new.registers)
    (omega arith) (sym c.pop_at.ensures.value ∙ c.in-Some.is) (sym c.in_ok-execute-in-Some.ensures))
    ∙ c.loop.invariant)

pub returns-in_err-execute-in-Some : goal.returns-in_err-execute-in-Some
returns-in_err-execute-in-Some g c =
    let p = err_from_is_err_and c.from_residual.result c.from_residual.ensures.1 in
    rw (p.1, p.2) (sym (pops_step (g.M.Memory.word c.args.memory.now) (16 - c.loop.counter) (16 - (c.loop.counter + 1)) c.loop.rest.now (c.in-Some.register, c.in-Some.size) c.loop.registers (Err c.in_err-execute-in-Some.field-0.0)
    (omega arith) (sym c.pop_at.ensures.value ∙ c.in-Some.is) (sym c.in_err-execute-in-Some.ensures))
    ∙ c.loop.invariant)

pub returns-in-None : goal.returns-in-None
returns-in-None g c = search (rules, arith, pops_none)

pub returns : goal.returns
returns g c = sym (pops_all (g.M.Memory.word c.args.memory.now) (16 - c.loop.counter) c.loop.rest.now c.loop.registers (omega arith)) ∙ c.loop.invariant
