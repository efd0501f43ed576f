use Rattle.std.proofs.Common.{◌-◌, Ok, Err, sym, ◌∙◌, arith, rules}
use Rattle.pe_frame.proofs.Cited.{err_from_is_err_and, context_offset, context_register}
use Rattle.pe_frame.proofs.Arm64Entries.{loaded_as, stores_more, stores_none}
use Rattle.pe_frame.proofs.arm64.entry.load_registers.Goals as goal

pub loop-count-preserved : goal.loop-count-preserved
loop-count-preserved g c =
    let m = g.M.Memory.word c.args.memory.now in
    let k = c.loop-count.count - 1 in
    record {
      loads = sym (stores_more m c.loop-count.count k c.loop-count.registers (Ok c.load.new.registers) (omega (arith, c.loop-count-test.true))
          (loaded_as m c.context_register.result (context_register k) c.context_offset.result (context_offset k) c.loop-count.registers (Ok c.load.new.registers) c.context_register.ensures c.context_offset.ensures c.in_ok-load.ensures))
          ∙ c.loop-count.invariant.loads;
      few = omega (arith, c.loop-count.invariant.few);
    }

pub returns-in_err-load : goal.returns-in_err-load
returns-in_err-load g c =
    let m = g.M.Memory.word c.args.memory.now in
    let k = c.loop-count.count - 1 in
    let p = err_from_is_err_and c.from_residual.result c.from_residual.ensures.1 in
    rw (p.1, p.2) (sym (stores_more m c.loop-count.count k c.loop-count.registers (Err c.in_err-load.field-0.0) (omega (arith, c.loop-count-test.true))
    (loaded_as m c.context_register.result (context_register k) c.context_offset.result (context_offset k) c.loop-count.registers (Err c.in_err-load.field-0.0) c.context_register.ensures c.context_offset.ensures c.in_err-load.ensures))
    ∙ c.loop-count.invariant.loads)

pub returns : goal.returns
returns g c = search (rules, arith, stores_none)
