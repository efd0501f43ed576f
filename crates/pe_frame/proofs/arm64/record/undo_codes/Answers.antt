use Rattle.std.proofs.Common.{sym, ◌∙◌, arith}
use Rattle.pe_frame.proofs.Cited.{take_rest, length-drop, err_from_is_err_and}
use Rattle.pe_frame.proofs.Arm64Calls.{undoing_next, undoing_code, undoing_refused, undoing_never, undoing_none, undoing_nexts}
use Rattle.pe_frame.proofs.arm64.record.undo_codes.Goals as goal

pub returns-in_err-code : goal.returns-in_err-code
returns-in_err-code g c cs are =
    absurd (undoing_never (g.M.Memory.word c.args.memory.now) c.args.codes.now c.loop-code.rest.now c.loop-code.nexts c.loop-code.current c.args.registers _ c.in_err-code.ensures c.loop-code.invariant.undone cs are)

pub loop-code-preserved-then-is_save_next : goal.loop-code-preserved-then-is_save_next
loop-code-preserved-then-is_save_next g c =
    let first = rw c.in-Some.is at c.in_ok-code.ensures in
    rw (take_rest c.loop-code.rest.now c.in-Some.size)
    (record {
      undone = undoing_next (g.M.Memory.word c.args.memory.now) c.args.codes.now c.loop-code.rest.now c.in-Some.code c.in-Some.size c.loop-code.nexts c.loop-code.current c.args.registers first (sym c.is_save_next.ensures ∙ c.if-is_save_next.true) c.loop-code.invariant.undone;
      few = omega (arith, c.loop-code.invariant.few, first.3, first.4, length-drop c.in-Some.size c.loop-code.rest.now);
    })

pub returns-in_err-undo_code : goal.returns-in_err-undo_code
returns-in_err-undo_code g c =
    let first = rw c.in-Some.is at c.in_ok-code.ensures in
    let p = err_from_is_err_and c.from_residual-in_err-undo_code.result c.from_residual-in_err-undo_code.ensures.1 in
    rw (p.1, p.2) (undoing_refused (g.M.Memory.word c.args.memory.now) c.args.codes.now c.loop-code.rest.now c.in-Some.code c.in-Some.size c.loop-code.nexts c.loop-code.current c.args.registers c.in_err-undo_code.field-0.0 first (sym c.is_save_next.ensures ∙ c.if-is_save_next.false) c.in_err-undo_code.ensures c.loop-code.invariant.undone)

pub loop-code-preserved : goal.loop-code-preserved
loop-code-preserved g c =
    let first = rw c.in-Some.is at c.in_ok-code.ensures in
    rw (take_rest c.loop-code.rest.now c.in-Some.size)
    (record {
      undone = undoing_code (g.M.Memory.word c.args.memory.now) c.args.codes.now c.loop-code.rest.now c.in-Some.code c.in-Some.size c.loop-code.nexts c.loop-code.current c.undo_code.new.registers c.args.registers first (sym c.is_save_next.ensures ∙ c.if-is_save_next.false) c.in_ok-undo_code.ensures c.loop-code.invariant.undone;
      few = omega (arith, c.loop-code.invariant.few, first.3, first.4, length-drop c.in-Some.size c.loop-code.rest.now);
    })

pub returns-then-nexts-gt0 : goal.returns-then-nexts-gt0
returns-then-nexts-gt0 g c =
    undoing_nexts (g.M.Memory.word c.args.memory.now) c.args.codes.now c.loop-code.rest.now c.loop-code.nexts c.loop-code.current c.args.registers (rw c.in_default.is at c.in_ok-code.ensures) c.if-nexts-gt0.true c.loop-code.invariant.undone

pub returns : goal.returns
returns g c =
    undoing_none (g.M.Memory.word c.args.memory.now) c.args.codes.now c.loop-code.rest.now c.loop-code.nexts c.loop-code.current c.args.registers (rw c.in_default.is at c.in_ok-code.ensures) (omega (arith, c.if-nexts-gt0.false)) c.loop-code.invariant.undone
