use Rattle.std.proofs.Common.{List, Option, Some, Result, Ok, Err, ap, sym, ◌∙◌, subst}
use Rattle.pe_core.specs.declared.error.Error.{Error}
use Rattle.std.proofs.lemmas.Result.{err_from_is_err_and}
use Rattle.pe_unwind.specs.declared.unwind_code.UnwindCode.{UnwindCode}
use Rattle.pe_unwind.specs.CodeStream.{ReturnsCode, stream_of}
use Rattle.pe_frame.specs.Undoing.{ran, undone_all}
use Rattle.pe_frame.proofs.Streams.{next_code, no_refusal, no_code, undone_on}
use Rattle.pe_frame.proofs.record.undo_codes.Goals as goal

pub returns-in-Err : goal.returns-in-Err
returns-in-Err g c codes are =
    let inv = c.loop-item.invariant codes are in
    let steps = subst (λ (r : Result UnwindCode Error). ReturnsCode (stream_of c.loop-item.item-iterator) (Some r) (stream_of c.next.new.self)) c.in-Err.is c.in-Some.ensures.steps in
    absurd (no_refusal _ _ c.in-Err.refusal inv.0 steps inv.1)

pub loop-item-preserved : goal.loop-item-preserved
loop-item-preserved g c codes are =
    let inv = c.loop-item.invariant codes are in
    let steps = subst (λ (r : Result UnwindCode Error). ReturnsCode (stream_of c.loop-item.item-iterator) (Some r) (stream_of c.next.new.self)) c.in-Ok.is c.in-Some.ensures.steps in
    let next = next_code _ _ c.in-Ok.code inv.0 steps inv.1 in (
      next.rest,
      next.are,
      undone_on (g.M.Memory.word c.args.memory.now) c.args.frame.base c.args.frame.limit c.in-Ok.code next.rest inv.0 c.loop-item.registers (Ok c.undo_code.new.registers) (undone_all (g.M.Memory.word c.args.memory.now) c.args.frame.base (ran c.args.frame.limit codes) c.args.registers.now) next.is (sym c.in_ok-undo_code.ensures) inv.2,
    )

pub returns-in_err-undo_code : goal.returns-in_err-undo_code
returns-in_err-undo_code g c codes are =
    let inv = c.loop-item.invariant codes are in
    let steps = subst (λ (r : Result UnwindCode Error). ReturnsCode (stream_of c.loop-item.item-iterator) (Some r) (stream_of c.next.new.self)) c.in-Ok.is c.in-Some.ensures.steps in
    let next = next_code _ _ c.in-Ok.code inv.0 steps inv.1 in
    let p = err_from_is_err_and c.from_residual.result c.from_residual.ensures.1 in
    rw (p.1, p.2) (undone_on (g.M.Memory.word c.args.memory.now) c.args.frame.base c.args.frame.limit c.in-Ok.code next.rest inv.0 c.loop-item.registers (Err c.in_err-undo_code.field-0.0) (undone_all (g.M.Memory.word c.args.memory.now) c.args.frame.base (ran c.args.frame.limit codes) c.args.registers.now) next.is (sym c.in_err-undo_code.ensures) inv.2)

pub returns : goal.returns
returns g c codes are =
    let inv = c.loop-item.invariant codes are in
    let steps = subst (λ (r : Option (Result UnwindCode Error)). ReturnsCode (stream_of c.loop-item.item-iterator) r (stream_of c.next.new.self)) c.in-None.is c.next.ensures.steps in
    let none = no_code _ _ inv.0 steps inv.1 in
    sym (ap (λ (cs : List UnwindCode). undone_all (g.M.Memory.word c.args.memory.now) c.args.frame.base (ran c.args.frame.limit cs) c.loop-item.registers) none) ∙ inv.2
