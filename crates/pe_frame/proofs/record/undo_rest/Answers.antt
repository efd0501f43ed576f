use Rattle.std.proofs.Common.{[], ◌∷◌, Option, Some, Result, Ok, Err, refl, sym, ◌∙◌, subst}
use Rattle.pe_core.specs.declared.error.Error.{Error}
use Rattle.pe_unwind.specs.declared.unwind_code.UnwindCode.{UnwindCode}
use Rattle.pe_unwind.specs.CodeStream.{ReturnsCode, stream_of}
use Rattle.pe_frame.specs.InPlace.{changed}
use Rattle.pe_frame.specs.Steps.{known_codes}
use Rattle.pe_frame.proofs.Streams.{code_before, none_left, refusal_alone, undone_more, undone_none}
use Rattle.pe_frame.proofs.record.undo_rest.Goals as goal

pub loop-item-preserved : goal.loop-item-preserved
loop-item-preserved g c rest are =
    let steps = subst (λ (r : Result UnwindCode Error). ReturnsCode (stream_of c.loop-item.item-iterator) (Some r) (stream_of c.next.new.self)) c.in-Ok.is c.in-Some.ensures.steps in
    let inv = c.loop-item.invariant (Ok c.in-Ok.code ∷ rest) (code_before _ _ c.in-Ok.code rest steps are) in (
      inv.0,
      inv.1,
      inv.2
          ∙ undone_more (g.M.Memory.word c.args.memory.now) c.args.frame.base c.args.frame.limit c.loop-item.survey c.survey_with-survey.result (changed c.loop-item.left c.loop-item.registers)
          (changed c.undo_next-left.result c.undo_next-left.new.registers) c.in-Ok.code rest c.survey_with-survey.ensures c.undo_next-left.ensures,
    )

pub returns-in-Err : goal.returns-in-Err
returns-in-Err g c h first =
    let steps = subst (λ (r : Result UnwindCode Error). ReturnsCode (stream_of c.loop-item.item-iterator) (Some r) (stream_of c.next.new.self)) c.in-Err.is c.in-Some.ensures.steps in
    let inv = c.loop-item.invariant (Err c.in-Err.error ∷ []) (refusal_alone _ _ c.in-Err.error steps) in
    let all = first inv.0 inv.1 in
    (known_codes all.0, (all.0, all.1, refl), sym (all.2 ∙ inv.2))

pub returns : goal.returns
returns g c h first =
    let steps = subst (λ (r : Option (Result UnwindCode Error)). ReturnsCode (stream_of c.loop-item.item-iterator) r (stream_of c.next.new.self)) c.in-None.is c.next.ensures.steps in
    let inv = c.loop-item.invariant [] (none_left _ _ steps) in
    let all = first inv.0 inv.1 in
    (known_codes all.0, (all.0, all.1, refl), sym (all.2 ∙ inv.2 ∙ undone_none (g.M.Memory.word c.args.memory.now) c.args.frame.base c.args.frame.limit c.loop-item.survey (changed c.loop-item.left c.loop-item.registers)))
