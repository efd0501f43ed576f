use Rattle.std.proofs.Common.{[], ◌∷◌, Option, Some, Result, Ok, Err, refl, ap, sym, ◌∙◌, subst}
use Rattle.pe_core.specs.declared.error.Error.{Error}
use Rattle.pe_unwind.specs.declared.unwind_code.UnwindCode.{UnwindCode}
use Rattle.pe_unwind.specs.CodeStream.{ReturnsCode, stream_of}
use Rattle.pe_frame.specs.Steps.{known_codes}
use Rattle.pe_frame.proofs.Streams.{all_surveyed, code_before, refusal_alone, none_left, surveyed_code, surveyed_none}
use Rattle.pe_frame.proofs.record.survey_codes.Goals as goal

pub loop-item-preserved : goal.loop-item-preserved
loop-item-preserved c rest are =
    let steps = subst (λ (r : Result UnwindCode Error). ReturnsCode (stream_of c.loop-item.item-iterator) (Some r) (stream_of c.next.new.self)) c.in-Ok.is c.in-Some.ensures.steps in
    let inv = c.loop-item.invariant (Ok c.in-Ok.code ∷ rest) (code_before _ _ c.in-Ok.code rest steps are) in
    let all = ap (λ a. all_surveyed c.args.limit a (known_codes rest)) c.survey_with-survey.ensures in
    (inv.0, inv.1, inv.2 ∙ (surveyed_code c.args.limit c.loop-item.survey c.in-Ok.code rest ∙ sym all))

pub returns-in-Err : goal.returns-in-Err
returns-in-Err c =
    let steps = subst (λ (r : Result UnwindCode Error). ReturnsCode (stream_of c.loop-item.item-iterator) (Some r) (stream_of c.next.new.self)) c.in-Err.is c.in-Some.ensures.steps in
    let inv = c.loop-item.invariant (Err c.in-Err.error ∷ []) (refusal_alone _ _ c.in-Err.error steps) in
    (known_codes inv.0, (inv.0, inv.1, refl), sym inv.2)

pub returns : goal.returns
returns c =
    let steps = subst (λ (r : Option (Result UnwindCode Error)). ReturnsCode (stream_of c.loop-item.item-iterator) r (stream_of c.next.new.self)) c.in-None.is c.next.ensures.steps in
    let inv = c.loop-item.invariant [] (none_left _ _ steps) in
    (known_codes inv.0, (inv.0, inv.1, refl), sym (inv.2 ∙ surveyed_none c.args.limit c.loop-item.survey))
