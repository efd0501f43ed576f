use Rattle.std.proofs.Common.{◌≡◌, inl, Option, Ok, Err, Some, length-set, refl, sym, subst, ap, ◌∙◌, arith}
use Rattle.calls_unwind.proofs.Cited.{eqb-true, PutsCodes, ReturnsAny, PutCodes, Code}
use Rattle.calls_unwind.proofs.CodeBytes.{any_step, frequent_step}
use Rattle.calls_unwind.proofs.PutCodes.{one_more}
use Rattle.calls_unwind.proofs.lists.x64.put_any.Goals as goal

pub loop-count-preserved-in-Some : goal.loop-count-preserved-in-Some
loop-count-preserved-in-Some c =
    let size = length-set c.loop-count.entries c.loop-count.count c.in-Some.code in
    record {
      has = λ s before h. one_more s c.loop-count.codes (record c.loop-count.codes { left = c.split_at.result.1 }) before c.loop-count.entries c.loop-count.count c.in-Some.code c.loop-count-test.true (c.loop-count.invariant.has s before h)
          (frequent_step c.loop-count.codes (record c.loop-count.codes { left = c.split_at.result.1 }) c.in-Some.code c.in-Some.size c.in-Some.ensures c.split_at.ensures.back refl refl);
      same = size ∙ c.loop-count.invariant.same;
      inside = omega (arith, size, c.loop-count-test.true);
    }

pub returns-then-is_empty : goal.returns-then-is_empty
returns-then-is_empty c = λ s before h.
    subst (λ (p : PutCodes). PutsCodes s before c.loop-count.entries p) (sym c.put_of.ensures) (c.loop-count.invariant.has s before h, inl (eqb-true _ _ (sym c.if-is_empty.ensures)))

pub loop-count-preserved : goal.loop-count-preserved
loop-count-preserved c =
    let size = length-set c.loop-count.entries c.loop-count.count c.in-Some-answer.code in
    let is : c.any_code-given.result.0 ≡ Ok (Some c.in-Some-answer.code) = c.in-Ok.is ∙ ap (λ (o : Option Code). Ok o) c.in-Some-answer.is in
    record {
      has = λ s before h. one_more s c.loop-count.codes (record c.loop-count.codes { left = c.split_at-else-is_empty.result.1 }) before c.loop-count.entries c.loop-count.count c.in-Some-answer.code c.loop-count-test.true (c.loop-count.invariant.has s before h)
          (any_step c.loop-count.codes (record c.loop-count.codes { left = c.split_at-else-is_empty.result.1 }) (Ok (Some c.in-Some-answer.code)) c.any_code-given.result.1 (subst (λ y. ReturnsAny c.loop-count.codes y c.any_code-given.result.1) is c.any_code-given.ensures.code) c.split_at-else-is_empty.ensures.back refl refl);
      same = size ∙ c.loop-count.invariant.same;
      inside = omega (arith, size, c.loop-count-test.true);
    }

pub returns-in-None : goal.returns-in-None
returns-in-None c = grind arith

pub returns-in-Err : goal.returns-in-Err
returns-in-Err c = λ s before h.
    subst (λ (p : PutCodes). PutsCodes s before c.loop-count.entries p) (sym c.put_of-in-Err.ensures) (
      c.loop-count.invariant.has s before h,
      (
        c.loop-count-test.true,
        (
          record c.loop-count.codes { left = c.split_at-else-is_empty.result.1 },
          any_step c.loop-count.codes (record c.loop-count.codes { left = c.split_at-else-is_empty.result.1 }) (Err c.in-Err.error) c.any_code-given.result.1 (subst (λ y. ReturnsAny c.loop-count.codes y c.any_code-given.result.1) c.in-Err.is c.any_code-given.ensures.code) c.split_at-else-is_empty.ensures.back refl refl,
        ),
      ),
    )
