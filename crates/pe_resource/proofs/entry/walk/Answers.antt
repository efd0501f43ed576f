use Rattle.std.proofs.Common.{sym, ◌∙◌, arith}
use Rattle.pe_resource.proofs.Cited.{err_from_is_err_and, kind_of}
use Rattle.pe_resource.proofs.Walks.{walks_refusal, no_memory_answer, decides_last, decides_failing, comes_again, keeps_saved, moves_saved, too_long, passes_next}
use Rattle.pe_resource.proofs.entry.walk.Goals as goal
use Rattle.pe_resource.proofs.entry.walk.Goals.{then-steps-power, else-steps-power}

pub returns-in_err-entry-clause-walks : goal.returns-in_err-entry-clause-walks
returns-in_err-entry-clause-walks g c = λ p steady.
    let q = err_from_is_err_and c.from_residual.result c.from_residual.ensures.1 in
    rw (q.1, q.2) (walks_refusal _ _ _ _ _ _ (kind_of c.in_err-entry.field-0.0) (c.loop-steps.invariant.1 p steady) c.in_err-entry.ensures)

pub returns-in_default-clause-walks : goal.returns-in_default-clause-walks
returns-in_default-clause-walks g c = λ p steady.
    decides_last _ _ _ _ _ _ (c.loop-steps.invariant.1 p steady) (rw c.in_default.is at c.in_ok-entry.ensures)

pub returns-then-not-is_passed-clause-walks : goal.returns-then-not-is_passed-clause-walks
returns-then-not-is_passed-clause-walks g c = λ p steady.
    decides_failing _ _ _ _ _ _ _ (c.loop-steps.invariant.1 p steady) (rw c.in-Some.is at c.in_ok-entry.ensures)
    (sym (steady _ _ c.is_passed.ensures) ∙ c.if-not-is_passed.true)

pub returns-then-offset-saved-clause-walks : goal.returns-then-offset-saved-clause-walks
returns-then-offset-saved-clause-walks g c = λ p steady.
    comes_again _ _ _ _ _ _ _ (c.loop-steps.invariant.1 p steady)
    (passes_next _ p c.loop-steps.current c.in-Some.entry (rw c.in-Some.is at c.in_ok-entry.ensures) (sym (steady _ _ c.is_passed.ensures) ∙ c.if-not-is_passed.false))
    (sym c.offset_to_directory-offset.ensures ∙ c.if-offset-saved.true)

pub loop-steps-preserved : goal.loop-steps-preserved
loop-steps-preserved g c = (
  c.loop-steps.invariant.0,
  λ p steady.
      let next = passes_next _ p c.loop-steps.current c.in-Some.entry (rw c.in-Some.is at c.in_ok-entry.ensures) (sym (steady _ _ c.is_passed.ensures) ∙ c.if-not-is_passed.false) in
      elim c.if-steps-power.branch [
        | then-steps-power w ↦ moves_saved _ _ _ _ _ _ _ _ (c.loop-steps.invariant.1 p steady) next (w.saved-is ∙ c.offset_to_directory-offset.ensures)
        | else-steps-power w ↦ keeps_saved _ _ _ _ _ _ _ _ (c.loop-steps.invariant.1 p steady) next w.saved-is
      ],
)

pub returns-clause-walks : goal.returns-clause-walks
returns-clause-walks g c = λ p steady. too_long _ _ _ _ _ _ (c.loop-steps.invariant.1 p steady) (omega arith)

pub returns-in_err-entry-clause-no_memory : goal.returns-in_err-entry-clause-no_memory
returns-in_err-entry-clause-no_memory g c =
    let q = err_from_is_err_and c.from_residual.result c.from_residual.ensures.1 in
    rw (q.1, q.2) (no_memory_answer _ c.loop-steps.current (kind_of c.in_err-entry.field-0.0) c.in_err-entry.ensures)
