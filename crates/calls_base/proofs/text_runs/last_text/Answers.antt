use Rattle.std.proofs.Common.{ℕ, ◌<◌, List, length, drop, subst, sym, arith}
use Rattle.calls_base.proofs.Cited.{IsUtf8, IsValidUpTo, valid_up_to, is_utf8-from_IsUtf8, length-drop, take_rest}
use Rattle.pe_core.proofs.TextEnds.{more_refused}
use Rattle.calls_base.proofs.text_runs.last_text.Goals as goal

pub loop-error-preserved : goal.loop-error-preserved
loop-error-preserved c =
    let bytes : List ℕ = c.args.bytes.now in
    let begin : ℕ = c.loop-error.begin in
    let found : IsValidUpTo (drop begin bytes) (valid_up_to c.in-Err.error) = subst (λ rest. IsValidUpTo rest (valid_up_to c.in-Err.error)) (take_rest bytes begin) (c.in-Err.ensures.cases.1) in
    let valid : IsValidUpTo (drop begin bytes) c.valid_up_to.result = subst (IsValidUpTo (drop begin bytes)) (sym c.valid_up_to.ensures) found in
    let short : c.valid_up_to.result < length (drop begin bytes) = valid.short in
    record {
      within = omega (arith, length-drop begin bytes);
      refused = more_refused bytes begin c.valid_up_to.result c.loop-error.invariant.within valid c.loop-error.invariant.refused;
    }

pub returns-in-Ok-clause-text : goal.returns-in-Ok-clause-text
returns-in-Ok-clause-text c = is_utf8-from_IsUtf8 (drop c.loop-error.begin c.args.bytes.now) (subst IsUtf8 (take_rest c.args.bytes.now c.loop-error.begin) c.in-Ok.ensures.cases.1)
