use Rattle.std.proofs.Common.{ℕ, ◌<◌, List, length, drop, subst, sym, arith}
use Rattle.std.specs.Str.{IsValidUpTo, valid_up_to}
use Rattle.std.proofs.lemmas.List.{length-drop, take_rest}
use Rattle.pe_core.proofs.TextEnds.{more_refused}
use Rattle.pe_core.proofs.many_texts.last_text.Goals as goal

pub loop-text-preserved : goal.loop-text-preserved
loop-text-preserved c =
    let bytes : List ℕ = c.args.bytes.now in
    let begin : ℕ = c.loop-text.begin in
    let found : IsValidUpTo (drop begin bytes) (valid_up_to c.in-Err.error) = subst (λ rest. IsValidUpTo rest (valid_up_to c.in-Err.error)) (take_rest bytes begin) (c.in-Err.ensures.cases.1) in
    let valid : IsValidUpTo (drop begin bytes) c.valid_up_to.result = subst (IsValidUpTo (drop begin bytes)) (sym c.valid_up_to.ensures) found in
    let short : c.valid_up_to.result < length (drop begin bytes) = valid.short in
    record {
      within = omega (arith, length-drop begin bytes);
      refused = more_refused bytes begin c.valid_up_to.result c.loop-text.invariant.within valid c.loop-text.invariant.refused;
    }
