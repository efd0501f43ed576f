use Rattle.std.proofs.Common.{◌≡◌, ℕ, List, take, drop, Some, None, subst, sym, ◌∙◌, ap}
use Rattle.std.specs.Prelude.{position, ◌==◌}
use Rattle.pe_core.specs.TextRuns.{IsLastText}
use Rattle.pe_core.proofs.TextRuns.{zero_follows, no_zero_follows}
use Rattle.pe_core.proofs.many_texts.run_from.Goals as goal

pub returns-in-Some-clause-run : goal.returns-in-Some-clause-run
returns-in-Some-clause-run c =
    let bytes : List ℕ = c.args.bytes.now in
    let start : ℕ = c.args.start in
    let n : ℕ = c.in-Some.n in
    let zero_at : position (λ x. x == 0) (drop start bytes) ≡ Some n = ap (position (λ x. x == 0)) (sym c.from_offset-rest.ensures) ∙ (sym c.first_zero.ensures ∙ c.in-Some.is) in
    let last : IsLastText (take n (drop start bytes)) c.last_text.result.now = subst (λ rest. IsLastText (take n rest) c.last_text.result.now) c.from_offset-rest.ensures c.last_text.ensures in
    zero_follows bytes c.last_text.result.now start n zero_at last

pub returns-in-None-clause-run : goal.returns-in-None-clause-run
returns-in-None-clause-run c =
    let bytes : List ℕ = c.args.bytes.now in
    let start : ℕ = c.args.start in
    let no_zero : position (λ x. x == 0) (drop start bytes) ≡ None = ap (position (λ x. x == 0)) (sym c.from_offset-rest.ensures) ∙ (sym c.first_zero.ensures ∙ c.in-None.is) in
    λ offset low high. no_zero_follows bytes start _ no_zero offset low
