use Rattle.std.proofs.Common.{◌≡◌, ℕ, ◌≤◌, true, false, leb, length, List, Result, Ok, Err, arith, rules, ap, sym, ◌∙◌}
use Rattle.std.proofs.lemmas.Bool.Decides.{nat_tests}
use Rattle.std.specs.Prelude.{◌==◌}
use Rattle.pe_pdb.specs.Inlinees.{first_inlinee, inlinee_at, inlinee_of, inlinee_row, inlinees}
use Rattle.pe_pdb.specs.Refusals.{PdbRefusal, pdb_kind_of}
use Rattle.pe_pdb.specs.declared.inlinee.InlineeLine.{InlineeLine}
use Rattle.pe_pdb.proofs.Inlinees.{first_end, first_here, first_later, first_refused}
use Rattle.pe_pdb.proofs.inlinee.InlineeLine.find.Goals as goal

whole : (b : List ℕ) (id : ℕ) → 4 ≤ length b → inlinee_of b id ≡ first_inlinee id (inlinees b 4)
whole b id some = let t : leb 4 (length b) ≡ true = grind (arith, nat_tests) in rw t

here : (x row : InlineeLine) (end : ℕ) → x ≡ row → ◌≡◌ {A = Result (InlineeLine × ℕ) PdbRefusal} (Ok (row, end)) (Ok (x, end))
here x row end is = ap (λ (y : InlineeLine). Ok (y, end)) (sym is)

pub returns-in_err-end : goal.returns-in_err-end
returns-in_err-end c =
    let b = c.args.content.now in
    let id : ℕ = c.args.inlinee in
    let same = ap (λ (n : ℕ). inlinee_at (n == 1) b c.loop-next.next) (sym c.read_u32-extended.ensures) in
    let refused : inlinee_of b id ≡ Err (pdb_kind_of c.in_err-end.field-0.0) =
    whole b id (omega (arith, c.in_ok-require_bytes.ensures.inside)) ∙ c.loop-next.invariant ∙ first_refused id b c.loop-next.next (pdb_kind_of c.in_err-end.field-0.0) c.loop-next-test.true (same ∙ c.in_err-end.ensures.value) in
    search rules

pub returns-then-line-inlinee : goal.returns-then-line-inlinee
returns-then-line-inlinee c = search (rules, arith, nat_tests, whole, first_here, here)

pub loop-next-preserved : goal.loop-next-preserved
loop-next-preserved c =
    let b = c.args.content.now in
    let id : ℕ = c.args.inlinee in
    let same = ap (λ (n : ℕ). inlinee_at (n == 1) b c.loop-next.next) (sym c.read_u32-extended.ensures) in
    let other : (c.at-line.result.inlinee == id) ≡ false = grind (arith, nat_tests) in
    c.loop-next.invariant ∙ first_later id b c.loop-next.next c.at-line.result c.in_ok-end.end c.loop-next-test.true (same ∙ c.in_ok-end.ensures.value ∙ here c.at-line.result (inlinee_row b c.loop-next.next) c.in_ok-end.end c.at-line.ensures) other

pub returns : goal.returns
returns c = search (rules, arith, whole, first_end)
