use Rattle.std.proofs.Common.{◌≡◌, ℕ, true, false, Err, arith, rules, ap, sym, ◌∙◌}
use Rattle.std.proofs.lemmas.Bool.Decides.{nat_tests}
use Rattle.std.specs.Prelude.{◌==◌}
use Rattle.pe_pdb.specs.Lines.{first_of_kind, subsection_view, subsections}
use Rattle.pe_pdb.specs.Refusals.{pdb_kind_of}
use Rattle.pe_pdb.proofs.LineWalks.{kind_absent, kind_here, kind_later, kind_refused}
use Rattle.pe_pdb.proofs.line.Subsection.find.Goals as goal

pub returns-in_err-subsection-clause-value : goal.returns-in_err-subsection-clause-value
returns-in_err-subsection-clause-value c =
    let refused : first_of_kind c.args.kind (subsections c.args.bytes.now 0) ≡ Err (pdb_kind_of c.in_err-subsection.field-0.0) =
    c.loop-next.invariant ∙ kind_refused c.args.kind c.args.bytes.now c.loop-next.next _ c.loop-next-test.true c.in_err-subsection.ensures.value in
    search rules

pub returns-then-subsection-kind-clause-value : goal.returns-then-subsection-kind-clause-value
returns-then-subsection-kind-clause-value c =
    let own : (c.in_ok-subsection.subsection.kind == c.args.kind) ≡ true = grind (arith, nat_tests) in
    c.loop-next.invariant ∙ kind_here c.args.kind c.args.bytes.now c.loop-next.next (subsection_view c.in_ok-subsection.subsection) c.loop-next-test.true c.in_ok-subsection.ensures.value own

pub loop-next-preserved : goal.loop-next-preserved
loop-next-preserved c =
    let other : (c.in_ok-subsection.subsection.kind == c.args.kind) ≡ false = grind (arith, nat_tests) in
    c.loop-next.invariant ∙ kind_later c.args.kind c.args.bytes.now c.loop-next.next (subsection_view c.in_ok-subsection.subsection) c.loop-next-test.true c.in_ok-subsection.ensures.value other
    ∙ ap (λ (n : ℕ). first_of_kind c.args.kind (subsections c.args.bytes.now n)) (sym c.end-next.ensures.value)

pub returns-clause-value : goal.returns-clause-value
returns-clause-value c = c.loop-next.invariant ∙ kind_absent c.args.kind c.args.bytes.now c.loop-next.next (omega arith)
