use Rattle.std.proofs.Common.{◌∷◌, Ok, arith, sym, ap, ◌∙◌, rules}
use Rattle.pe_pdb.specs.Lines.{subsection_view, subsections}
use Rattle.pe_pdb.proofs.LineWalks.{subsections_more, subsections_none, subsections_refused}
use Rattle.pe_pdb.proofs.line.SubsectionsIterator.next.Goals as goal

pub returns-then-self-clause-steps : goal.returns-then-self-clause-steps
returns-then-self-clause-steps c = search (rules, arith, subsections_none)

pub returns-in-Ok-clause-steps : goal.returns-in-Ok-clause-steps
returns-in-Ok-clause-steps c =
    let b = c.args.self.now.bytes.now in
    subsections_more b c.args.self.now.next (subsection_view c.in-Ok.subsection) (omega arith) c.in-Ok.ensures.value
    ∙ ap (λ n. Ok (subsection_view c.in-Ok.subsection) ∷ subsections b n) (sym c.end-self.ensures.value)

pub returns-in-Err-clause-steps : goal.returns-in-Err-clause-steps
returns-in-Err-clause-steps c = search (rules, arith, subsections_refused, subsections_none)
