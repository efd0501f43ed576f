use Rattle.std.proofs.Common.{◌∷◌, Ok, arith, rules, sym, ap, ◌∙◌}
use Rattle.pe_pdb.specs.Modules.{module_view, modules}
use Rattle.pe_pdb.proofs.RecordWalks.{modules_later, modules_more, modules_none, modules_refused}
use Rattle.pe_pdb.proofs.module.ModulesIterator.next.Goals as goal

pub returns-then-self-clause-steps : goal.returns-then-self-clause-steps
returns-then-self-clause-steps c = search (rules, arith, modules_none)

pub returns-in-Ok-clause-steps : goal.returns-in-Ok-clause-steps
returns-in-Ok-clause-steps c =
    let b = c.args.self.now.bytes.now in
    modules_more b c.args.self.now.next (module_view c.in-Ok.module) (omega arith) c.in-Ok.ensures.value
    ∙ ap (λ n. Ok (module_view c.in-Ok.module) ∷ modules b n) (sym c.end-self.ensures)

pub returns-in-Ok-clause-goes : goal.returns-in-Ok-clause-goes
returns-in-Ok-clause-goes c =
    let start = modules_later c.args.self.now.bytes.now c.args.self.now.next (module_view c.in-Ok.module) c.in-Ok.ensures.value in
    search rules

pub returns-in-Err-clause-steps : goal.returns-in-Err-clause-steps
returns-in-Err-clause-steps c = search (rules, arith, modules_refused, modules_none)
