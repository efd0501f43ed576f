use Rattle.std.proofs.Common.{◌∷◌, Ok, arith, sym, ap, ◌∙◌, rules}
use Rattle.pe_pdb.specs.Lines.{block_view, blocks}
use Rattle.pe_pdb.proofs.LineWalks.{blocks_more, blocks_none, blocks_refused}
use Rattle.pe_pdb.proofs.line.LineBlocksIterator.next.Goals as goal

pub returns-then-self-clause-steps : goal.returns-then-self-clause-steps
returns-then-self-clause-steps c = search (rules, arith, blocks_none)

pub returns-in-Ok-clause-steps : goal.returns-in-Ok-clause-steps
returns-in-Ok-clause-steps c =
    let b = c.args.self.now.bytes.now in
    blocks_more b c.args.self.now.next (block_view c.in-Ok.block) (omega arith) c.in-Ok.ensures.value
    ∙ ap (λ n. Ok (block_view c.in-Ok.block) ∷ blocks b n) (sym c.end-self.ensures)

pub returns-in-Err-clause-steps : goal.returns-in-Err-clause-steps
returns-in-Err-clause-steps c = search (rules, arith, blocks_refused, blocks_none)
