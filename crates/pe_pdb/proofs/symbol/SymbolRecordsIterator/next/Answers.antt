use Rattle.std.proofs.Common.{◌∷◌, Ok, arith, sym, ap, ◌∙◌, rules}
use Rattle.pe_pdb.specs.Symbols.{symbol_view, symbols}
use Rattle.pe_pdb.proofs.RecordWalks.{symbols_more, symbols_none, symbols_refused}
use Rattle.pe_pdb.proofs.symbol.SymbolRecordsIterator.next.Goals as goal

pub returns-then-self-clause-steps : goal.returns-then-self-clause-steps
returns-then-self-clause-steps c = search (rules, arith, symbols_none)

pub returns-in-Ok-clause-steps : goal.returns-in-Ok-clause-steps
returns-in-Ok-clause-steps c =
    let b = c.args.self.now.bytes.now in
    symbols_more b c.args.self.now.next (symbol_view c.in-Ok.record) (omega arith) c.in-Ok.ensures.value
    ∙ ap (λ n. Ok (symbol_view c.in-Ok.record) ∷ symbols b n) (sym c.end-self.ensures)

pub returns-in-Err-clause-steps : goal.returns-in-Err-clause-steps
returns-in-Err-clause-steps c = search (rules, arith, symbols_refused, symbols_none)
