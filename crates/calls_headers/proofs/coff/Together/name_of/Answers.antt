use Rattle.calls_headers.proofs.SymbolTexts.{ascii_found}
use Rattle.calls_headers.proofs.coff.Together.name_of.Goals as goal

pub returns-in-Some : goal.returns-in-Some
returns-in-Some c =
    ascii_found c.args.table.now c.args.self.now.strings c.args.index c.args.symbol.now _ c.args.self.now.texts.bytes.now c.in-Some.range c.if-symbol-eq0.false c.requires.symbol c.in-Some.ensures.length c.in-Some.ensures.offset
