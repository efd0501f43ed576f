use Rattle.std.proofs.Common.{Some, ap, sym, ◌∙◌, List, ℕ}
use Rattle.pe_core.proofs.AsciiTexts.{ascii_text-IsUtf8, ascii_text-is}
use Rattle.pe_core.proofs.text.ascii_text_at.Goals as goal

pub from_utf8_unchecked-requires : goal.from_utf8_unchecked-requires
from_utf8_unchecked-requires c = ascii_text-IsUtf8 c.args.bytes.now c.args.offset c.in_ok-end.end c.in_ok-end.ensures

pub returns : goal.returns
returns c =
    ascii_text-is c.args.bytes.now c.args.offset c.in_ok-end.end c.in_ok-end.ensures
    ∙ ap (λ (text : List ℕ). Some text) (sym c.from_utf8_unchecked.ensures)
