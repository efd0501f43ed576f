use Rattle.std.proofs.Common.{rules, arith}
use Rattle.pe_core.proofs.AsciiTexts.{ascii_text-IsUtf8, ascii_text-is}
use Rattle.pe_pdb.proofs.record_text.record_text.Goals as goal

pub from_utf8_unchecked-requires : goal.from_utf8_unchecked-requires
from_utf8_unchecked-requires c = ascii_text-IsUtf8 c.args.content.now c.args.offset c.in-Some.end c.in-Some.ensures

pub returns-in-Some : goal.returns-in-Some
returns-in-Some c = search (rules, arith, ascii_text-is)
