use Rattle.std.proofs.Common.{rules}
use Rattle.pe_directories.proofs.WordsLeft.{base_tested}
use Rattle.pe_directories.proofs.relocating.check_base.Goals as goal

pub returns-in_ok-word_of : goal.returns-in_ok-word_of
returns-in_ok-word_of c = base_tested c.args.size c.args.base c.in-Some.relocation c.in_ok-word_of.field-0 (search rules) (search rules)
