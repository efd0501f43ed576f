use Rattle.std.proofs.Common.{◌-◌, ◌/◌, length}
use Rattle.pe_directories.proofs.RichHeaders.{WordsLeft}
use Rattle.pe_directories.proofs.rich_header.RichHeader.find.Given as goal

-- no header starts at a word from this one on
abbrev pub invariant-loop-left : goal.invariant-loop-left
invariant-loop-left l = WordsLeft l.bytes (length l.bytes / 4 - 1) l.left l.next

abbrev pub decreases-loop-left : goal.decreases-loop-left
decreases-loop-left l = l.left
