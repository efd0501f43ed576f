use Rattle.std.proofs.Common.{◌≡◌, length}
use Rattle.pe_directories.specs.SectionNames.{number_after}
use Rattle.pe_directories.proofs.section_name.number_of.Given as goal

-- what is left of the digits writes the rest of the number
abbrev pub invariant-loop-first : goal.invariant-loop-first
invariant-loop-first l = number_after l.is_base_64 l.number l.left ≡ number_after l.is_base_64 0 l.digits

-- fewer digits are left
abbrev pub decreases-loop-first : goal.decreases-loop-first
decreases-loop-first l = length l.left
