use Rattle.std.proofs.Common.{◌≡◌}
use Rattle.pe_core.specs.Records.{section_table}
use Rattle.pe_core.specs.Rows.{rows}
use Rattle.pe_core.specs.TeImages.{reduced_section}
use Rattle.pe_core.proofs.header.TeHeader.sections.Given as goal

abbrev pub invariant-loop-row : goal.invariant-loop-row
invariant-loop-row g l = l.reduced.items ≡ rows (λ p. reduced_section l.offset (section_table l.bytes p)) 40 40 l.row
