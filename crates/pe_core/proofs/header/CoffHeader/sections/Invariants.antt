use Rattle.std.proofs.Common.{◌≡◌}
use Rattle.pe_core.specs.Records.{section_table}
use Rattle.pe_core.specs.Rows.{rows}
use Rattle.pe_core.proofs.header.CoffHeader.sections.Given as goal

abbrev pub invariant-loop-i : goal.invariant-loop-i
invariant-loop-i g l = l.sections.items ≡ rows (section_table l.bytes) 40 l.offset l.i
