use Rattle.std.proofs.Common.{◌-◌}
use Rattle.pe_core.specs.Symbols.{row_count}
use Rattle.pe_core.proofs.SymbolNames.{OffsetsRead}
use Rattle.pe_core.proofs.symbol_names.string_offsets.Given as goal

-- the offsets so far, and the entry of the next symbol
abbrev pub invariant-loop-row : goal.invariant-loop-row
invariant-loop-row g l = OffsetsRead l.bytes l.offsets.items l.row

abbrev pub decreases-loop-row : goal.decreases-loop-row
decreases-loop-row g l = row_count l.bytes - l.row
