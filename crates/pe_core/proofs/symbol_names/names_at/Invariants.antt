use Rattle.std.proofs.Common.{map}
use Rattle.pe_core.proofs.SymbolNames.{NamesRead}
use Rattle.pe_core.proofs.symbol_names.names_at.Given as goal

-- the names so far, and the entry of the next symbol
abbrev pub invariant-loop-i : goal.invariant-loop-i
invariant-loop-i g l = NamesRead l.bytes l.strings.bytes.now l.i l.row (map (λ s. s.now) l.names.items)
