use Rattle.std.proofs.Common.{◌≡◌, ◌-◌, length}
use Rattle.pe_pdb.specs.Frames.{address_before}
use Rattle.pe_pdb.specs.SymbolEntries.{rva_by}
use Rattle.pe_pdb.proofs.SymbolEntries.{Gathers}
use Rattle.pe_pdb.proofs.symbol_scan.find_symbol.Given as goal

-- what is found in the entries of the records so far
abbrev pub invariant-loop-next : goal.invariant-loop-next
invariant-loop-next l = Gathers (rva_by l.class l.sections.bytes.now) l.bytes l.start l.next (λ xs. l.found ≡ address_before l.rva xs)

abbrev pub decreases-loop-next : goal.decreases-loop-next
decreases-loop-next l = length l.bytes - l.next
