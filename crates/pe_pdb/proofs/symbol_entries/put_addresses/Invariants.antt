use Rattle.std.proofs.Common.{◌≡◌, ◌-◌, ◌≤◌, length}
use Rattle.pe_pdb.specs.SymbolEntries.{rva_by}
use Rattle.pe_pdb.proofs.SymbolEntries.{Gathers, Written}
use Rattle.pe_pdb.proofs.symbol_entries.put_addresses.Given as goal

-- the entries of the records so far
abbrev pub invariant-loop-next : goal.invariant-loop-next
invariant-loop-next l = record {
  gathers : Gathers (rva_by l.class l.sections.bytes.now) l.bytes l.start l.next (Written l.count l.room);
  few : l.count ≤ l.next;
  same : length l.room ≡ length l.fn.room;
}

abbrev pub decreases-loop-next : goal.decreases-loop-next
decreases-loop-next l = length l.bytes - l.next
