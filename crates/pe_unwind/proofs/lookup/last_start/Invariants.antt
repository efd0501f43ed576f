use Rattle.std.proofs.Common.{◌≡◌, ◌+◌, ◌-◌, ◌≤◌, length}
use Rattle.pe_core.specs.Rows.{whole_entries}
use Rattle.pe_unwind.specs.Lookup.{digits}
use Rattle.pe_unwind.proofs.Searches.{SearchesAt}
use Rattle.pe_unwind.proofs.lookup.last_start.Given as goal

abbrev pub invariant-loop-low : goal.invariant-loop-low
invariant-loop-low g l = record {
  kept : l.table.content ≡ l.fn.table.content;
  searches : SearchesAt g.E.FunctionEntry.start_of (whole_entries g.E.TableEntry.entry_at g.E.TableEntry.SIZE l.fn.table.content) l.rva l.low l.high l.found;
  counted : l.fn.table.count ≤ l.table.count;
  cost : l.table.count + digits (l.high - l.low) ≤ l.fn.table.count + digits (length (whole_entries g.E.TableEntry.entry_at g.E.TableEntry.SIZE l.fn.table.content));
}

abbrev pub decreases-loop-low : goal.decreases-loop-low
decreases-loop-low g l = l.high - l.low
