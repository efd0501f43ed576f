use Rattle.std.proofs.Common.{◌≡◌, Ok, drop, length}
use Rattle.pe_pdb.specs.Ids.{AreStarts, start_of}
use Rattle.pe_pdb.proofs.ids.TypeRecords.put_starts.Given as goal

-- the starts of the records before this one are written
abbrev pub invariant-loop-index : goal.invariant-loop-index
invariant-loop-index l = record {
  at : start_of l.self.records.now l.index ≡ Ok l.next;
  starts : AreStarts l.self.records.now l.room l.index;
  same : length l.room ≡ length l.fn.room;
  rest : drop l.index l.room ≡ drop l.index l.fn.room;
}
