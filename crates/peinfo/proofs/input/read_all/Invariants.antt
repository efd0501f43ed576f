use Rattle.std.proofs.Common.{◌≤◌}
use Rattle.peinfo.proofs.Reading.{IsPartRead}
use Rattle.peinfo.proofs.input.read_all.Given as goal

abbrev pub invariant-loop : goal.invariant-loop
invariant-loop g l = record {
  part : IsPartRead (g.R.Read.remaining l.fn.reader) (g.R.Read.remaining l.reader) l.bytes.items l.filled;
  counted : l.counter ≤ l.filled;
}
