use Rattle.std.proofs.Common.{◌≡◌, length}
use Rattle.peinfo.specs.Output.{writer_of, failures_of}
use Rattle.peinfo.proofs.Writing.{IsPartWritten}
use Rattle.peinfo.proofs.counted_out.put_all.Given as goal

abbrev pub invariant-loop-rest : goal.invariant-loop-rest
invariant-loop-rest g l = record {
  part : IsPartWritten (g.W.Write.contents (writer_of l.fn.out)) (g.W.Write.contents (writer_of l.out)) l.fn.text l.rest;
  same : failures_of l.out ≡ failures_of l.fn.out;
}

abbrev pub decreases-loop-rest : goal.decreases-loop-rest
decreases-loop-rest g l = length l.rest
