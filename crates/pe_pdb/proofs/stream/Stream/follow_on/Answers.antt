use Rattle.std.proofs.Common.{sym, arith}
use Rattle.std.proofs.lemmas.Bool.Decides.{nat_tests}
use Rattle.pe_pdb.specs.Streams.{stream_view}
use Rattle.pe_pdb.proofs.StreamBytes.{follow_fails, follow_next, follow_none}
use Rattle.pe_pdb.proofs.stream.Stream.follow_on.Goals as goal

pub loop-index-init : goal.loop-index-init
loop-index-init c = follow_none (stream_view c.args.self.now)

pub loop-index-preserved : goal.loop-index-preserved
loop-index-preserved c = follow_next (stream_view c.args.self.now) c.loop-index.index c.loop-index.invariant (grind arith)

pub returns-then-block-from : goal.returns-then-block-from
returns-then-block-from c = sym (follow_fails (stream_view c.args.self.now) c.loop-index.index c.args.count (omega arith) (grind (arith, nat_tests)))
