use Rattle.std.proofs.Common.{◌≡◌, true}
use Rattle.pe_pdb.specs.Streams.{follow_on, stream_view}
use Rattle.pe_pdb.proofs.stream.Stream.follow_on.Given as goal

abbrev pub invariant-loop-index : goal.invariant-loop-index
invariant-loop-index l = follow_on (stream_view l.self) l.index ≡ true
