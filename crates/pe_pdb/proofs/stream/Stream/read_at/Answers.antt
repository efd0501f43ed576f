use Rattle.std.proofs.Common.{◌≡◌, ◌+◌, ◌≤◌, length, arith, rules}
use Rattle.pe_pdb.specs.Streams.{stream_bytes, stream_view}
use Rattle.pe_pdb.proofs.StreamBytes.{copied, copied_more, length_stream}
use Rattle.pe_pdb.proofs.stream.Stream.read_at.Goals as goal

pub loop-done-preserved : goal.loop-done-preserved
loop-done-preserved c = search (rules, arith, length_stream, copied_more)

pub returns : goal.returns
returns c =
    let s = stream_view c.args.self.now in
    let inside : c.args.offset + length c.args.room.now ≤ c.args.self.now.size = omega arith in
    let size : length (stream_bytes s) ≡ c.args.self.now.size = length_stream s in
    (inside, copied (stream_bytes s) c.loop-done.room c.args.offset (length c.args.room.now) c.loop-done.auto.room (omega (arith, inside, size)) (λ k lt. c.loop-done.invariant.1 k (omega arith)))
