use Rattle.std.proofs.Common.{◌≡◌, ℕ, ◌++◌, List, length, true, leb, Ok, arith, rules, ap, ◌∙◌}
use Rattle.pe_c.proofs.Cited.{nat_tests, drop, range, splice, stream_numbered}
use Rattle.pe_pdb.specs.Streams.{stream_bytes, stream_view}
use Rattle.pe_pdb.proofs.StreamBytes.{length_stream}
use Rattle.calls_pdb.proofs.PdbStreams.{whole_put}
use Rattle.pe_c.proofs.pdb.pe_c_pdb_stream.Goals as goal

pub returns-in-Ok-read_at : goal.returns-in-Ok-read_at
returns-in-Ok-read_at c =
    let s = stream_view c.in-Ok.stream in
    let room = c.args.room.now in
    let file : stream_numbered c.args.bytes.now c.args.starts.now c.args.index ≡ Ok (stream_bytes s) = rw c.in-Ok.ensures in
    let size : length (stream_bytes s) ≡ s.size = length_stream s in
    let len : length c.split_at_mut.result.0.now ≡ s.size = c.split_at_mut.ensures.front_len ∙ c.len-length.ensures ∙ size in
    let new : c.read_at.new.room ≡ range (stream_bytes s) 0 s.size = c.in-Ok-read_at.ensures.1 ∙ ap (λ (n : ℕ). range (stream_bytes s) 0 n) len in
    let back : c.split_at_mut.result.1.now ≡ drop s.size room = c.split_at_mut.ensures.back ∙ ap (λ (n : ℕ). drop n room) (c.len-length.ensures ∙ size) in
    let put : (c.read_at.new.room ++ c.split_at_mut.result.1.now) ≡ splice room 0 (stream_bytes s) =
    ap (λ (xs : List ℕ). xs ++ c.split_at_mut.result.1.now) new ∙ ap (λ (xs : List ℕ). range (stream_bytes s) 0 s.size ++ xs) back ∙ whole_put s room in
    let fits : leb (length (stream_bytes s)) (length room) ≡ true = grind (arith, nat_tests) in
    search rules
