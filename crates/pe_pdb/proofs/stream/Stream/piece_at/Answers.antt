use Rattle.std.proofs.Common.{◌≡◌, ℕ, ◌+◌, ◌-◌, ◌*◌, ◌%◌, ◌<◌, min, ap, ◌∙◌, arith}
use Rattle.std.proofs.lemmas.Nat.{mod_below}
use Rattle.pe_core.specs.Bytes.{range}
use Rattle.pe_pdb.specs.Streams.{stream_bytes, stream_view}
use Rattle.pe_pdb.proofs.Blocks.{block_counted}
use Rattle.pe_pdb.proofs.StreamBytes.{piece}
use Rattle.pe_pdb.proofs.stream.Stream.piece_at.Goals as goal

pub block_start-requires : goal.block_start-requires
block_start-requires c =
    let some = c.args.self.now.msf.map.has_words in
    block_counted c.args.self.now.size (4 * c.args.self.now.msf.map.words) c.args.offset (omega (arith, some)) (omega arith)

pub returns-clause-bytes : goal.returns-clause-bytes
returns-clause-bytes c =
    let s = stream_view c.args.self.now in
    let w = 4 * c.args.self.now.msf.map.words in
    let o = c.args.offset in
    let n = c.min-length.result in
    let has = c.args.self.now.msf.map.has_words in
    let some : 0 < w = omega (arith, has) in
    let low : o % w < w = mod_below o w some in
    let is : n ≡ min (w - o % w) (c.args.self.now.size - o) = c.min-length.ensures in
    let start = c.block_start.ensures.value in
    let inside = c.block_start.ensures.inside in
    let same = piece s o n some (grind arith) (grind arith) (grind arith) in
    ap (λ (q : ℕ). range s.msf.bytes (q + o % w) n) start ∙ same ∙ ap (λ (k : ℕ). range (stream_bytes s) o k) is
