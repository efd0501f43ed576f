-- All bytes of a stream of a PDB, put to the start of a room.
use Rattle.std.proofs.Common.{◌≡◌, ℕ, ◌+◌, ◌-◌, ◌∙◌, ap, arith, List, length}
use Rattle.std.specs.Prelude.{◌++◌, take, drop}
use Rattle.std.proofs.lemmas.List.{take_all}
use Rattle.pe_core.specs.Bytes.{range, splice}
use Rattle.pe_pdb.specs.Streams.{StreamView, stream_bytes}
use Rattle.pe_pdb.proofs.StreamBytes.{length_stream}

whole_range : (xs : List ℕ) (n : ℕ) → length xs ≡ n → range xs 0 n ≡ xs
whole_range xs n is =
    let same : 0 + n - 0 ≡ n = omega arith in
    ap (λ (k : ℕ). take k xs) same ∙ take_all n xs (omega (arith, is))

pub whole_put : (s : StreamView) (room : List ℕ) → range (stream_bytes s) 0 s.size ++ drop s.size room ≡ splice room 0 (stream_bytes s)
unfolding splice
whole_put s room =
    let size : length (stream_bytes s) ≡ s.size = length_stream s in
    let same : s.size ≡ 0 + length (stream_bytes s) = omega (arith, size) in
    ap (λ (xs : List ℕ). xs ++ drop s.size room) (whole_range (stream_bytes s) s.size size)
    ∙ ap (λ (n : ℕ). stream_bytes s ++ drop n room) same
