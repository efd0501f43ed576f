-- Streams whose blocks follow one another.
use Rattle.std.proofs.Common.{◌≡◌, ℕ, ◌+◌, ◌-◌, ◌*◌, ◌/◌, ◌<◌, ◌≤◌, ◌==◌, Bool, true, false, cond, Some, ap, sym, ◌∙◌, arith, length, get_or}
use Rattle.std.specs.Int.{div_ceil}
use Rattle.std.proofs.lemmas.Bool.Decides.{nat_tests}
use Rattle.std.proofs.lemmas.List.{places, same_lists}
use Rattle.std.proofs.lemmas.Nat.{div-add-mod'}
use Rattle.pe_core.specs.Bytes.{range}
use Rattle.pe_core.specs.Offsets.{bytes_in}
use Rattle.pe_core.specs.declared.byte_range.ByteRange.{ByteRange}
use Rattle.pe_core.proofs.Ranges.{byte_of_range, length_range}
use Rattle.pe_pdb.specs.Msf.{word_of}
use Rattle.pe_pdb.specs.Streams.{HasBlocks, StreamView, block_start, contiguous_of, follow_on, place_of, stream_bytes}
use Rattle.pe_pdb.proofs.Blocks.{block_counted}
use Rattle.pe_pdb.proofs.StreamBytes.{byte_of_stream, follow_each, length_stream, place_inside}

-- a byte stands as far after the start as in the stream
at_offset : (s : StreamView) (o : ℕ) → word_of s.msf (s.first + o / (4 * s.msf.words)) ≡ word_of s.msf s.first + o / (4 * s.msf.words) → place_of s o ≡ 4 * s.msf.words * word_of s.msf s.first + o
at_offset s o e = grind (arith, div-add-mod')

-- the range of the file from the first block on
range_of : (s : StreamView) → 0 < s.msf.words → HasBlocks s → follow_on s (div_ceil s.size (4 * s.msf.words)) ≡ true → 0 < s.size → range s.msf.bytes (4 * s.msf.words * word_of s.msf s.first) s.size ≡ stream_bytes s
range_of s words has follow some =
    let w = 4 * s.msf.words in
    let start = w * word_of s.msf s.first in
    let wide : 0 < w = omega (arith, words) in
    let at : (o : ℕ) → o < s.size → place_of s o ≡ start + o = (λ o lt. at_offset s o (follow_each s (div_ceil s.size w) follow (o / w) (block_counted s.size w o wide lt))) in
    let last : s.size - 1 < s.size = omega (arith, some) in
    let inside : place_of s (s.size - 1) < length s.msf.bytes = place_inside s words has (s.size - 1) last in
    let end : start + s.size ≤ length s.msf.bytes = (let here = at (s.size - 1) last in omega (arith, here, inside, some)) in
    let one : length (range s.msf.bytes start s.size) ≡ s.size = length_range s.msf.bytes start s.size end in
    let size : length (stream_bytes s) ≡ s.size = length_stream s in
    same_lists _ _ (one ∙ sym size) (λ j d lt.
    let low : j < s.size = omega (arith, lt, one) in
    let left : get_or s.msf.bytes (start + j) 0 ≡ get_or (range s.msf.bytes start s.size) j 0 = byte_of_range s.msf.bytes start s.size j low in
    let right : get_or (stream_bytes s) j 0 ≡ get_or s.msf.bytes (place_of s j) 0 = byte_of_stream s j low in
    let moved : get_or s.msf.bytes (place_of s j) 0 ≡ get_or s.msf.bytes (start + j) 0 = ap (λ (p : ℕ). get_or s.msf.bytes p 0) (at j low) in
    let same : get_or (range s.msf.bytes start s.size) j 0 ≡ get_or (stream_bytes s) j 0 = sym left ∙ sym moved ∙ sym right in
    grind (arith, places))

-- the same, by whether the stream has bytes
range_if : (s : StreamView) (none : Bool) → (s.size == 0) ≡ none → 0 < s.msf.words → HasBlocks s → follow_on s (div_ceil s.size (4 * s.msf.words)) ≡ true → range s.msf.bytes (cond none 0 (block_start s 0)) s.size ≡ stream_bytes s
range_if s true is words has follow = grind (arith, nat_tests, length_range, length_stream, same_lists)
range_if s false is words has follow =
    let some : 0 < s.size = grind (arith, nat_tests) in
    let first : s.first + 0 ≡ s.first = omega arith in
    ap (λ (k : ℕ). range s.msf.bytes (4 * s.msf.words * word_of s.msf k) s.size) first ∙ range_of s words has follow some

pub of_range : (s : StreamView) (r : ByteRange) → 0 < s.msf.words → HasBlocks s → contiguous_of s ≡ Some r → bytes_in s.msf.bytes r ≡ stream_bytes s
of_range s r words has e = grind (arith, range_if)
