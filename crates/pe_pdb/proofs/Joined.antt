-- Streams as their blocks, one after the other.
use Rattle.std.proofs.Common.{◌≡◌, ℕ, zero, suc, ◌+◌, ◌*◌, ◌/◌, ◌%◌, ◌<◌, ◌≤◌, ◌++◌, Result, Ok, Err, refl, ap, subst, sym, ◌∙◌, arith, below_more, List, length, take, get_or, length-append}
use Rattle.std.specs.Int.{div_ceil}
use Rattle.std.proofs.lemmas.Grind.{div_ceil_times}
use Rattle.std.proofs.lemmas.List.{places, same_lists, get_or_append_left, get_or-append-add}
use Rattle.std.proofs.lemmas.Nat.{div-add-mod', mod_below}
use Rattle.std.proofs.Math.Nat.{mul-le-mul_right}
use Rattle.pe_core.specs.Bytes.{range}
use Rattle.pe_core.proofs.Ranges.{byte_of_range, length_range}
use Rattle.pe_pdb.specs.Streams.{CopiesStream, HasBlocks, StreamView, block_bytes, joined, place_of, stream_bytes}
use Rattle.pe_pdb.specs.declared.error.PdbError.{PdbError}
use Rattle.pe_pdb.proofs.Blocks.{block_counted}
use Rattle.pe_pdb.proofs.StreamBytes.{byte_of_stream, length_stream}

joined_next : (f : ℕ → List ℕ) (n : ℕ) → joined f (suc n) ≡ joined f n ++ f n
joined_next f n = unfold joined in refl

length_joined : (f : ℕ → List ℕ) (w n : ℕ) → ((k : ℕ) → k < n → length (f k) ≡ w) → length (joined f n) ≡ n * w
length_joined f w zero h = let none : length (joined f 0) ≡ 0 = unfold joined in refl in grind arith
length_joined f w (suc n) h =
    let before : length (joined f n) ≡ n * w = length_joined f w n (λ k lt. h k (omega (arith, lt))) in
    let last : length (f n) ≡ w = h n (omega arith) in
    let sum : length (joined f n ++ f n) ≡ length (joined f n) + length (f n) = length-append (joined f n) (f n) in
    let more : suc n * w ≡ n * w + w = grind arith in
    ap length (joined_next f n) ∙ sum ∙ omega (arith, before, last, more)

-- a byte of a block in the list of all of them
joined_at : (f : ℕ → List ℕ) (w n r : ℕ) → ((k : ℕ) → k < n → length (f k) ≡ w) → r < w → (k : ℕ) → k < n → get_or (joined f n) (k * w + r) 0 ≡ get_or (f k) r 0
joined_at f w zero r h low k lt = omega (arith, lt)
joined_at f w (suc n) r h low k lt =
    let len : length (joined f n) ≡ n * w = length_joined f w n (λ j jt. h j (omega (arith, jt))) in
    let one : suc n ≡ n + 1 = omega arith in
    below_more (λ j. get_or (joined f (suc n)) (j * w + r) 0 ≡ get_or (f j) r 0) n
    (λ j jt.
    let fits : (j + 1) * w ≤ n * w = mul-le-mul_right w (omega (arith, jt)) in
    let next : (j + 1) * w ≡ j * w + w = grind arith in
    ap (λ xs. get_or xs (j * w + r) 0) (joined_next f n)
    ∙ get_or_append_left (joined f n) (f n) 0 (j * w + r) (omega (arith, fits, next, len, low))
    ∙ joined_at f w n r (λ i it. h i (omega (arith, it))) low j jt)
    (ap (λ xs. get_or xs (n * w + r) 0) (joined_next f n)
    ∙ ap (λ m. get_or (joined f n ++ f n) (m + r) 0) (sym len)
    ∙ get_or-append-add (joined f n) (f n) r 0)
    k (omega (arith, lt, one))

-- the same by the offset
joined_byte : (f : ℕ → List ℕ) (w n o : ℕ) → ((k : ℕ) → k < n → length (f k) ≡ w) → 0 < w → o / w < n → get_or (joined f n) o 0 ≡ get_or (f (o / w)) (o % w) 0
joined_byte f w n o h some lt =
    let whole : o / w * w + o % w ≡ o = div-add-mod' o w in
    ap (λ p. get_or (joined f n) p 0) (sym whole) ∙ joined_at f w n (o % w) h (mod_below o w some) (o / w) lt

pub of_blocks : (s : StreamView) → 0 < s.msf.words → HasBlocks s → stream_bytes s ≡ take s.size (joined (block_bytes s) (div_ceil s.size (4 * s.msf.words)))
of_blocks s words has =
    let some : 0 < 4 * s.msf.words = omega (arith, words) in
    let each : (k : ℕ) → k < div_ceil s.size (4 * s.msf.words) → length (block_bytes s k) ≡ 4 * s.msf.words = (λ k lt. length_range s.msf.bytes _ (4 * s.msf.words) (has k lt)) in
    let all : length (joined (block_bytes s) (div_ceil s.size (4 * s.msf.words))) ≡ div_ceil s.size (4 * s.msf.words) * (4 * s.msf.words) = length_joined (block_bytes s) (4 * s.msf.words) (div_ceil s.size (4 * s.msf.words)) each in
    let enough : s.size ≤ div_ceil s.size (4 * s.msf.words) * (4 * s.msf.words) = (div_ceil_times s.size (4 * s.msf.words) some).0 in
    let size : length (stream_bytes s) ≡ s.size = length_stream s in
    same_lists _ _ (grind (arith, places)) (λ j d lt.
    let low : j < s.size = omega (arith, lt, size) in
    let k : j / (4 * s.msf.words) < div_ceil s.size (4 * s.msf.words) = block_counted s.size (4 * s.msf.words) j some low in
    let one : get_or (stream_bytes s) j 0 ≡ get_or s.msf.bytes (place_of s j) 0 = byte_of_stream s j low in
    let two : get_or (joined (block_bytes s) (div_ceil s.size (4 * s.msf.words))) j 0 ≡ get_or (block_bytes s (j / (4 * s.msf.words))) (j % (4 * s.msf.words)) 0 = joined_byte (block_bytes s) (4 * s.msf.words) _ j each some k in
    let three : get_or s.msf.bytes (place_of s j) 0 ≡ get_or (block_bytes s (j / (4 * s.msf.words))) (j % (4 * s.msf.words)) 0 = byte_of_range s.msf.bytes _ (4 * s.msf.words) (j % (4 * s.msf.words)) (mod_below j (4 * s.msf.words) some) in
    let same : get_or (stream_bytes s) j 0 ≡ get_or (joined (block_bytes s) (div_ceil s.size (4 * s.msf.words))) j 0 = one ∙ three ∙ sym two in
    grind (arith, places))

-- streams of the same bytes are read alike
pub copied_alike : (s t : StreamView) → stream_bytes s ≡ stream_bytes t → (o : ℕ) (old new : List ℕ) (answer : Result (Unit {0}) PdbError) → CopiesStream s o old new answer → CopiesStream t o old new answer
copied_alike s t same o old new (Ok u) h =
    let size : s.size ≡ t.size = sym (length_stream s) ∙ ap length same ∙ length_stream t in
    (subst (λ n. o + length old ≤ n) size h.0, h.1 ∙ ap (λ (b : List ℕ). range b o (length old)) same)
copied_alike s t same o old new (Err e) h =
    let size : s.size ≡ t.size = sym (length_stream s) ∙ ap length same ∙ length_stream t in
    (subst (λ n. n < o + length old) size h.0, h.1, h.2)
