-- The bytes of streams, block by block.
use Rattle.std.proofs.Common.{◌≡◌, ℕ, zero, suc, ◌+◌, ◌-◌, ◌*◌, ◌/◌, ◌%◌, ◌<◌, ◌≤◌, ◌&&◌, ◌==◌, true, false, refl, ap, subst, sym, ◌∙◌, arith, below_more, List, length, get_or, rules}
use Rattle.std.specs.Prelude.{slice_index, take}
use Rattle.std.proofs.lemmas.Bool.{cases_lt}
use Rattle.std.proofs.lemmas.Bool.Decides.{nat_tests}
use Rattle.std.proofs.lemmas.List.{places, same_lists}
use Rattle.std.proofs.lemmas.Nat.{div-add-mod', div-mul-add, mod-mul-add, mod_below}
use Rattle.pe_core.specs.Bytes.{range, splice}
use Rattle.pe_core.proofs.EntryItems.{get_or-each, length-each}
use Rattle.pe_core.proofs.Ranges.{byte_of_range, length_range}
use Rattle.pe_core.proofs.Splices.{get_or-splice, length-splice}
use Rattle.pe_pdb.specs.Msf.{word_of}
use Rattle.pe_pdb.proofs.Blocks.{block_counted}
use Rattle.pe_pdb.specs.Streams.{HasBlocks, StreamView, block_start, follow_on, place_of, stream_bytes}

pub length_stream : (s : StreamView) → length (stream_bytes s) ≡ s.size
unfolding stream_bytes
length_stream s = length-each (λ o. slice_index s.msf.bytes (place_of s o)) s.size

pub byte_of_stream : (s : StreamView) (o : ℕ) → o < s.size → get_or (stream_bytes s) o 0 ≡ get_or s.msf.bytes (place_of s o) 0
unfolding stream_bytes
byte_of_stream s o lt = get_or-each (λ k. slice_index s.msf.bytes (place_of s k)) s.size o 0 lt

-- in one block the bytes follow one another
same_block : (w o j : ℕ) → 0 < w → o % w + j < w → ((o + j) / w ≡ o / w) × ((o + j) % w ≡ o % w + j)
same_block w o j some lt =
    let parts : o + j ≡ o / w * w + (o % w + j) = (let whole = div-add-mod' o w in omega (arith, whole)) in
    (ap (λ (k : ℕ). k / w) parts ∙ div-mul-add (o / w) w (o % w + j) lt, ap (λ (k : ℕ). k % w) parts ∙ mod-mul-add (o / w) w (o % w + j) lt)

pub piece : (s : StreamView) (o n : ℕ) → 0 < 4 * s.msf.words → o + n ≤ s.size → o % (4 * s.msf.words) + n ≤ 4 * s.msf.words → place_of s o + n ≤ length s.msf.bytes → range s.msf.bytes (place_of s o) n ≡ range (stream_bytes s) o n
piece s o n some inside block file =
    let size : length (stream_bytes s) ≡ s.size = length_stream s in
    let one : length (range s.msf.bytes (place_of s o) n) ≡ n = length_range s.msf.bytes (place_of s o) n file in
    let two : length (range (stream_bytes s) o n) ≡ n = length_range (stream_bytes s) o n (omega (arith, size, inside)) in
    same_lists _ _ (one ∙ sym two) (λ j d lt.
    let low : j < n = omega (arith, lt, one) in
    let here = same_block (4 * s.msf.words) o j some (omega (arith, low, block)) in
    let at : place_of s (o + j) ≡ place_of s o + j =
    ap (λ (k : ℕ). block_start s k + (o + j) % (4 * s.msf.words)) here.0 ∙ ap (λ (k : ℕ). block_start s (o / (4 * s.msf.words)) + k) here.1 ∙ omega arith in
    let left : get_or s.msf.bytes (place_of s o + j) 0 ≡ get_or (range s.msf.bytes (place_of s o) n) j 0 = byte_of_range s.msf.bytes (place_of s o) n j low in
    let right : get_or (stream_bytes s) (o + j) 0 ≡ get_or (range (stream_bytes s) o n) j 0 = byte_of_range (stream_bytes s) o n j low in
    let mid : get_or (stream_bytes s) (o + j) 0 ≡ get_or s.msf.bytes (place_of s (o + j)) 0 = byte_of_stream s (o + j) (omega (arith, low, inside)) in
    let moved : get_or s.msf.bytes (place_of s (o + j)) 0 ≡ get_or s.msf.bytes (place_of s o + j) 0 = ap (λ (p : ℕ). get_or s.msf.bytes p 0) at in
    let same : get_or (range s.msf.bytes (place_of s o) n) j 0 ≡ get_or (range (stream_bytes s) o n) j 0 = sym left ∙ sym moved ∙ sym mid ∙ right in
    grind (arith, places))

-- ---- copies

-- one more piece of a room is written
pub copied_more : (b room new piece : List ℕ) (o done n : ℕ) → new ≡ splice room done (take n piece) → piece ≡ range b (o + done) (length piece) → n ≤ length piece → done + n ≤ length room → (o + done) + length piece ≤ length b → ((k : ℕ) → k < done → get_or room k 0 ≡ get_or b (o + k) 0)
    → (done + n ≤ length new) × ((k : ℕ) → k < done + n → get_or new k 0 ≡ get_or b (o + k) 0)
copied_more b room new piece o done n is of few fits inside before =
    grind (arith, piece, places, length-splice, get_or-splice, nat_tests, byte_of_range, cases_lt)

-- a room that has the bytes of a range one by one has the range
pub copied : (b room : List ℕ) (o n : ℕ) → length room ≡ n → o + n ≤ length b → ((k : ℕ) → k < n → get_or room k 0 ≡ get_or b (o + k) 0) → room ≡ range b o n
copied b room o n len inside same = search (rules, arith, length_range, same_lists, byte_of_range, places)

-- ---- blocks that follow one another

follow_step : (s : StreamView) (n : ℕ) → follow_on s (n + 1) ≡ (follow_on s n && word_of s.msf (s.first + n) == word_of s.msf s.first + n)
follow_step s n =
    let one : n + 1 ≡ suc n = omega arith in
    ap (follow_on s) one ∙ unfold follow_on in refl

follow_false : (s : StreamView) (i d : ℕ) → follow_on s i ≡ false → follow_on s (i + d) ≡ false
follow_false s i zero e = let same : i + 0 ≡ i = omega arith in ap (follow_on s) same ∙ e
follow_false s i (suc d) e =
    let next : i + suc d ≡ (i + d) + 1 = omega arith in
    let before : follow_on s (i + d) ≡ false = follow_false s i d e in
    ap (follow_on s) next ∙ follow_step s (i + d) ∙ ap (λ x. x && word_of s.msf (s.first + (i + d)) == word_of s.msf s.first + (i + d)) before

pub follow_none : (s : StreamView) → follow_on s 0 ≡ true
follow_none s = unfold follow_on in refl

pub follow_next : (s : StreamView) (n : ℕ) → follow_on s n ≡ true → word_of s.msf (s.first + n) ≡ word_of s.msf s.first + n → follow_on s (n + 1) ≡ true
follow_next s n all e = let step = follow_step s n in grind (arith, nat_tests)

pub follow_fails : (s : StreamView) (i n : ℕ) → i < n → (word_of s.msf (s.first + i) == word_of s.msf s.first + i) ≡ false → follow_on s n ≡ false
follow_fails s i n lt e =
    let parts : (i + 1) + (n - (i + 1)) ≡ n = omega (arith, lt) in
    let here : follow_on s (i + 1) ≡ false = (let step = follow_step s i in grind (arith, nat_tests)) in
    subst (λ k. follow_on s k ≡ false) parts (follow_false s (i + 1) (n - (i + 1)) here)

pub follow_each : (s : StreamView) (n : ℕ) → follow_on s n ≡ true → (k : ℕ) → k < n → word_of s.msf (s.first + k) ≡ word_of s.msf s.first + k
follow_each s zero all k lt = omega (arith, lt)
follow_each s (suc n) all k lt =
    let one : suc n ≡ n + 1 = omega arith in
    let both : (follow_on s n && word_of s.msf (s.first + n) == word_of s.msf s.first + n) ≡ true = sym (follow_step s n) ∙ ap (follow_on s) (sym one) ∙ all in
    let first : follow_on s n ≡ true = grind (arith, nat_tests) in
    let last : word_of s.msf (s.first + n) ≡ word_of s.msf s.first + n = grind (arith, nat_tests) in
    below_more _ _ (follow_each s n first) last k (omega (arith, lt, one))

-- a byte of a stream lies in the file
pub place_inside : (s : StreamView) → 0 < s.msf.words → HasBlocks s → (o : ℕ) → o < s.size → place_of s o < length s.msf.bytes
place_inside s words has o lt =
    let wide : 0 < 4 * s.msf.words = omega (arith, words) in
    let block = has (o / (4 * s.msf.words)) (block_counted s.size (4 * s.msf.words) o wide lt) in
    let low : o % (4 * s.msf.words) < 4 * s.msf.words = mod_below o (4 * s.msf.words) wide in
    omega (arith, block, low)
