-- What stays of a file whose resources change, and what is read of what was written.
use Rattle.std.proofs.Common.{◌≡◌, ℕ, ◌+◌, ◌^◌, ◌<◌, ◌≤◌, ◌&&◌, false, List, [], ◌∷◌, length, get_or, take, drop, refl, sym, ◌∙◌, subst, arith}
use Rattle.pe_rewrite.proofs.Cited.{nat_le, nat_lt, nat_tests, length-take-le, bytes_of, le, splice, HeaderView, le-same}
use Rattle.pe_rewrite.proofs.Cited.{get_or-splice, length-bytes_of, length-splice, Lies, changed, is_written, resource_changes}
use Rattle.pe_rewrite.proofs.Cited.{sum_of, with_resources, with_sum, Place}
use Rattle.pe_core.proofs.PutNumbers.{le-after}
use Rattle.pe_rewrite.proofs.Writes.{Fit, changes_fit, length-filled, resources_length, sum_inside}

-- ---- one byte

pub byte_past : (b : List ℕ) (p : ℕ) (s : List ℕ) (n k : ℕ) → length s ≡ n → p + n ≤ length b → (nat_le p k && nat_lt k (p + n)) ≡ false → get_or (splice b p s) k 0 ≡ get_or b k 0
byte_past b p s n k e h out = grind (arith, get_or-splice)

-- no change writes this byte
abbrev pub Misses : ℕ → List (ℕ × List ℕ) → Type 0
Misses k [] = Unit {0}
Misses k (c ∷ cs) = ((nat_le c.0 k && nat_lt k (c.0 + length c.1)) ≡ false) × Misses k cs

pub byte_changed : (cs : List (ℕ × List ℕ)) (b : List ℕ) (k : ℕ) → Fit (length b) cs → Misses k cs → get_or (changed cs b) k 0 ≡ get_or b k 0
byte_changed [] b k f m = refl
byte_changed (c ∷ cs) b k f m =
    let one : length (splice b c.0 c.1) ≡ length b = length-splice b c.0 c.1 f.0 in
    byte_changed cs (splice b c.0 c.1) k (subst (λ (n : ℕ). Fit n cs) (sym one) f.1) m.1 ∙ byte_past b c.0 c.1 (length c.1) k refl f.0 m.0

-- by numbers
abbrev pub Past : ℕ → ℕ → ℕ → Type 0
Past p n k = (nat_le p k && nat_lt k (p + n)) ≡ false

pub both_halves : (p k : ℕ) → Past p 8 k → Past p 4 k × Past (p + 4) 4 k
both_halves p k h = (grind (arith, nat_tests, h), grind (arith, nat_tests, h))

pub resources_byte : (h : HeaderView) (p : Place) (r b : List ℕ) (k : ℕ) → Lies h p (length b) → length r ≡ p.length → Past p.section.pointer_to_raw_data p.section.size_of_raw_data k → Past (p.row + 8) 4 k → Past p.entry 8 k →
    get_or (with_resources p r b) k 0 ≡ get_or b k 0
unfolding with_resources
resources_byte h p r b k l e raw row entry = byte_changed (resource_changes p r) b k (changes_fit h p r (length b) l e) (grind (arith, both_halves, length-filled, length-bytes_of))

pub sum_byte : (h : HeaderView) (f : List ℕ) (k : ℕ) → h.dos_header.pe_pointer + 92 ≤ length f → Past (h.dos_header.pe_pointer + 88) 4 k → get_or (with_sum h f) k 0 ≡ get_or f k 0
unfolding with_sum
sum_byte h f k i past = byte_past f (h.dos_header.pe_pointer + 88) (bytes_of 4 (sum_of h f)) 4 k (length-bytes_of 4 (sum_of h f)) (omega (arith, i)) past

-- a byte that is not written stays
pub byte_stays : (h : HeaderView) (p : Place) (r b : List ℕ) (k : ℕ) → Lies h p (length b) → length r ≡ p.length → Past p.section.pointer_to_raw_data p.section.size_of_raw_data k → Past (p.row + 8) 4 k → Past p.entry 8 k → Past (h.dos_header.pe_pointer + 88) 4 k →
    get_or (with_sum h (with_resources p r b)) k 0 ≡ get_or b k 0
byte_stays h p r b k l e raw row entry sum =
    sum_byte h (with_resources p r b) k (omega (arith, resources_length h p r b l e, sum_inside h p (length b) l)) sum ∙ resources_byte h p r b k l e raw row entry

pub unwritten_stays : (h : HeaderView) (p : Place) (r b : List ℕ) (k : ℕ) → Lies h p (length b) → length r ≡ p.length → is_written h p k ≡ false → get_or (with_sum h (with_resources p r b)) k 0 ≡ get_or b k 0
unwritten_stays h p r b k l e w = grind (arith, byte_stays)

-- ---- numbers that were written

pub number_there : (b : List ℕ) (p n v : ℕ) → v < 256 ^ n → p ≤ length b → le (splice b p (bytes_of n v)) p n ≡ v
unfolding splice
number_there b p n v small h = le-after n v (take p b) (drop (p + length (bytes_of n v)) b) p (length-take-le p b h) small

-- a number of four bytes that no later change writes
pub number_stays : (f b : List ℕ) (p : ℕ) → ((k : ℕ) → p ≤ k → k < p + 4 → get_or f k 0 ≡ get_or b k 0) → le f p 4 ≡ le b p 4
number_stays f b p same = le-same f b p p 4 (λ k lt. same (p + k) (omega arith) (omega arith))
