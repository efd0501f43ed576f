-- The bytes of a run are those of the memory.
use Rattle.std.proofs.Common.{◌≡◌, ℕ, suc, ◌+◌, ◌-◌, ◌<◌, ◌≤◌, ◌^◌, Bool, true, false, cond, List, [], ◌∷◌, length, min, Option, Some, None, get_or, refl, ap, sym, ◌∙◌, arith, slice_index, nat_le, nat_lt, if◌then◌else◌}
use Rattle.std.proofs.Math.Nat.{min-le_right}
use Rattle.std.proofs.lemmas.Bool.Decides.{nat_tests}
use Rattle.std.specs.List.{find}
use Rattle.std.specs.Option.{option_map}
use Rattle.pe_core.proofs.Equality.{and_true, both}
use Rattle.pe_core.proofs.Map.{found_passes}
use Rattle.pe_core.proofs.Ranges.{byte_of_range, inside_if_held, length_range}
use Rattle.pe_core.specs.Bytes.{holds}
use Rattle.pe_lookup.specs.AddressRanges.{AreAscending}
use Rattle.pe_frame.specs.MemoryLists.{are_inside, listed_byte, lists_byte}
use Rattle.pe_frame.specs.declared.memory_list.MemoryPiece.{MemoryPiece}
use Rattle.pe_lookup.proofs.Lookups.{ends_before, found_at, found_of_all, has_it, is_within}
use Rattle.pe_stacks.specs.MemoryRuns.{AreRuns, bytes_at, bytes_in, end_low, offset_at, offset_in}

-- the index of what is found
index_by : (p : MemoryPiece → Bool) (x : MemoryPiece) (xs : List MemoryPiece) (y : MemoryPiece) (b : Bool) → (find p xs ≡ Some y → (i : ℕ) × (i < length xs) × ((d : MemoryPiece) → get_or xs i d ≡ y)) → cond b (Some x) (find p xs) ≡ Some y → (i : ℕ) × (i < suc (length xs)) × ((d : MemoryPiece) → get_or (x ∷ xs) i d ≡ y)
index_by p x xs y true more e = let same : x ≡ y = cc e in (0, omega arith, λ d. same)
index_by p x xs y false more e = let f = more e in (suc f.0, omega (arith, f.1), f.2)

found_index : (p : MemoryPiece → Bool) (xs : List MemoryPiece) (y : MemoryPiece) → find p xs ≡ Some y → (i : ℕ) × (i < length xs) × ((d : MemoryPiece) → get_or xs i d ≡ y)
found_index p [] y e = absurd (cc e)
found_index p (x ∷ xs) y e = index_by p x xs y (p x) (λ f. found_index p xs y f) e

-- a run that has two addresses is found by both
still_found : (rs : List MemoryPiece) (x y : ℕ) (r : MemoryPiece) → AreAscending (λ p. p.start) (λ p. p.length) rs → find (lists_byte x) rs ≡ Some r → r.start ≤ y → y < r.start + r.length → find (lists_byte y) rs ≡ Some r
still_found rs x y r up found low high =
    let at = found_index (lists_byte x) rs r found in
    let here : get_or rs at.0 r ≡ r = at.2 r in
    found_at (lists_byte y) rs at.0 r at.1
    (λ k less.
    let ends = up k at.0 r less at.1 in
    let start : (get_or rs at.0 r).start ≡ r.start = ap (λ (p : MemoryPiece). p.start) here in
    ends_before (get_or rs k r).start (get_or rs k r).length y (omega (arith, ends, start, low)))
    (ap (lists_byte y) here ∙ has_it r.start r.length y low high)
    ∙ ap (λ (p : MemoryPiece). Some p) here

pub by_offset : (file : List ℕ) (y : ℕ) (o : Option MemoryPiece) → option_map (λ p. slice_index file (p.offset + (y - p.start))) o ≡ option_map (slice_index file) (option_map (λ p. p.offset + (y - p.start)) o)
by_offset file y None = refl
by_offset file y (Some p) = refl

pub below : (ps : List MemoryPiece) (y : ℕ) → y < 2 ^ 64 → offset_at ps y ≡ offset_in ps y
below ps y small = let t : nat_lt y (2 ^ 64) ≡ true = grind (arith, nat_tests) in ap (λ (b : Bool). if b then offset_in ps y else None) t

byte_by : (file : List ℕ) (pieces runs : List MemoryPiece) (x n k : ℕ) (o : Option MemoryPiece) → AreRuns pieces runs → are_inside file pieces ≡ true → x + k < 2 ^ 64 → find (lists_byte x) runs ≡ o → k < length (bytes_in file x n o) → listed_byte file pieces (x + k) ≡ Some (slice_index (bytes_in file x n o) k)
byte_by file pieces runs x n k None m inside small found within = absurd (omega (arith, within))
byte_by file pieces runs x n k (Some r) m inside small found within =
    let has = is_within r.start r.length x (found_passes (lists_byte x) runs r found) in
    let skipped : ℕ = x - r.start in
    let count : ℕ = min n (r.length - skipped) in
    let held : r.offset + r.length ≤ length file = inside_if_held file r.offset r.length (found_of_all (lists_byte x) (λ p. holds file p.offset p.length) runs r (m.inside file inside) found) in
    let fits : r.offset + skipped + count ≤ length file = omega (arith, held, has.0, has.1, min-le_right n (r.length - skipped)) in
    let few : k < count = omega (arith, within, length_range file (r.offset + skipped) count fits) in
    let found_then : find (lists_byte (x + k)) runs ≡ Some r = still_found runs x (x + k) r m.ascending found (omega (arith, has.0)) (omega (arith, few, has.0, has.1, min-le_right n (r.length - skipped))) in
    let place : offset_in pieces (x + k) ≡ Some (r.offset + (x + k - r.start)) = sym (below pieces (x + k) small) ∙ sym (m.offsets (x + k)) ∙ below runs (x + k) small ∙ ap (option_map (λ (p : MemoryPiece). p.offset + (x + k - p.start))) found_then in
    by_offset file (x + k) (find (lists_byte (x + k)) pieces)
    ∙ ap (option_map (slice_index file)) place
    ∙ ap (λ (i : ℕ). Some (slice_index file i)) (omega (arith, has.0))
    ∙ ap (λ (v : ℕ). Some v) (byte_of_range file (r.offset + skipped) count k few)

-- each of the bytes from an address on is that of the first piece that has its address
pub byte_of_memory : (file : List ℕ) (pieces runs : List MemoryPiece) (x n k : ℕ) → AreRuns pieces runs → are_inside file pieces ≡ true → x + k < 2 ^ 64 → k < length (bytes_at file runs x n) → listed_byte file pieces (x + k) ≡ Some (slice_index (bytes_at file runs x n) k)
byte_of_memory file pieces runs x n k m inside small within = byte_by file pieces runs x n k (find (lists_byte x) runs) m inside small refl within

-- pieces that lie in a file end low
pub all_low : (file : List ℕ) (ps : List MemoryPiece) → length file < 2 ^ 64 → are_inside file ps ≡ true → end_low ps ≡ true
all_low file [] few all = refl
all_low file (p ∷ ps) few all =
    let parts = both (holds file p.offset p.length) (are_inside file ps) all in
    let held : p.offset + p.length ≤ length file = inside_if_held file p.offset p.length parts.0 in
    let low : nat_le (p.offset + p.length) (2 ^ 64 - 1) ≡ true = (let le : p.offset + p.length ≤ 2 ^ 64 - 1 = omega (arith, held, few) in grind (arith, nat_tests)) in
    and_true (nat_le (p.offset + p.length) (2 ^ 64 - 1)) (end_low ps) low (all_low file ps few parts.1)
