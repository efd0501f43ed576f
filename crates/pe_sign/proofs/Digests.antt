-- The digest of what is written.
use Rattle.std.proofs.Common.{◌≡◌, ℕ, ◌+◌, ◌-◌, ◌<◌, ◌≤◌, ◌&&◌, ◌||◌, Bool, true, false, List, [], ◌++◌, length, take, drop, replicate, refl, ap, sym, ◌∙◌, arith}
use Rattle.pe_sign.proofs.Cited.{nat_le, nat_lt, nat_tests, append-nil, take_at, take_all, take-append-le, take-append-drop}
use Rattle.pe_sign.proofs.Cited.{length-take, length-take-le, length-drop, bytes_of, splice, rounded_up, DataDirectory}
use Rattle.pe_sign.proofs.Cited.{unsigned_length, unsigned_file, padded, table_start, entry_to, with_entry, with_checksum}
use Rattle.pe_sign.proofs.Cited.{with_both_fields, joined_file, attached_file, detached_file, with_table, without_table}
use Rattle.pe_sign.proofs.Cited.{before_table, Fits, checksum_of, Covered, covered, covered_bytes, is_in, is_left_out, kept_bytes}
use Rattle.pe_sign.proofs.Cited.{lacking_to_eight, zeros_after, Placement, LeftOut, length-splice, length-bytes_of, or_false}
use Rattle.pe_sign.proofs.Agreement.{Agree, agree_take, agree_splice, agree_then, agree_more, kept_same, kept_by}
use Rattle.pe_sign.proofs.Parts.{kept_append, kept_all, kept_none}
use Rattle.pe_sign.proofs.Slices.{in_certificates}
use Rattle.pe_sign.proofs.Splices.{length-padded}
use Rattle.pe_sign.proofs.Writes.{length-entry, length-joined_file, kept_holds}

-- the offset is in one of the header's two fields
abbrev pub in_fields : LeftOut → ℕ → Bool
in_fields l k = is_in l.checksum k || is_in l.directory_entry k

-- ---- what is covered of a file whose certificates start at an offset and end with it

-- what a digest covers
abbrev pub covered_by : List ℕ → ℕ → Covered
covered_by content zeros = record { content = content; zeros = zeros }

left_out_before : (l : LeftOut) (k : ℕ) → is_in l.certificates k ≡ false → is_left_out l k ≡ in_fields l k
left_out_before l k h = ap (λ t. in_fields l k || t) h ∙ or_false (in_fields l k)

covered_at : (l : LeftOut) (b : List ℕ) (u : ℕ) → u ≤ length b → ((k : ℕ) → k < u → is_in l.certificates k ≡ false) → ((k : ℕ) → u ≤ k → k < length b → is_in l.certificates k ≡ true) →
    covered l b ≡ covered_by (kept_bytes (in_fields l) 0 (take u b)) (lacking_to_eight u)
covered_at l b u h below above =
    let q : ℕ → Bool = is_left_out l in
    let r : ℕ → Bool = is_in l.certificates in
    let xs : List ℕ = take u b in
    let ys : List ℕ = drop u b in
    let size : length xs ≡ u = length-take-le u b h in
    let whole : xs ++ ys ≡ b = take-append-drop u b in
    let total : u + length ys ≡ length b = omega (arith, length-drop u b) in
    let after_q : kept_bytes q (0 + length xs) ys ≡ [] = kept_none q (0 + length xs) ys (λ k from to. in_certificates l k (above k (omega (arith, size)) (omega (arith, size, total)))) in
    let after_r : kept_bytes r (0 + length xs) ys ≡ [] = kept_none r (0 + length xs) ys (λ k from to. above k (omega (arith, size)) (omega (arith, size, total))) in
    let before_q : kept_bytes q 0 xs ≡ kept_bytes (in_fields l) 0 xs = kept_by q (in_fields l) 0 xs (λ k from to. left_out_before l k (below k (omega (arith, size)))) in
    let before_r : kept_bytes r 0 xs ≡ xs = kept_all r 0 xs (λ k from to. below k (omega (arith, size))) in
    let content : kept_bytes q 0 b ≡ kept_bytes (in_fields l) 0 xs =
    ap (λ (zs : List ℕ). kept_bytes q 0 zs) (sym whole) ∙ kept_append q 0 xs ys ∙ ap (λ (zs : List ℕ). kept_bytes q 0 xs ++ zs) after_q ∙ append-nil (kept_bytes q 0 xs) ∙ before_q in
    let rest : kept_bytes r 0 b ≡ xs =
    ap (λ (zs : List ℕ). kept_bytes r 0 zs) (sym whole) ∙ kept_append r 0 xs ys ∙ ap (λ (zs : List ℕ). kept_bytes r 0 xs ++ zs) after_r ∙ append-nil (kept_bytes r 0 xs) ∙ before_r in
    ap (λ (c : List ℕ). covered_by c (zeros_after l b)) content
    ∙ ap (λ (n : ℕ). covered_by (kept_bytes (in_fields l) 0 xs) (lacking_to_eight n)) (ap (λ (zs : List ℕ). length zs) rest ∙ size)

-- before the start of a range, in it, and nowhere in an empty one
pub range_below : (start size k : ℕ) → k < start → (nat_le start k && nat_lt k (start + size)) ≡ false
range_below start size k h = grind (arith, nat_tests)

range_above : (start size k : ℕ) → start ≤ k → k < start + size → (nat_le start k && nat_lt k (start + size)) ≡ true
range_above start size k h i = grind (arith, nat_tests)

pub range_past : (start size k : ℕ) → start + size ≤ k → (nat_le start k && nat_lt k (start + size)) ≡ false
range_past start size k h = grind (arith, nat_tests)

nowhere : (o n k : ℕ) → n ≡ 0 → (nat_le o k && nat_lt k (o + n)) ≡ false
nowhere o n k h = grind (arith, nat_tests)

-- what the digest of an image covers whose certificates are its end
pub covered_unsigned : (l : LeftOut) (b : List ℕ) → Fits l (length b) → covered l b ≡ covered_by (kept_bytes (in_fields l) 0 (unsigned_file l b)) (lacking_to_eight (unsigned_length l (length b)))
covered_unsigned l b f = grind (arith, covered_at, range_below, nowhere, range_above, nat_tests)

-- the same with a table that is named from an offset to the end
pub covered_tabled : (l : LeftOut) (b : List ℕ) (start : ℕ) → start ≤ length b → covered (with_table l start (length b)) b ≡ covered_by (kept_bytes (in_fields l) 0 (take start b)) (lacking_to_eight start)
covered_tabled l b start h =
    covered_at (with_table l start (length b)) b start h (λ k i. range_below start (length b - start) k i) (λ k i j. range_above start (length b - start) k i (omega arith))

-- and without one
pub covered_bare : (l : LeftOut) (b : List ℕ) → covered (without_table l) b ≡ covered_by (kept_bytes (in_fields l) 0 b) (lacking_to_eight (length b))
covered_bare l b =
    let all : take (length b) b ≡ b = take_all (length b) b (omega arith) in
    simp (covered_at (without_table l) b (length b) (omega arith) (λ k i. nowhere 0 0 k refl) (λ k i j. absurd (omega arith)), all)

-- ---- the two fields are all that is changed

inner_range : (p q m n k : ℕ) → p ≤ q → q + m ≤ p + n → (nat_le p k && nat_lt k (p + n)) ≡ false → (nat_le q k && nat_lt k (q + m)) ≡ false
inner_range p q m n k h i e = grind (arith, nat_tests)

agree_entry : (l : LeftOut) (row : DataDirectory) (b : List ℕ) → l.directory_entry.length ≡ 8 → l.directory_entry.offset + 8 ≤ length b → Agree (is_in l.directory_entry) (with_entry l row b) b
unfolding with_entry
agree_entry l row b e h =
    let p : ℕ = l.directory_entry.offset in
    let n : ℕ = l.directory_entry.length in
    let x : List ℕ = bytes_of 4 row.virtual_address in
    let y : List ℕ = bytes_of 4 row.size in
    let xs : length x ≡ 4 = length-bytes_of 4 row.virtual_address in
    let ys : length y ≡ 4 = length-bytes_of 4 row.size in
    let first : length (splice b p x) ≡ length b = length-splice b p x (omega (arith, xs)) in
    agree_then (is_in l.directory_entry) (splice (splice b p x) (p + 4) y) (splice b p x) b
    (agree_splice (is_in l.directory_entry) (splice b p x) (p + 4) y (omega (arith, ys, first)) (λ k i. inner_range p (p + 4) (length y) n k (omega arith) (omega (arith, ys, e)) i))
    (agree_splice (is_in l.directory_entry) b p x (omega (arith, xs)) (λ k i. inner_range p p (length x) n k (omega arith) (omega (arith, xs, e)) i))

agree_checksum : (l : LeftOut) (b : List ℕ) → l.checksum.length ≡ 4 → l.checksum.offset + 4 ≤ length b → Agree (is_in l.checksum) (with_checksum l b) b
unfolding with_checksum
agree_checksum l b e h =
    let p : ℕ = l.checksum.offset in
    let n : ℕ = l.checksum.length in
    let x : List ℕ = bytes_of 4 (checksum_of b p) in
    let xs : length x ≡ 4 = length-bytes_of 4 (checksum_of b p) in
    agree_splice (is_in l.checksum) b p x (omega (arith, xs)) (λ k i. inner_range p p (length x) n k (omega arith) (omega (arith, xs, e)) i)

-- a file of n bytes or more, in which both fields are
pub record Holds (l : LeftOut) (n : ℕ) : Type 0 where
  pub checksum_size : l.checksum.length ≡ 4
  pub entry_size : l.directory_entry.length ≡ 8
  pub checksum : l.checksum.offset + 4 ≤ n
  pub entry : l.directory_entry.offset + 8 ≤ n

pub agree_fields : (l : LeftOut) (row : DataDirectory) (b : List ℕ) → Holds l (length b) → Agree (in_fields l) (with_both_fields l row b) b
agree_fields l row b h =
    let size : length (with_entry l row b) ≡ length b = length-entry l row b h.entry in
    agree_then (in_fields l) (with_both_fields l row b) (with_entry l row b) b
    (agree_more (is_in l.checksum) (in_fields l) (with_both_fields l row b) (with_entry l row b) (agree_checksum l (with_entry l row b) h.checksum_size (omega (arith, size, h.checksum))) (λ k i. grind arith))
    (agree_more (is_in l.directory_entry) (in_fields l) (with_entry l row b) b (agree_entry l row b h.entry_size h.entry) (λ k i. grind arith))

-- ---- what is before the table

take_padded : (n : ℕ) (x : List ℕ) → n ≤ length x → take n (padded x) ≡ take n x
unfolding padded
take_padded n x h = take-append-le n x (replicate (lacking_to_eight (length x)) 0) h

pub front_of : (placement : Placement) (l : LeftOut) (c b : List ℕ) → Fits l (length b) → take (table_start placement l (length b)) (joined_file placement l c b) ≡ before_table placement l b
front_of placement l c b f = grind (arith, length-take-le, take_at, length-padded, take_all, take-append-le, take_padded)

pub length-before : (placement : Placement) (l : LeftOut) (b : List ℕ) → Fits l (length b) → length (before_table placement l b) ≡ table_start placement l (length b)
length-before placement l b f = grind (arith, length-padded, length-take-le)

at_most : (n : ℕ) (xs : List ℕ) → length (take n xs) ≡ n → n ≤ length xs
at_most n xs h = omega (arith, length-take n xs)

pub start_inside : (placement : Placement) (l : LeftOut) (c b : List ℕ) → Fits l (length b) → table_start placement l (length b) ≤ length (joined_file placement l c b)
start_inside placement l c b f = grind (arith, at_most, front_of, length-before)

-- the fields are in the parts of a file that fits
pub holds_unsigned : (l : LeftOut) (n : ℕ) → Fits l n → Holds l (unsigned_length l n)
holds_unsigned l n f = record { checksum_size = f.checksum_size; entry_size = f.entry_size; checksum = f.checksum; entry = f.entry }

pub holds_more : (l : LeftOut) (m n : ℕ) → Holds l m → m ≤ n → Holds l n
holds_more l m n h e = record { checksum_size = h.checksum_size; entry_size = h.entry_size; checksum = omega (arith, h.checksum, e); entry = omega (arith, h.entry, e) }

pub holds_joined : (placement : Placement) (l : LeftOut) (c b : List ℕ) → Fits l (length b) → Holds l (length (joined_file placement l c b))
holds_joined placement l c b f = grind (arith, holds_more, holds_unsigned, length-joined_file, kept_holds)

-- ---- the digest stays

pub past_fields : (l : LeftOut) (n k : ℕ) → Holds l n → n ≤ k → in_fields l k ≡ false
past_fields l n k h e = grind (arith, range_past)

-- zeros that are in the file need not be added to its digest
padded_digest : (l : LeftOut) (x : List ℕ) → Holds l (length x) → kept_bytes (in_fields l) 0 (padded x) ++ replicate (lacking_to_eight (rounded_up (length x) 8)) 0 ≡ kept_bytes (in_fields l) 0 x ++ replicate (lacking_to_eight (length x)) 0
unfolding padded
padded_digest l x h = grind (arith, kept_all, past_fields, append-nil, kept_append)

pub attached_digest : (placement : Placement) (l : LeftOut) (c b : List ℕ) → Fits l (length b) →
    covered_bytes (covered (with_table l (table_start placement l (length b)) (length (attached_file placement l c b))) (attached_file placement l c b)) ≡ covered_bytes (covered l b)
attached_digest placement l c b fits =
    let q : ℕ → Bool = in_fields l in
    let start : ℕ = table_start placement l (length b) in
    let j : List ℕ = joined_file placement l c b in
    let f : List ℕ = attached_file placement l c b in
    let agree : Agree q f j = agree_fields l (entry_to start (length j)) j (holds_joined placement l c b fits) in
    let inside : start ≤ length f = omega (arith, start_inside placement l c b fits, agree.count) in
    let same : kept_bytes q 0 (take start f) ≡ kept_bytes q 0 (before_table placement l b) =
    kept_same q (take start f) (take start j) (agree_take q f j start inside agree) ∙ ap (λ (x : List ℕ). kept_bytes q 0 x) (front_of placement l c b fits) in
    ap (λ (x : Covered). covered_bytes x) (covered_tabled l f start inside)
    ∙ ap (λ (x : List ℕ). x ++ replicate (lacking_to_eight start) 0) same
    ∙ grind (arith, holds_unsigned, length-take-le, padded_digest, holds_more, take_all)
    ∙ ap (λ (x : Covered). covered_bytes x) (sym (covered_unsigned l b fits))

pub detached_digest : (l : LeftOut) (b : List ℕ) → Fits l (length b) → covered (without_table l) (detached_file l b) ≡ covered l b
detached_digest l b fits =
    grind (arith, length-take-le, agree_fields, holds_more, holds_unsigned, covered_bare, kept_same, covered_unsigned)
