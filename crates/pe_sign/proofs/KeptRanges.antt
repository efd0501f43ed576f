-- The ranges of offsets that are not left out.
use Rattle.std.proofs.Common.{◌≡◌, ℕ, zero, suc, ◌+◌, ◌-◌, ◌<◌, ◌≤◌, ◌==◌, Bool, true, false, List, [], ◌∷◌, ◌++◌, length, take, drop, replicate, flat_map, Result, Ok, refl, ap, sym, ◌∙◌, inl, inr, arith}
use Rattle.pe_sign.proofs.Cited.{slice_range, nat_tests, drop-drop, bytes_in, empty_range, ByteRange, HeaderView, Refusal, ◌>>=◌}
use Rattle.pe_sign.proofs.Cited.{Covered, digest_of, unless, kept_bytes, range_at, with_offset, kept_ranges, in_array}
use Rattle.pe_sign.proofs.Cited.{digest_ranges_of, EndBy, Between, IsFirstRange, LeftOut}
use Rattle.pe_sign.specs.declared.file_ranges.DigestRanges.{DigestRanges}

-- ---- offsets that are left out are passed over

pub passed_over : (q : ℕ → Bool) (p n m : ℕ) → Between q true p (p + n) → kept_ranges q p (n + m) ≡ kept_ranges q (p + n) m
unfolding kept_ranges
passed_over q p zero m h = ap (λ (j : ℕ). kept_ranges q p j) (omega arith) ∙ ap (λ (k : ℕ). kept_ranges q k m) (omega arith)
passed_over q p (suc n) m h =
    let one : suc n + m ≡ suc (n + m) = omega arith in
    let next : suc p + n ≡ p + suc n = omega arith in
    grind (arith, one, h p (omega arith) (omega arith), passed_over q (suc p) n m (λ k a b. h k (omega arith) (omega arith)), next)

-- ---- a range and what follows it

-- the first range starts at an offset or after it
abbrev pub StartsFrom : ℕ → List ByteRange → Type 0
StartsFrom p [] = Unit {0}
StartsFrom p (r ∷ rs) = p ≤ r.offset

starts_from : (q : ℕ → Bool) (p n : ℕ) → StartsFrom p (kept_ranges q p n)
unfolding kept_ranges
starts_from q p zero = tt
starts_from q p (suc n) = grind (arith, starts_from q (suc p) n)

-- without the first offset they start after it
starts_after : (q : ℕ → Bool) (p m : ℕ) → (0 < m → q p ≡ true) → StartsFrom (suc p) (kept_ranges q p m)
unfolding kept_ranges
starts_after q p m h = grind (arith, starts_from)

alone : (p : ℕ) (rs : List ByteRange) → StartsFrom (suc (suc p)) rs → with_offset false p rs ≡ range_at p 1 ∷ rs
alone p rs h = grind (arith, nat_tests)

pub taken : (q : ℕ → Bool) (p n m : ℕ) → Between q false p (p + suc n) → (0 < m → q (p + suc n) ≡ true) → kept_ranges q p (suc n + m) ≡ range_at p (suc n) ∷ kept_ranges q (p + suc n) m
unfolding kept_ranges
taken q p zero m h i = grind (arith, alone, starts_after)
taken q p (suc n) m h i =
    let one : suc (suc n) + m ≡ suc (suc n + m) = omega arith in
    let next : suc p + suc n ≡ p + suc (suc n) = omega arith in
    ap (λ (j : ℕ). kept_ranges q p j) one
    ∙ ap (λ (t : Bool). with_offset t p (kept_ranges q (suc p) (suc n + m))) (h p (omega arith) (omega arith))
    ∙ ap (λ (rs : List ByteRange). with_offset false p rs) (taken q (suc p) n m (λ k a b. h k (omega arith) (omega arith)) (λ more. ap q next ∙ i more))
    ∙ (let same : (suc p == suc p) ≡ true = grind (arith, nat_tests) in rw same refl)
    ∙ ap (λ (k : ℕ). range_at p (suc (suc n)) ∷ kept_ranges q k m) next

-- ---- the same from one offset to another, in a file of n bytes

pub passed_to : (q : ℕ → Bool) (p s n : ℕ) → p ≤ s → s ≤ n → Between q true p s → kept_ranges q p (n - p) ≡ kept_ranges q s (n - s)
passed_to q p s n a b h =
    let count : n - p ≡ (s - p) + (n - s) = omega arith in
    let end : p + (s - p) ≡ s = omega arith in
    grind (arith, count, passed_over q p (s - p) (n - s) (λ k from to. h k from (omega (arith, end, to))), end)

pub taken_to : (q : ℕ → Bool) (s e n : ℕ) → s < e → e ≤ n → Between q false s e → (e < n → q e ≡ true) → kept_ranges q s (n - s) ≡ range_at s (e - s) ∷ kept_ranges q e (n - e)
taken_to q s e n a b h i =
    let j : ℕ = e - s - 1 in
    let size : suc j ≡ e - s = omega arith in
    let count : n - s ≡ suc j + (n - e) = omega arith in
    let end : s + suc j ≡ e = omega arith in
    ap (λ (k : ℕ). kept_ranges q s k) count
    ∙ taken q s j (n - e) (λ k from to. h k from (omega (arith, end, to))) (λ more. ap q end ∙ i (omega (arith, more)))
    ∙ ap (λ (k : ℕ). range_at s k ∷ kept_ranges q (s + suc j) (n - e)) size
    ∙ ap (λ (k : ℕ). range_at s (e - s) ∷ kept_ranges q k (n - e)) end

-- without an offset that is kept there is no range
pub none_from : (q : ℕ → Bool) (p n : ℕ) → p ≤ n → Between q true p n → kept_ranges q p (n - p) ≡ []
unfolding kept_ranges
none_from q p n a h =
    let empty : n - n ≡ zero = omega arith in
    passed_to q p n n a (omega arith) h ∙ ap (λ (j : ℕ). kept_ranges q n j) empty

-- ---- one after the other in an array

pub no_range : (q : ℕ → Bool) (n p s : ℕ) → p ≤ n → s ≡ n → Between q true p s → IsFirstRange q n p empty_range n
no_range q n p s a e h = inl (none_from q p n a (λ k from to. h k from (omega (arith, e, to))), refl, refl)

pub one_range : (q : ℕ → Bool) (n p s e : ℕ) → p ≤ s → s < e → e ≤ n → Between q true p s → Between q false s e → (e < n → q e ≡ true) → IsFirstRange q n p (range_at s (e - s)) e
one_range q n p s e a b c h i j = inr (passed_to q p s n a (omega (arith, b, c)) h ∙ taken_to q s e n b c i j)

pub first_of_array : (q : ℕ → Bool) (n p k next : ℕ) (r : ByteRange) → IsFirstRange q n p r next → in_array (suc k) (kept_ranges q p (n - p)) ≡ r ∷ in_array k (kept_ranges q next (n - next))
unfolding kept_ranges
first_of_array q n p k next r h = grind arith

-- ---- the bytes of the ranges are those that are kept

drop_after : (b : List ℕ) (p x : ℕ) (xs : List ℕ) → drop p b ≡ x ∷ xs → drop (suc p) b ≡ xs
drop_after b p x xs h =
    let more : p + 1 ≡ suc p = omega arith in
    ap (λ (k : ℕ). drop k b) (sym more) ∙ sym (drop-drop 1 p b) ∙ ap (λ (l : List ℕ). drop 1 l) h

no_bytes : (b : List ℕ) (p : ℕ) → slice_range b p (p + zero) ≡ []
no_bytes b p = let none : p + zero - p ≡ zero = omega arith in ap (λ (j : ℕ). take j (drop p b)) none

-- the first byte of a range
range_first : (b : List ℕ) (p n x : ℕ) (xs : List ℕ) → drop p b ≡ x ∷ xs → slice_range b p (p + suc n) ≡ x ∷ slice_range b (suc p) (suc p + n)
range_first b p n x xs h = grind (arith, drop_after)

with_byte : (t : Bool) (b : List ℕ) (p x : ℕ) (xs ys : List ℕ) (rs : List ByteRange) → drop p b ≡ x ∷ xs → flat_map (bytes_in b) rs ≡ ys → flat_map (bytes_in b) (with_offset t p rs) ≡ unless t x ys
with_byte t b p x xs ys rs d e = grind (arith, range_first, no_bytes, nat_tests)

pub bytes_kept : (q : ℕ → Bool) (b : List ℕ) (p : ℕ) (xs : List ℕ) → drop p b ≡ xs → flat_map (bytes_in b) (kept_ranges q p (length xs)) ≡ kept_bytes q p xs
unfolding kept_ranges kept_bytes
bytes_kept q b p [] d = refl
bytes_kept q b p (x ∷ xs) d = grind (arith, with_byte, drop_after, bytes_kept q b (suc p) xs (drop_after b p x xs d))

nothings : (b : List ℕ) (n : ℕ) → flat_map (bytes_in b) (replicate n empty_range) ≡ []
nothings b zero = refl
nothings b (suc n) = ap (λ (l : List ℕ). l ++ flat_map (bytes_in b) (replicate n empty_range)) (no_bytes b 0) ∙ nothings b n

joined_bytes : (b : List ℕ) (rs ss : List ByteRange) → flat_map (bytes_in b) ss ≡ [] → flat_map (bytes_in b) (rs ++ ss) ≡ flat_map (bytes_in b) rs
joined_bytes b [] ss e = e
joined_bytes b (r ∷ rs) ss e = ap (λ (l : List ℕ). bytes_in b r ++ l) (joined_bytes b rs ss e)

-- ---- the ranges lie in the file

end_by : (q : ℕ → Bool) (p n e : ℕ) → p + n ≤ e → EndBy e (kept_ranges q p n)
unfolding kept_ranges
end_by q p zero e h = tt
end_by q p (suc n) e h = grind (arith, nat_tests, end_by q (suc p) n e (omega arith))

nothings_end : (e n : ℕ) → EndBy e (replicate n empty_range)
nothings_end e zero = tt
nothings_end e (suc n) = (omega arith, nothings_end e n)

joined_end : (e : ℕ) (rs ss : List ByteRange) → EndBy e rs → EndBy e ss → EndBy e (rs ++ ss)
joined_end e [] ss h i = i
joined_end e (r ∷ rs) ss h i = (h.0, joined_end e rs ss h.1 i)

array_ends : (q : ℕ → Bool) (b : List ℕ) (n : ℕ) → EndBy (length b) (in_array n (kept_ranges q 0 (length b)))
array_ends q b n =
    let rs : List ByteRange = kept_ranges q 0 (length b) in
    joined_end (length b) rs (replicate (n - length rs) empty_range) (end_by q 0 (length b) (length b) (omega arith)) (nothings_end (length b) (n - length rs))

-- ---- the same by the calls

parts_by : {R : Type 0} (x : Result LeftOut Refusal) (g : LeftOut → R) (r : R) → (x >>= λ l. Ok (g l)) ≡ Ok r → (l : LeftOut) × ((x ≡ Ok l) × (r ≡ g l))
parts_by x g r h = grind arith

pub ranges_cover : (b : List ℕ) (h : HeaderView) (r : DigestRanges) (c : Covered) → digest_ranges_of b h ≡ Ok r → digest_of b h ≡ Ok c → (flat_map (bytes_in b) r.ranges ≡ c.content) × (r.zeros ≡ c.zeros)
ranges_cover b h r c e f = grind (arith, parts_by, joined_bytes, nothings, bytes_kept)

pub ranges_end : (b : List ℕ) (h : HeaderView) (r : DigestRanges) → digest_ranges_of b h ≡ Ok r → EndBy (length b) r.ranges
ranges_end b h r e = grind (arith, parts_by, array_ends)
