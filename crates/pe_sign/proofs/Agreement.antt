-- Files that differ only where bytes are left out.
use Rattle.std.proofs.Common.{◌≡◌, ℕ, suc, ◌+◌, ◌-◌, ◌<◌, ◌≤◌, ◌&&◌, Bool, false, cond, List, [], ◌∷◌, length, get_or, take, refl, ap, sym, ◌∙◌, arith}
use Rattle.pe_sign.proofs.Cited.{nat_le, nat_lt, places, length-take-le, ext_get_or, splice, checksum_of, unless, kept_bytes}
use Rattle.pe_sign.proofs.Cited.{length-splice, get_or-splice}

-- two files of one length have the same bytes where none is left out
pub record Agree (is_out : ℕ → Bool) (xs ys : List ℕ) : Type 0 where
  pub count : length xs ≡ length ys
  pub same : (k : ℕ) → is_out k ≡ false → get_or xs k 0 ≡ get_or ys k 0

-- ---- what is kept of them is the same

kept_from : (q : ℕ → Bool) (p : ℕ) (xs ys : List ℕ) → length xs ≡ length ys → ((j k : ℕ) → j ≡ p + k → q j ≡ false → get_or xs k 0 ≡ get_or ys k 0) → kept_bytes q p xs ≡ kept_bytes q p ys
unfolding kept_bytes
kept_from q p [] [] e h = refl
kept_from q p [] (y ∷ ys) e h = absurd cc
kept_from q p (x ∷ xs) [] e h = absurd cc
kept_from q p (x ∷ xs) (y ∷ ys) e h =
    let rest : length xs ≡ length ys = cc in
    grind (arith, h p 0 (omega arith), kept_from q (suc p) xs ys rest (λ j k i. h j (suc k) (omega arith)))

pub kept_same : (q : ℕ → Bool) (xs ys : List ℕ) → Agree q xs ys → kept_bytes q 0 xs ≡ kept_bytes q 0 ys
kept_same q xs ys a = kept_from q 0 xs ys a.count (λ j k i. let at : j ≡ k = omega (arith, i) in rw at (a.same k))

-- two tests that agree on the bytes keep the same of them
pub kept_by : (q r : ℕ → Bool) (p : ℕ) (xs : List ℕ) → ((k : ℕ) → p ≤ k → k < p + length xs → q k ≡ r k) → kept_bytes q p xs ≡ kept_bytes r p xs
unfolding kept_bytes
kept_by q r p [] h = refl
kept_by q r p (x ∷ xs) h =
    let first : q p ≡ r p = h p (omega arith) (omega arith) in
    ap (λ b. unless b x (kept_bytes q (suc p) xs)) first ∙ ap (λ zs. unless (r p) x zs) (kept_by q r (suc p) xs (λ k from to. h k (omega arith) (omega arith)))

-- ---- their checksums are the same

-- the offset is in the field of the checksum
abbrev pub in_field : ℕ → ℕ → Bool
in_field field k = nat_le field k && nat_lt k (field + 4)

pub sum_same : (field : ℕ) (xs ys : List ℕ) → Agree (in_field field) xs ys → checksum_of xs field ≡ checksum_of ys field
unfolding checksum_of
sum_same field xs ys a = grind arith

-- ---- parts of them agree, and what is written over them

pub agree_take : (q : ℕ → Bool) (xs ys : List ℕ) (n : ℕ) → n ≤ length xs → Agree q xs ys → Agree q (take n xs) (take n ys)
agree_take q xs ys n h a = grind (arith, length-take-le, places)

pub agree_splice : (q : ℕ → Bool) (b : List ℕ) (p : ℕ) (s : List ℕ) → p + length s ≤ length b → ((k : ℕ) → q k ≡ false → (nat_le p k && nat_lt k (p + length s)) ≡ false) → Agree q (splice b p s) b
agree_splice q b p s h outside = grind (arith, length-splice, get_or-splice)

-- a write over all that differs
pub cond_same : (t : Bool) (x y z : ℕ) → (t ≡ false → y ≡ z) → cond t x y ≡ cond t x z
cond_same t x y z h = grind arith

pub splice_same : (xs ys : List ℕ) (p : ℕ) (s : List ℕ) → p + length s ≤ length xs → Agree (λ k. nat_le p k && nat_lt k (p + length s)) xs ys → splice xs p s ≡ splice ys p s
splice_same xs ys p s h a =
    let room : p + length s ≤ length ys = omega (arith, a.count) in
    ext_get_or 0 (splice xs p s) (splice ys p s) (length-splice xs p s h ∙ a.count ∙ sym (length-splice ys p s room))
    (λ k lt. get_or-splice xs p s k h ∙ cond_same (nat_le p k && nat_lt k (p + length s)) (get_or s (k - p) 0) (get_or xs k 0) (get_or ys k 0) (a.same k) ∙ sym (get_or-splice ys p s k room))

pub agree_then : (q : ℕ → Bool) (xs ys zs : List ℕ) → Agree q xs ys → Agree q ys zs → Agree q xs zs
agree_then q xs ys zs a b = record { count = a.count ∙ b.count; same = λ k i. a.same k i ∙ b.same k i }

-- fewer bytes are left out
pub agree_more : (q r : ℕ → Bool) (xs ys : List ℕ) → Agree q xs ys → ((k : ℕ) → r k ≡ false → q k ≡ false) → Agree r xs ys
agree_more q r xs ys a h = record { count = a.count; same = λ k i. a.same k (h k i) }
