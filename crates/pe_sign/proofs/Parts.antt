-- Parts of a file, split around ranges that are left out.
use Rattle.std.proofs.Common.{◌≡◌, ℕ, suc, ◌+◌, ◌-◌, ◌<◌, ◌≤◌, ◌⊎◌, ◌^◌, Bool, true, false, List, [], ◌∷◌, ◌++◌, length, take, drop, refl, ap, sym, ◌∙◌, ⊎_elim, arith}
use Rattle.pe_sign.proofs.Cited.{cases_lt, nat_tests, length-take-le, length-drop, take-append-drop, drop-drop, ByteRange, Part}
use Rattle.pe_sign.proofs.Cited.{is_in, unless, kept_bytes, Throughout, IsCut}

unless_append : (b : Bool) (x : ℕ) (xs ys : List ℕ) → unless b x (xs ++ ys) ≡ unless b x xs ++ ys
unless_append b x xs ys = grind arith

pub kept_append : (q : ℕ → Bool) (p : ℕ) (xs ys : List ℕ) → kept_bytes q p (xs ++ ys) ≡ kept_bytes q p xs ++ kept_bytes q (p + length xs) ys
unfolding kept_bytes
kept_append q p [] ys = ap (λ k. kept_bytes q k ys) (omega arith)
kept_append q p (x ∷ xs) ys =
    ap (λ zs. unless (q p) x zs) (kept_append q (suc p) xs ys ∙ ap (λ k. kept_bytes q (suc p) xs ++ kept_bytes q k ys) (omega arith))
    ∙ unless_append (q p) x (kept_bytes q (suc p) xs) (kept_bytes q (p + length (x ∷ xs)) ys)

pub kept_all : (q : ℕ → Bool) (p : ℕ) (xs : List ℕ) → Throughout q false p xs → kept_bytes q p xs ≡ xs
unfolding kept_bytes
kept_all q p [] h = refl
kept_all q p (x ∷ xs) h = rw (h p (omega arith) (omega arith)) (ap (λ zs. x ∷ zs) (kept_all q (suc p) xs (λ k a b. h k (omega arith) (omega arith))))

pub kept_none : (q : ℕ → Bool) (p : ℕ) (xs : List ℕ) → Throughout q true p xs → kept_bytes q p xs ≡ []
unfolding kept_bytes
kept_none q p [] h = refl
kept_none q p (x ∷ xs) h = rw (h p (omega arith) (omega arith)) (kept_none q (suc p) xs (λ k a b. h k (omega arith) (omega arith)))

is_out_after : (r : ByteRange) (q : ℕ) → r.offset + r.length ≤ q → is_in r q ≡ false
is_out_after r q h = grind (arith, nat_tests)

is_inside : (r : ByteRange) (q : ℕ) → r.offset ≤ q → q < r.offset + r.length → is_in r q ≡ true
is_inside r q h i = grind (arith, nat_tests)

-- cutting at two indices, of which the first is that of the range's start and the second that of its end
pub cut_at : (r : ByteRange) (whole before after : Part) (end s e : ℕ) → (end ≤ r.offset + r.length) → (end + 1 < 2 ^ 64 → end ≡ r.offset + r.length) → r.offset ≤ end →
    whole.offset + length whole.bytes.now < 2 ^ 64 →
    s ≤ length whole.bytes.now → ((whole.offset + s ≤ r.offset) ⊎ (s ≡ 0)) → ((r.offset ≤ whole.offset + s) ⊎ (s ≡ length whole.bytes.now)) →
    e ≤ length whole.bytes.now → ((whole.offset + e ≤ end) ⊎ (e ≡ 0)) → ((end ≤ whole.offset + e) ⊎ (e ≡ length whole.bytes.now)) →
    before.offset ≡ whole.offset → before.bytes.now ≡ take s whole.bytes.now → after.offset ≡ whole.offset + e → after.bytes.now ≡ drop e whole.bytes.now → IsCut r whole before after
cut_at r whole before after end s e not_past is_end ordered small s_in s_before s_after e_in e_before e_after b_offset b_bytes a_offset a_bytes =
    let xs : List ℕ = whole.bytes.now in
    let rising : s ≤ e = omega (arith, ordered, s_in, e_in, s_before, s_after, e_before, e_after) in
    let b_length : length before.bytes.now ≡ s = ap (λ (l : List ℕ). length l) b_bytes ∙ length-take-le s xs s_in in
    let m_length : length (take (e - s) (drop s xs)) ≡ e - s = length-take-le (e - s) (drop s xs) (omega (arith, length-drop s xs, e_in)) in
    let a_length : length after.bytes.now ≡ length xs - e = ap (λ (l : List ℕ). length l) a_bytes ∙ length-drop e xs in
    let m : List ℕ = take (e - s) (drop s xs) in
    let back : s + (e - s) ≡ e = omega (arith, rising) in
    let rest : drop s xs ≡ m ++ drop e xs = sym (take-append-drop (e - s) (drop s xs)) ∙ ap (λ (zs : List ℕ). m ++ zs) (drop-drop (e - s) s xs ∙ ap (λ (k : ℕ). drop k xs) back) in
    record {
      between = m;
      joined = sym (take-append-drop s xs) ∙ ap (λ (ys : List ℕ). take s xs ++ ys) rest ∙ ap (λ (ys : List ℕ). ys ++ (m ++ drop e xs)) (sym b_bytes) ∙ ap (λ (ys : List ℕ). before.bytes.now ++ (m ++ ys)) (sym a_bytes);
      start = b_offset;
      end = omega (arith, a_offset, b_length, m_length, rising);
      is_before = λ q from to. ⊎_elim (λ (h : whole.offset + s ≤ r.offset). grind (arith, nat_tests)) (λ (h : s ≡ 0). absurd (omega (arith, b_offset, b_length))) s_before;
      is_between = λ q from to. is_inside r q (⊎_elim (λ (h : r.offset ≤ whole.offset + s). omega (arith, b_length)) (λ (h : s ≡ length xs). absurd (omega (arith, b_length, m_length, e_in))) s_after) (⊎_elim (λ (h : whole.offset + e ≤ end). omega (arith, b_length, m_length, rising)) (λ (h : e ≡ 0). absurd (omega (arith, b_length, m_length))) e_before);
      is_after = λ q from to. ⊎_elim (λ (h : end ≤ whole.offset + e). is_out_after r q (⊎_elim (λ (i : end + 1 < 2 ^ 64). omega (arith, a_offset, is_end i)) (λ (i : 2 ^ 64 ≤ end + 1). absurd (omega (arith, a_offset, a_length, small))) (cases_lt (end + 1) (2 ^ 64)))) (λ (h : e ≡ length xs). absurd (omega (arith, a_offset, a_length))) e_after;
    }
