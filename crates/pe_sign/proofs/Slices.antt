-- The slices that are left of a file without its three parts.
use Rattle.std.proofs.Common.{◌≡◌, ℕ, ◌+◌, ◌-◌, Bool, true, false, List, [], ◌∷◌, ◌++◌, drop, length, take, Ok, refl, ap, sym, ◌∙◌, arith, subst}
use Rattle.pe_sign.proofs.Cited.{min, cases_lt, append-nil, append_assoc, drop_all, length-append, length-drop, take_all, ByteRange}
use Rattle.pe_sign.proofs.Cited.{HeaderView, LeftOut, Part, AreSides, Covered, covered, is_in, is_left_out, kept_bytes, digested}
use Rattle.pe_sign.proofs.Cited.{left_out_of, zeros_after, joined_slices, Throughout, IsCut}
use Rattle.std.specs.Borrow.{Bor}
use Rattle.pe_sign.specs.declared.digest.AuthenticodeRanges.{AuthenticodeRanges}
use Rattle.pe_sign.proofs.Parts.{kept_append, kept_all, kept_none}

-- the length of a part that is split
pub length_cut : (r : ByteRange) (w x y : Part) (cut : IsCut r w x y) → length w.bytes.now ≡ length x.bytes.now + (length cut.between + length y.bytes.now)
length_cut r w x y cut = grind (arith, length-append)

-- what is kept of a part is what is kept of both sides of a range that is left out
pub cut_kept : (q : ℕ → Bool) (r : ByteRange) (w x y : Part) → IsCut r w x y → ((k : ℕ) → is_in r k ≡ true → q k ≡ true) → kept_bytes q w.offset w.bytes.now ≡ kept_bytes q x.offset x.bytes.now ++ kept_bytes q y.offset y.bytes.now
cut_kept q r w x y cut inside = grind (arith, kept_none, kept_append)

-- what holds throughout a part holds throughout both sides
pub throughout_before : (q : ℕ → Bool) (v : Bool) (r : ByteRange) (w x y : Part) → IsCut r w x y → Throughout q v w.offset w.bytes.now → Throughout q v x.offset x.bytes.now
throughout_before q v r w x y cut all k from to = all k (omega (arith, cut.start)) (omega (arith, cut.start, length_cut r w x y cut))

pub throughout_after : (q : ℕ → Bool) (v : Bool) (r : ByteRange) (w x y : Part) → IsCut r w x y → Throughout q v w.offset w.bytes.now → Throughout q v y.offset y.bytes.now
throughout_after q v r w x y cut all k from to = all k (omega (arith, cut.end)) (omega (arith, cut.end, length_cut r w x y cut))

-- what is in none of the three is kept whole
none_of_three : (l : LeftOut) (p : ℕ) (xs : List ℕ) → Throughout (is_in l.checksum) false p xs → Throughout (is_in l.directory_entry) false p xs → Throughout (is_in l.certificates) false p xs → kept_bytes (is_left_out l) p xs ≡ xs
none_of_three l p xs a b c = kept_all (is_left_out l) p xs (λ k from to. rw (a k from to, b k from to, c k from to) refl)

pub in_checksum : (l : LeftOut) (k : ℕ) → is_in l.checksum k ≡ true → is_left_out l k ≡ true
in_checksum l k h = rw h refl

pub in_entry : (l : LeftOut) (k : ℕ) → is_in l.directory_entry k ≡ true → is_left_out l k ≡ true
in_entry l k h = grind arith

pub in_certificates : (l : LeftOut) (k : ℕ) → is_in l.certificates k ≡ true → is_left_out l k ≡ true
in_certificates l k h = grind arith

-- the two slices of a part that is outside the checksum and the certificates
two : (l : LeftOut) (x a b : Part) → IsCut l.directory_entry x a b → Throughout (is_in l.checksum) false x.offset x.bytes.now → Throughout (is_in l.certificates) false x.offset x.bytes.now → kept_bytes (is_left_out l) x.offset x.bytes.now ≡ a.bytes.now ++ b.bytes.now
two l x a b cut sum certificates =
    cut_kept (is_left_out l) l.directory_entry x a b cut (in_entry l)
    ∙ ap (λ (ys : List ℕ). ys ++ kept_bytes (is_left_out l) b.offset b.bytes.now) (none_of_three l a.offset a.bytes.now (throughout_before _ _ _ x a b cut sum) cut.is_before (throughout_before _ _ _ x a b cut certificates))
    ∙ ap (λ (ys : List ℕ). a.bytes.now ++ ys) (none_of_three l b.offset b.bytes.now (throughout_after _ _ _ x a b cut sum) cut.is_after (throughout_after _ _ _ x a b cut certificates))

pub four_slices : (l : LeftOut) (w x y a b c d : Part) → IsCut l.checksum w x y → IsCut l.directory_entry x a b → IsCut l.directory_entry y c d → Throughout (is_in l.certificates) false w.offset w.bytes.now →
    joined_slices (a.bytes ∷ b.bytes ∷ c.bytes ∷ d.bytes ∷ []) ≡ kept_bytes (is_left_out l) w.offset w.bytes.now
four_slices l w x y a b c d cut left right certificates =
    let q : ℕ → Bool = is_left_out l in
    let first : kept_bytes q x.offset x.bytes.now ≡ a.bytes.now ++ b.bytes.now = two l x a b left cut.is_before (throughout_before _ _ _ w x y cut certificates) in
    let second : kept_bytes q y.offset y.bytes.now ≡ c.bytes.now ++ d.bytes.now = two l y c d right cut.is_after (throughout_after _ _ _ w x y cut certificates) in
    sym (cut_kept q l.checksum w x y cut (in_checksum l)
    ∙ ap (λ (ys : List ℕ). ys ++ kept_bytes q y.offset y.bytes.now) first
    ∙ ap (λ (ys : List ℕ). (a.bytes.now ++ b.bytes.now) ++ ys) (second ∙ ap (λ (ys : List ℕ). c.bytes.now ++ ys) (sym (append-nil d.bytes.now)))
    ∙ append_assoc a.bytes.now b.bytes.now (c.bytes.now ++ (d.bytes.now ++ [])))

-- the slices on both sides of the certificates
pub both_sides : (l : LeftOut) (w x y : Part) (fs bs : List (Bor (List ℕ))) → IsCut l.certificates w x y → joined_slices fs ≡ kept_bytes (is_left_out l) x.offset x.bytes.now → joined_slices bs ≡ kept_bytes (is_left_out l) y.offset y.bytes.now →
    joined_slices fs ++ joined_slices bs ≡ kept_bytes (is_left_out l) w.offset w.bytes.now
both_sides l w x y fs bs cut front back = simp (front, back, cut_kept (is_left_out l) l.certificates w x y cut (in_certificates l))

-- ---- which bytes are on which side

pub take_to : {X : Type 0} (xs : List X) (n k : ℕ) → k ≡ min n (length xs) → take k xs ≡ take n xs
take_to xs n k e = grind (arith, take_all, cases_lt)

pub rest_to : {X : Type 0} (xs : List X) (n k : ℕ) → k ≡ min n (length xs) → take (length xs - k) (drop k xs) ≡ drop n xs
rest_to xs n k e = grind (arith, take_all, length-drop, drop_all, cases_lt)

pub kept_before : (q : ℕ → Bool) (r : ByteRange) (b : List ℕ) (x : Part) → x.offset ≡ 0 → x.bytes.now ≡ take (r.offset - 0) b → kept_bytes q x.offset x.bytes.now ≡ kept_bytes q 0 (take r.offset b)
kept_before q r b x start bytes = grind arith

-- no byte is after the end, wherever it starts
none_after : (q : ℕ → Bool) (k n : ℕ) (xs : List ℕ) → xs ≡ [] → kept_bytes q k xs ≡ kept_bytes q n xs
unfolding kept_bytes
none_after q k n xs e = rw e refl

pub kept_after : (q : ℕ → Bool) (r : ByteRange) (b : List ℕ) (y : Part) → y.bytes.now ≡ drop (r.offset + r.length - 0) b → y.offset ≡ 0 + min (r.offset + r.length - 0) (length b)
    → kept_bytes q y.offset y.bytes.now ≡ kept_bytes q (r.offset + r.length) (drop (r.offset + r.length) b)
kept_after q r b y bytes offset = grind (arith, none_after, drop_all, cases_lt)

pub sides_of : (h : HeaderView) (b : List ℕ) (r : AuthenticodeRanges) (x : LeftOut) → left_out_of h ≡ Ok x → AreSides x b r → (l : LeftOut) → left_out_of h ≡ Ok l → AreSides l b r
sides_of h b r x e sides l f = let same : x ≡ l = cc in subst (λ (k : LeftOut). AreSides k b r) same sides

-- the length of a file without its certificates
pub length_without : (r : ByteRange) (w x y : Part) → IsCut r w x y → length (kept_bytes (is_in r) w.offset w.bytes.now) ≡ length x.bytes.now + length y.bytes.now
length_without r w x y cut =
    let both : kept_bytes (is_in r) w.offset w.bytes.now ≡ x.bytes.now ++ y.bytes.now =
    cut_kept (is_in r) r w x y cut (λ k h. h)
    ∙ ap (λ (ys : List ℕ). ys ++ kept_bytes (is_in r) y.offset y.bytes.now) (kept_all (is_in r) x.offset x.bytes.now cut.is_before)
    ∙ ap (λ (ys : List ℕ). x.bytes.now ++ ys) (kept_all (is_in r) y.offset y.bytes.now cut.is_after) in
    ap (λ (ys : List ℕ). length ys) both ∙ length-append x.bytes.now y.bytes.now

abbrev pub covered_by : LeftOut → List ℕ → List ℕ → ℕ → Covered
covered_by l b content zeros = record { content = content; zeros = zeros }

pub is_covered : (l : LeftOut) (b content : List ℕ) (zeros : ℕ) → content ≡ digested l b → zeros ≡ zeros_after l b → covered_by l b content zeros ≡ covered l b
is_covered l b content zeros e f = ap (λ (c : List ℕ). covered_by l b c zeros) e ∙ ap (λ (z : ℕ). covered_by l b (digested l b) z) f
