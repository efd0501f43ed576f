-- What DER writes is read.
use Rattle.std.proofs.Common.{◌≡◌, ℕ, zero, suc, ◌+◌, ◌-◌, ◌/◌, ◌%◌, ◌^◌, ◌<◌, ◌≤◌, Bool, true, false, List, [], ◌∷◌, ◌++◌, length, length-drop, take, drop, Result, Ok, if◌then◌else◌, append_assoc, refl, ap, sym, ◌∙◌, subst, arith}
use Rattle.std.proofs.Math.Nat.{pow-suc}
use Rattle.std.proofs.Math.Seq.{drop-cons, take-append_seam, drop-append_seam}
use Rattle.std.proofs.lemmas.Bool.Decides.{nat_tests}
use Rattle.std.proofs.lemmas.List.{length-append, length-take-le}
use Rattle.std.specs.Prelude.{slice_index, nat_lt, ◌==◌, ◌&&◌}
use Rattle.pe_core.specs.Bytes.{AreBytes}
use Rattle.pe_core.specs.Refusals.{◌>>=◌}
use Rattle.pe_pkcs7.specs.Der.{be, has_octets, is_end_of_contents, unless, lacks, octets_after, head_tests, length_octets, content_length, is_longer, length_tests, element_of, element_at}
use Rattle.pe_pkcs7.specs.Encoding.{AreOfElement, octets, octets_needed, der, content_in}
use Rattle.pe_pkcs7.specs.declared.der.Element.{Element}
use Rattle.pe_pkcs7.specs.declared.error.SignatureError.{SignatureError}
use Rattle.pe_pkcs7.proofs.Reading.{NoneHolds}
use Rattle.pe_pkcs7.proofs.Written.{be_more, be_none, last_octet, later, short_length, long_length, written_short, written_long}

-- ---- tests that all pass

pub all_passed : {Y R : Type 0} (tests : List (Bool × R)) (v : Y) → NoneHolds tests → unless tests v ≡ Ok v
all_passed [] v h = refl
all_passed ((true, e) ∷ tests) v h = absurd (cc h.0)
all_passed ((false, e) ∷ tests) v h = all_passed tests v h.1

-- ---- bytes that are known from an offset on

pub record Starts (b : List ℕ) (p x : ℕ) (xs : List ℕ) : Type 0 where
  pub here : p < length b
  pub byte : slice_index b p ≡ x
  pub rest : drop (p + 1) b ≡ xs

starts : (b : List ℕ) (p x : ℕ) (xs : List ℕ) → drop p b ≡ x ∷ xs → Starts b p x xs
starts b p x xs e =
    let size : length (drop p b) ≡ suc (length xs) = ap length e in
    let lt : p < length b = omega (arith, size, length-drop p b) in
    let both : slice_index b p ∷ drop (suc p) b ≡ x ∷ xs = sym (drop-cons b p 0 lt) ∙ e in
    let next : suc p ≡ p + 1 = omega arith in
    let tail : drop (suc p) b ≡ xs = cc both in
    record { here = lt; byte = cc both; rest = ap (λ (k : ℕ). drop k b) (sym next) ∙ tail }

-- ---- the octets of a number

length-octets : (k v : ℕ) → length (octets k v) ≡ k
unfolding octets
length-octets zero v = refl
length-octets (suc k) v =
    let before = length-octets k (v / 256) in
    let whole : length (octets k (v / 256) ++ (v % 256) ∷ []) ≡ length (octets k (v / 256)) + 1 = length-append (octets k (v / 256)) ((v % 256) ∷ []) in
    omega (arith, before, whole)

snoc_same : (xs ys : List ℕ) (x y : ℕ) → length xs ≡ length ys → xs ++ x ∷ [] ≡ ys ++ y ∷ [] → (xs ≡ ys) × (x ≡ y)
snoc_same [] [] x y n e = (refl, cc e)
snoc_same [] (d ∷ ys) x y n e = absurd (cc n)
snoc_same (a ∷ xs) [] x y n e = absurd (cc n)
snoc_same (a ∷ xs) (d ∷ ys) x y n e =
    let heads : a ≡ d = cc e in
    let tails : xs ++ x ∷ [] ≡ ys ++ y ∷ [] = cc e in
    let sizes : length xs ≡ length ys = cc n in
    let more = snoc_same xs ys x y sizes tails in
    (cc (heads, more.0), more.1)

length_taken : (b : List ℕ) (q k : ℕ) → q + k ≤ length b → length (take k (drop q b)) ≡ k
length_taken b q k h = length-take-le k (drop q b) (omega (arith, h, length-drop q b))

be_of : (b : List ℕ) (q k v : ℕ) → v < 256 ^ k → q + k ≤ length b → take k (drop q b) ≡ octets k v → be b q k ≡ v
unfolding octets
be_of b q zero v lt there e = omega (arith, be_none b q, lt)
be_of b q (suc k) v lt there e =
    let part : q + k < length b = omega (arith, there) in
    let both : take k (drop q b) ++ slice_index b (q + k) ∷ [] ≡ octets k (v / 256) ++ (v % 256) ∷ [] = sym (last_octet b q k part) ∙ e in
    let sizes : length (take k (drop q b)) ≡ length (octets k (v / 256)) = length_taken b q k (omega (arith, there)) ∙ sym (length-octets k (v / 256)) in
    let same = snoc_same (take k (drop q b)) (octets k (v / 256)) (slice_index b (q + k)) (v % 256) sizes both in
    let high : be b q k ≡ v / 256 = be_of b q k (v / 256) (omega (arith, lt, pow-suc 256 k)) (omega (arith, there)) same.0 in
    omega (arith, be_more b q k, high, same.1)

-- ---- how many octets a length has

-- the least length that needs so many octets in the long form
abbrev pub least : ℕ → ℕ
least zero = 0
least (suc zero) = 128
least (suc (suc k)) = 256 ^ suc k

pub record Needs (v k : ℕ) : Type 0 where
  pub some : 0 < k
  pub few : k ≤ 4
  pub fits : v < 256 ^ k
  pub enough : least k ≤ v

needs_by : (v : ℕ) (t1 t2 t3 : Bool) → nat_lt v 0x100 ≡ t1 → nat_lt v 0x10000 ≡ t2 → nat_lt v 0x1000000 ≡ t3 → v < 2 ^ 32 → 128 ≤ v → Needs v (if t1 then 1 else if t2 then 2 else if t3 then 3 else 4)
needs_by v true t2 t3 e f g lt le = record {
  some = omega arith;
  few = omega arith;
  fits = grind (arith, nat_tests, e);
  enough = omega (arith, le);
}
needs_by v false true t3 e f g lt le = record {
  some = omega arith;
  few = omega arith;
  fits = grind (arith, nat_tests, f);
  enough = grind (arith, nat_tests, e);
}
needs_by v false false true e f g lt le = record {
  some = omega arith;
  few = omega arith;
  fits = grind (arith, nat_tests, g);
  enough = grind (arith, nat_tests, f);
}
needs_by v false false false e f g lt le = record {
  some = omega arith;
  few = omega arith;
  fits = omega (arith, lt);
  enough = grind (arith, nat_tests, g);
}

needs : (v : ℕ) → v < 2 ^ 32 → 128 ≤ v → Needs v (octets_needed v)
needs v lt le = needs_by v (nat_lt v 0x100) (nat_lt v 0x10000) (nat_lt v 0x1000000) refl refl refl lt le

first_octet : (b : List ℕ) → AreBytes b → (q k v : ℕ) → Needs v k → be b q k ≡ v → 0 < slice_index b q
first_octet b bytes q zero v n e = absurd (omega (arith, n.some))
first_octet b bytes q (suc zero) v n e = grind (arith, be_more b q 0, be_none b q, n.enough, e)
first_octet b bytes q (suc (suc zero)) v n e =
    grind (arith, be_more b q 0, be_more b q 1, be_none b q, bytes (q + 1), n.enough, e)
first_octet b bytes q (suc (suc (suc zero))) v n e =
    grind (arith, be_more b q 0, be_more b q 1, be_more b q 2, be_none b q, bytes (q + 1), bytes (q + 2), n.enough, e)
first_octet b bytes q (suc (suc (suc (suc zero)))) v n e =
    grind (arith, be_more b q 0, be_more b q 1, be_more b q 2, be_more b q 3, be_none b q, bytes (q + 1), bytes (q + 2), bytes (q + 3), n.enough, e)
first_octet b bytes q (suc (suc (suc (suc (suc k))))) v n e = absurd (omega (arith, n.few))

-- ---- an element

finish : (b : List ℕ) (p n l : ℕ) → slice_index b p % 32 < 31 → is_end_of_contents (slice_index b p) ≡ false → (has_octets (slice_index b p) && l == 0) ≡ false → octets_after (slice_index b (p + 1)) ≡ n → (slice_index b (p + 1) == 128) ≡ false → n ≤ 4 → content_length b p n ≡ l → is_longer b p n ≡ false → p + 2 + n + l ≤ length b → element_at b p ≡ Ok (element_of b p n)
unfolding element_at length_octets
finish b p n l tag element some first definite few value short there =
    let two : lacks b p 2 ≡ false = grind (arith, nat_tests, there) in
    let low : (slice_index b p % 32 == 31) ≡ false = grind (arith, nat_tests, tag) in
    let octets : nat_lt 4 (octets_after (slice_index b (p + 1))) ≡ false = grind (arith, nat_tests, first, few) in
    let length_there : lacks b (p + 2) (octets_after (slice_index b (p + 1))) ≡ false = grind (arith, nat_tests, first, there) in
    let inside : lacks b (p + 2 + n) (content_length b p n) ≡ false = grind (arith, nat_tests, value, there) in
    let head : unless (head_tests b p) (octets_after (slice_index b (p + 1))) ≡ Ok n = all_passed (head_tests b p) (octets_after (slice_index b (p + 1))) (two, (low, (element, (definite, (octets, (length_there, tt)))))) ∙ ap (λ (k : ℕ). Ok k) first in
    let filled : (has_octets (slice_index b p) && content_length b p n == 0) ≡ false = ap (λ (k : ℕ). has_octets (slice_index b p) && k == 0) value ∙ some in
    let tail : unless (length_tests b p n) (element_of b p n) ≡ Ok (element_of b p n) = all_passed (length_tests b p n) (element_of b p n) (short, (inside, (filled, tt))) in
    ap (λ (r : Result ℕ SignatureError). r >>= λ m. unless (length_tests b p m) (element_of b p m)) head ∙ tail

-- what is read: an element of this tag and content
pub record IsRead (b : List ℕ) (p tag : ℕ) (c : List ℕ) : Type 0 where
  pub element : Element
  pub read : element_at b p ≡ Ok element
  pub tagged : element.tag ≡ tag
  pub content : content_in b element ≡ c

made : (b : List ℕ) (p n t : ℕ) (c rest : List ℕ) → slice_index b p ≡ t → t % 32 < 31 → AreOfElement t c → octets_after (slice_index b (p + 1)) ≡ n → (slice_index b (p + 1) == 128) ≡ false → n ≤ 4 → content_length b p n ≡ length c → is_longer b p n ≡ false → p + 2 + n + length c ≤ length b → drop (p + 2 + n) b ≡ c ++ rest → IsRead b p t c
made b p n t c rest byte tag element first definite few value short there after =
    let size : p + 2 + n + (p + 2 + n + content_length b p n - (p + 2 + n)) - (p + 2 + n) ≡ length c = omega (arith, value) in
    let inner : take (length c) (drop (p + 2 + n) b) ≡ c = ap (take (length c)) after ∙ take-append_seam c rest in
    record {
      element = element_of b p n;
      read = finish b p n (length c) (subst (λ (k : ℕ). k % 32 < 31) (sym byte) tag) (ap is_end_of_contents byte ∙ element.0) (ap (λ (k : ℕ). has_octets k && length c == 0) byte ∙ element.1) first definite few value short there;
      tagged = byte;
      content = ap (λ (k : ℕ). take k (drop (p + 2 + n) b)) size ∙ inner;
    }

short_read : (b : List ℕ) (p t : ℕ) (c rest : List ℕ) → t % 32 < 31 → AreOfElement t c → length c < 128 → drop p b ≡ t ∷ length c ∷ (c ++ rest) → IsRead b p t c
short_read b p t c rest tag element lt e =
    let one = starts b p t (length c ∷ (c ++ rest)) e in
    let two = starts b (p + 1) (length c) (c ++ rest) one.rest in
    let next : p + 2 + 0 ≡ p + 1 + 1 = omega arith in
    let after : drop (p + 2 + 0) b ≡ c ++ rest = ap (λ (k : ℕ). drop k b) next ∙ two.rest in
    let sizes : length (drop (p + 2 + 0) b) ≡ length c + length rest = ap length after ∙ length-append c rest in
    let there : p + 2 + 0 + length c ≤ length b = omega (arith, sizes, length-drop (p + 2 + 0) b, two.here) in
    made b p 0 t c rest one.byte tag element (omega (arith, two.byte, lt)) (grind (arith, nat_tests, two.byte, lt)) (omega arith) (short_length b p ∙ two.byte) (grind (arith, nat_tests)) there after

long_read : (b : List ℕ) (p t k : ℕ) (c rest : List ℕ) → AreBytes b → t % 32 < 31 → AreOfElement t c → 128 ≤ length c → Needs (length c) k → drop p b ≡ t ∷ (128 + k) ∷ (octets k (length c) ++ (c ++ rest)) → IsRead b p t c
long_read b p t k c rest bytes tag element le n e =
    let o = octets k (length c) in
    let one = starts b p t ((128 + k) ∷ (o ++ (c ++ rest))) e in
    let two = starts b (p + 1) (128 + k) (o ++ (c ++ rest)) one.rest in
    let next : p + 2 ≡ p + 1 + 1 = omega arith in
    let list : drop (p + 2) b ≡ o ++ (c ++ rest) = ap (λ (m : ℕ). drop m b) next ∙ two.rest in
    let count : length o ≡ k = length-octets k (length c) in
    let taken : take k (drop (p + 2) b) ≡ o = ap (take k) list ∙ subst (λ (m : ℕ). take m (o ++ (c ++ rest)) ≡ o) count (take-append_seam o (c ++ rest)) in
    let dropped : drop k (o ++ (c ++ rest)) ≡ c ++ rest = subst (λ (m : ℕ). drop m (o ++ (c ++ rest)) ≡ c ++ rest) count (drop-append_seam o (c ++ rest)) in
    let after : drop (p + 2 + k) b ≡ c ++ rest = sym (later b (p + 2) k) ∙ ap (drop k) list ∙ dropped in
    let sizes : length (drop (p + 2 + k) b) ≡ length c + length rest = ap length after ∙ length-append c rest in
    let there : p + 2 + k + length c ≤ length b = omega (arith, sizes, length-drop (p + 2 + k) b, le) in
    let number : be b (p + 2) k ≡ length c = be_of b (p + 2) k (length c) n.fits (omega (arith, there)) taken in
    let value : content_length b p k ≡ length c = long_length b p k n.some ∙ number in
    let first = first_octet b bytes (p + 2) k (length c) n number in
    made b p k t c rest one.byte tag element (omega (arith, two.byte)) (grind (arith, nat_tests, two.byte, n.some)) n.few value (grind (arith, nat_tests, first, value, le)) there after

read_by : (b : List ℕ) (p t : ℕ) (c rest : List ℕ) (test : Bool) → nat_lt (length c) 128 ≡ test → AreBytes b → t % 32 < 31 → AreOfElement t c → length c < 2 ^ 32 → drop p b ≡ der t c ++ rest → IsRead b p t c
unfolding der
read_by b p t c rest true test bytes tag element lt e =
    let small : length c < 128 = grind (arith, nat_tests, test) in
    short_read b p t c rest tag element small (e ∙ ap (λ (w : List ℕ). t ∷ ((w ++ c) ++ rest)) (written_short (length c) small))
read_by b p t c rest false test bytes tag element lt e =
    let large : 128 ≤ length c = grind (arith, nat_tests, test) in
    let k = octets_needed (length c) in
    let o = octets k (length c) in
    let list : drop p b ≡ t ∷ (128 + k) ∷ ((o ++ c) ++ rest) = e ∙ ap (λ (w : List ℕ). t ∷ ((w ++ c) ++ rest)) (written_long (length c) large) in
    long_read b p t k c rest bytes tag element large (needs (length c) lt large) (list ∙ ap (λ (w : List ℕ). t ∷ (128 + k) ∷ w) (append_assoc o c rest))

pub read_again : (b : List ℕ) (p t : ℕ) (c rest : List ℕ) → AreBytes b → t % 32 < 31 → AreOfElement t c → length c < 2 ^ 32 → drop p b ≡ der t c ++ rest → IsRead b p t c
read_again b p t c rest bytes tag element lt e = read_by b p t c rest (nat_lt (length c) 128) refl bytes tag element lt e
