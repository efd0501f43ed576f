-- What is read of an element is what DER writes.
use Rattle.std.proofs.Common.{◌≡◌, ℕ, zero, suc, ◌+◌, ◌-◌, ◌*◌, ◌/◌, ◌%◌, ◌<◌, ◌≤◌, false, List, [], ◌∷◌, ◌++◌, length, length-drop, take, drop, Ok, refl, ap, sym, ◌∙◌, subst, arith}
use Rattle.std.proofs.Math.Seq.{drop-cons, take-add}
use Rattle.std.proofs.lemmas.Bool.Decides.{nat_tests}
use Rattle.std.proofs.lemmas.List.{length-take-le, places, same_lists}
use Rattle.std.specs.Prelude.{slice_index, ◌==◌, ◌&&◌}
use Rattle.pe_core.specs.Bytes.{AreBytes}
use Rattle.pe_pkcs7.specs.Der.{be, has_octets, is_end_of_contents, octets_after, content_length, is_longer, element_of, element_at}
use Rattle.pe_pkcs7.specs.Encoding.{AreOfElement, octets, octets_needed, length_written, der, content_in, octets_in}
use Rattle.pe_pkcs7.specs.declared.der.Element.{Element}
use Rattle.pe_pkcs7.proofs.Reading.{parts}

-- ---- bytes from an offset on

pub later : (b : List ℕ) (p n : ℕ) → drop n (drop p b) ≡ drop (p + n) b
later b p n = same_lists _ _ (grind (arith, places)) (λ j d lt. grind (arith, places))

front : (b : List ℕ) (p n : ℕ) → p < length b → take (suc n) (drop p b) ≡ slice_index b p ∷ take n (drop (suc p) b)
front b p n lt = ap (take (suc n)) (drop-cons b p 0 lt)

pub last_octet : (b : List ℕ) (q n : ℕ) → q + n < length b → take (suc n) (drop q b) ≡ take n (drop q b) ++ slice_index b (q + n) ∷ []
last_octet b q n lt =
    let one : suc n ≡ n + 1 = omega arith in
    let end : take 1 (drop n (drop q b)) ≡ slice_index b (q + n) ∷ [] = ap (take 1) (later b q n) ∙ front b (q + n) 0 lt in
    ap (λ (k : ℕ). take k (drop q b)) one ∙ take-add n 1 (drop q b) ∙ ap (λ (l : List ℕ). take n (drop q b) ++ l) end

-- ---- the octets of a number

pub be_more : (b : List ℕ) (q n : ℕ) → be b q (suc n) ≡ be b q n * 256 + slice_index b (q + n)
unfolding be
be_more b q n = refl

pub octets_are : (b : List ℕ) → AreBytes b → (q n : ℕ) → q + n ≤ length b → octets n (be b q n) ≡ take n (drop q b)
unfolding octets
octets_are b bytes q zero h = refl
octets_are b bytes q (suc n) h =
    let small : slice_index b (q + n) < 256 = bytes (q + n) in
    let more = be_more b q n in
    let high : be b q (suc n) / 256 ≡ be b q n = omega (arith, more, small) in
    let low : be b q (suc n) % 256 ≡ slice_index b (q + n) = omega (arith, more, small) in
    let before : octets n (be b q (suc n) / 256) ≡ take n (drop q b) = ap (octets n) high ∙ octets_are b bytes q n (omega (arith, h)) in
    let lt : q + n < length b = omega (arith, h) in
    ap (λ (l : List ℕ). l ++ (be b q (suc n) % 256) ∷ []) before ∙ ap (λ (d : ℕ). take n (drop q b) ++ d ∷ []) low ∙ sym (last_octet b q n lt)

-- ---- how many octets a length needs

pub be_none : (b : List ℕ) (q : ℕ) → be b q 0 ≡ 0
unfolding be
be_none b q = refl

-- what the long form has that is the shortest
pub record Shortest (first value n : ℕ) : Type 0 where
  pub some : 0 < n
  pub not_zero : 0 < first
  pub long : 128 ≤ value

pub needed : (b : List ℕ) → AreBytes b → (q n : ℕ) → n ≤ 4 → Shortest (slice_index b q) (be b q n) n → octets_needed (be b q n) ≡ n
needed b bytes q zero few s = absurd (omega (arith, s.some))
needed b bytes q (suc zero) few s =
    let a = be_more b q 0 in
    grind (arith, nat_tests, a, be_none b q, bytes (q + 0), s.long)
needed b bytes q (suc (suc zero)) few s =
    let a = be_more b q 0 in
    let c = be_more b q 1 in
    grind (arith, nat_tests, a, c, be_none b q, bytes (q + 0), bytes (q + 1), s.not_zero)
needed b bytes q (suc (suc (suc zero))) few s =
    let a = be_more b q 0 in
    let c = be_more b q 1 in
    let d = be_more b q 2 in
    grind (arith, nat_tests, a, c, d, be_none b q, bytes (q + 0), bytes (q + 1), bytes (q + 2), s.not_zero)
needed b bytes q (suc (suc (suc (suc zero)))) few s =
    let a = be_more b q 0 in
    let c = be_more b q 1 in
    let d = be_more b q 2 in
    let e = be_more b q 3 in
    grind (arith, nat_tests, a, c, d, e, be_none b q, bytes (q + 0), bytes (q + 1), bytes (q + 2), bytes (q + 3), s.not_zero)
needed b bytes q (suc (suc (suc (suc (suc n))))) few s = absurd (omega (arith, few))

-- ---- the length

pub shortest : (b : List ℕ) (p n : ℕ) → 0 < n → is_longer b p n ≡ false → content_length b p n ≡ be b (p + 2) n → Shortest (slice_index b (p + 2)) (be b (p + 2) n) n
shortest b p n some short value = record {
  some = some;
  not_zero = grind (arith, nat_tests, some, short);
  long = grind (arith, nat_tests, some, short, value);
}

pub short_length : (b : List ℕ) (p : ℕ) → content_length b p 0 ≡ slice_index b (p + 1)
unfolding content_length
short_length b p = refl

pub long_length : (b : List ℕ) (p n : ℕ) → 0 < n → content_length b p n ≡ be b (p + 2) n
unfolding content_length
long_length b p n some = grind (arith, nat_tests, some)

pub written_short : (n : ℕ) → n < 128 → length_written n ≡ n ∷ []
unfolding length_written
written_short n lt = grind (arith, nat_tests, lt)

pub written_long : (n : ℕ) → 128 ≤ n → length_written n ≡ (128 + octets_needed n) ∷ octets (octets_needed n) n
unfolding length_written
written_long n le = grind (arith, nat_tests, le)

pub length_is : (b : List ℕ) (p n : ℕ) → AreBytes b → n ≤ 4 → octets_after (slice_index b (p + 1)) ≡ n → (slice_index b (p + 1) == 128) ≡ false → is_longer b p n ≡ false → p + 2 + n ≤ length b → length_written (content_length b p n) ≡ slice_index b (p + 1) ∷ take n (drop (p + 2) b)
length_is b p zero bytes few after definite short there =
    let lt : slice_index b (p + 1) < 128 = grind (arith, nat_tests, after, definite) in
    ap length_written (short_length b p) ∙ written_short (slice_index b (p + 1)) lt
length_is b p (suc n) bytes few after definite short there =
    let value = long_length b p (suc n) (omega arith) in
    let s = shortest b p (suc n) (omega arith) short value in
    let count = needed b bytes (p + 2) (suc n) few s in
    let first : 128 + suc n ≡ slice_index b (p + 1) = omega (arith, after) in
    let rest = octets_are b bytes (p + 2) (suc n) there in
    ap length_written value ∙ written_long (be b (p + 2) (suc n)) s.long
    ∙ ap (λ (k : ℕ). (128 + k) ∷ octets k (be b (p + 2) (suc n))) count
    ∙ ap (λ (k : ℕ). k ∷ octets (suc n) (be b (p + 2) (suc n))) first
    ∙ ap (λ (l : List ℕ). slice_index b (p + 1) ∷ l) rest

-- ---- an element

whole : (b : List ℕ) (p n l : ℕ) → p + 2 + n + l ≤ length b → take (suc (suc (n + l))) (drop p b) ≡ slice_index b p ∷ slice_index b (p + 1) ∷ (take n (drop (p + 2) b) ++ take l (drop (p + 2 + n) b))
whole b p n l there =
    let one : suc p ≡ p + 1 = omega arith in
    let two : suc (p + 1) ≡ p + 2 = omega arith in
    let second : take (suc (n + l)) (drop (suc p) b) ≡ slice_index b (p + 1) ∷ take (n + l) (drop (p + 2) b) = ap (λ (k : ℕ). take (suc (n + l)) (drop k b)) one ∙ front b (p + 1) (n + l) (omega (arith, there)) ∙ ap (λ (k : ℕ). slice_index b (p + 1) ∷ take (n + l) (drop k b)) two in
    let rest : take (n + l) (drop (p + 2) b) ≡ take n (drop (p + 2) b) ++ take l (drop (p + 2 + n) b) = take-add n l (drop (p + 2) b) ∙ ap (λ (k : List ℕ). take n (drop (p + 2) b) ++ take l k) (later b (p + 2) n) in
    front b p (suc (n + l)) (omega (arith, there)) ∙ ap (λ (k : List ℕ). slice_index b p ∷ k) (second ∙ ap (λ (k : List ℕ). slice_index b (p + 1) ∷ k) rest)

der_is : (t : ℕ) (c first l more : List ℕ) (n : ℕ) → length c ≡ n → length_written n ≡ first → der t c ≡ t ∷ (first ++ c)
unfolding der
der_is t c first l more n e w = ap (λ (k : List ℕ). t ∷ (k ++ c)) (ap length_written e ∙ w)

content_there : (b : List ℕ) (q l : ℕ) → q + l ≤ length b → length (take l (drop q b)) ≡ l
content_there b q l h = length-take-le l (drop q b) (omega (arith, h, length-drop q b))

written_of : (b : List ℕ) (p n : ℕ) → AreBytes b → n ≤ 4 → octets_after (slice_index b (p + 1)) ≡ n → (slice_index b (p + 1) == 128) ≡ false → is_longer b p n ≡ false → p + 2 + n + content_length b p n ≤ length b → octets_in b (element_of b p n) ≡ der (slice_index b p) (content_in b (element_of b p n))
written_of b p n bytes few after definite short there =
    let l = content_length b p n in
    let c = take l (drop (p + 2 + n) b) in
    let few_inner : p + 2 + n + (p + 2 + n + l - (p + 2 + n)) - (p + 2 + n) ≡ l = omega arith in
    let few_outer : p + (p + 2 + n + l - p) - p ≡ suc (suc (n + l)) = omega arith in
    let inner : content_in b (element_of b p n) ≡ c = ap (λ (k : ℕ). take k (drop (p + 2 + n) b)) few_inner in
    let outer : octets_in b (element_of b p n) ≡ take (suc (suc (n + l))) (drop p b) = ap (λ (k : ℕ). take k (drop p b)) few_outer in
    let length_octets = length_is b p n bytes few after definite short (omega (arith, there)) in
    outer ∙ whole b p n l there ∙ sym (der_is (slice_index b p) c (slice_index b (p + 1) ∷ take n (drop (p + 2) b)) [] [] l (content_there b (p + 2 + n) l there) length_octets) ∙ ap (der (slice_index b p)) (sym inner)

-- a tag and a content that an element has
allowed_of : (b : List ℕ) (p n : ℕ) → is_end_of_contents (slice_index b p) ≡ false → (has_octets (slice_index b p) && content_length b p n == 0) ≡ false → p + 2 + n + content_length b p n ≤ length b → AreOfElement (slice_index b p) (content_in b (element_of b p n))
allowed_of b p n element some there =
    let l = content_length b p n in
    let few : p + 2 + n + (p + 2 + n + l - (p + 2 + n)) - (p + 2 + n) ≡ l = omega arith in
    let size : length (content_in b (element_of b p n)) ≡ l = ap (λ (k : ℕ). length (take k (drop (p + 2 + n) b))) few ∙ content_there b (p + 2 + n) l there in
    (element, ap (λ (k : ℕ). has_octets (slice_index b p) && k == 0) size ∙ some)

pub allowed : (b : List ℕ) (p : ℕ) (x : Element) → element_at b p ≡ Ok x → AreOfElement x.tag (content_in b x)
allowed b p x h =
    let k = parts b p x h in
    subst (λ (y : Element). AreOfElement y.tag (content_in b y)) k.is (allowed_of b p k.octets k.element k.some k.ends)

pub written : (b : List ℕ) (p : ℕ) (x : Element) → AreBytes b → element_at b p ≡ Ok x → octets_in b x ≡ der x.tag (content_in b x)
written b p x bytes h =
    let k = parts b p x h in
    subst (λ (y : Element). octets_in b y ≡ der y.tag (content_in b y)) k.is (written_of b p k.octets bytes k.few k.first k.definite k.shortest k.ends)
