-- What is hashed is what DER writes.
use Rattle.std.proofs.Common.{◌≡◌, ℕ, ◌-◌, ◌<◌, ◌≤◌, Bool, true, false, List, ◌∷◌, length, take, drop, Ok, refl, ap, sym, ◌∙◌, arith}
use Rattle.std.proofs.lemmas.Bool.Decides.{nat_tests}
use Rattle.std.proofs.lemmas.List.{length-take, get_or-take, get_or_past, places, same_lists}
use Rattle.std.specs.Prelude.{slice_index, nat_lt}
use Rattle.pe_core.specs.Bytes.{range, AreBytes}
use Rattle.pe_pkcs7.specs.Der.{element_at}
use Rattle.pe_pkcs7.specs.Encoding.{der, content_in, octets_in}
use Rattle.pe_pkcs7.specs.Fields.{content_bytes, element_bytes}
use Rattle.pe_pkcs7.specs.declared.der.Element.{Element}
use Rattle.pe_pkcs7.proofs.Reading.{within}
use Rattle.pe_pkcs7.proofs.Written.{written}

-- ---- a part of the bytes

byte_by : (b : List ℕ) (e k : ℕ) (test : Bool) → nat_lt k (length (take e b)) ≡ test → AreBytes b → slice_index (take e b) k < 256
byte_by b e k true test bytes =
    let lt : k < length (take e b) = grind (arith, nat_tests, test) in
    let same : slice_index (take e b) k ≡ slice_index b k = get_or-take e b k 0 (omega (arith, lt, length-take e b)) in
    omega (arith, same, bytes k)
byte_by b e k false test bytes =
    let le : length (take e b) ≤ k = grind (arith, nat_tests, test) in
    let none : slice_index (take e b) k ≡ 0 = get_or_past (take e b) k 0 le in
    omega (arith, none)

part_bytes : (b : List ℕ) (e : ℕ) → AreBytes b → AreBytes (take e b)
part_bytes b e bytes k = byte_by b e k (nat_lt k (length (take e b))) refl bytes

inside : (b : List ℕ) (e o n : ℕ) → o ≤ n → n ≤ e → n ≤ length b → drop o (take n b) ≡ range (take e b) o (n - o)
inside b e o n le few there = same_lists _ _ (grind (arith, places)) (λ j d lt. grind (arith, places))

-- ---- an element that is read in a part

pub whole_of : (b : List ℕ) (e q : ℕ) (x : Element) → AreBytes b → element_at (take e b) q ≡ Ok x → element_bytes b x ≡ der x.tag (content_bytes b x)
unfolding element_bytes content_bytes
whole_of b e q x bytes h =
    let k = within (take e b) q x h in
    let few : x.end ≤ e = omega (arith, k.3, length-take e b) in
    let there : x.end ≤ length b = omega (arith, k.3, length-take e b) in
    let outer : drop x.offset (take x.end b) ≡ octets_in (take e b) x = inside b e x.offset x.end (omega (arith, k.0, k.1, k.2)) few there in
    let inner : drop x.content (take x.end b) ≡ content_in (take e b) x = inside b e x.content x.end k.2 few there in
    outer ∙ written (take e b) q x (part_bytes b e bytes) h ∙ ap (der x.tag) (sym inner)

-- without its tag
untagged : (t u : ℕ) (c : List ℕ) → t ∷ drop 1 (der u c) ≡ der t c
unfolding der
untagged t u c = refl

pub with_other_tag : (b : List ℕ) (e q t : ℕ) (x : Element) → AreBytes b → element_at (take e b) q ≡ Ok x → t ∷ drop 1 (element_bytes b x) ≡ der t (content_bytes b x)
with_other_tag b e q t x bytes h = ap (λ (l : List ℕ). t ∷ drop 1 l) (whole_of b e q x bytes h) ∙ untagged t x.tag (content_bytes b x)
