-- What is known of an element that is read.
use Rattle.std.proofs.Common.{◌≡◌, ℕ, ◌+◌, ◌<◌, ◌≤◌, Bool, true, false, List, [], ◌∷◌, length, Result, Ok, Err, refl, ap, sym, arith}
use Rattle.std.proofs.lemmas.Bool.Decides.{nat_tests}
use Rattle.std.specs.Prelude.{slice_index, nat_lt, ◌==◌, ◌&&◌}
use Rattle.pe_core.specs.Refusals.{◌>>=◌}
use Rattle.pe_pkcs7.specs.Der.{has_octets, is_end_of_contents, unless, lacks, octets_after, head_tests, length_octets, content_length, is_longer, length_tests, element_of, element_at}
use Rattle.pe_pkcs7.specs.declared.der.Element.{Element}

-- no test holds
abbrev pub NoneHolds : {R : Type 0} → List (Bool × R) → Type 0
NoneHolds [] = Unit {0}
NoneHolds (test ∷ tests) = (test.0 ≡ false) × NoneHolds tests

pub passed : {Y R : Type 0} (tests : List (Bool × R)) (v x : Y) → unless tests v ≡ Ok x → (v ≡ x) × NoneHolds tests
passed [] v x h = (cc h, tt)
passed ((true, e) ∷ tests) v x h = absurd (cc h)
passed ((false, e) ∷ tests) v x h = let more = passed tests v x h in (more.0, (refl, more.1))

-- what two steps return, each returns
pub given : {X Y R : Type 0} (r : Result X R) (f : X → Result Y R) (y : Y) → (r >>= f) ≡ Ok y → (x : X) × (r ≡ Ok x) × (f x ≡ Ok y)
given (Ok x) f y e = (x, refl, e)
given (Err r) f y e = absurd (cc e)

pub record Parts (b : List ℕ) (p : ℕ) (x : Element) : Type 0 where
  pub octets : ℕ
  pub few : octets ≤ 4
  pub first : octets_after (slice_index b (p + 1)) ≡ octets
  pub definite : (slice_index b (p + 1) == 128) ≡ false
  pub element : is_end_of_contents (slice_index b p) ≡ false
  pub some : (has_octets (slice_index b p) && content_length b p octets == 0) ≡ false
  pub shortest : is_longer b p octets ≡ false
  pub starts : p + 2 + octets ≤ length b
  pub ends : p + 2 + octets + content_length b p octets ≤ length b
  pub is : element_of b p octets ≡ x

pub parts : (b : List ℕ) (p : ℕ) (x : Element) → element_at b p ≡ Ok x → Parts b p x
unfolding element_at length_octets
parts b p x h =
    let n = octets_after (slice_index b (p + 1)) in
    let g = given (unless (head_tests b p) n) (λ (m : ℕ). unless (length_tests b p m) (element_of b p m)) x h in
    let head = passed (head_tests b p) n g.0 g.1 in
    let tail = passed (length_tests b p g.0) (element_of b p g.0) x g.2 in
    let same : n ≡ g.0 = head.0 in
    let few : nat_lt 4 n ≡ false = head.1.1.1.1.1.0 in
    let there : lacks b (p + 2) n ≡ false = head.1.1.1.1.1.1.0 in
    let inside : lacks b (p + 2 + g.0) (content_length b p g.0) ≡ false = tail.1.1.0 in
    record {
      octets = g.0;
      few = grind (arith, nat_tests, same, few);
      first = same;
      element = head.1.1.1.0;
      some = tail.1.1.1.0;
      definite = head.1.1.1.1.0;
      shortest = tail.1.0;
      starts = grind (arith, nat_tests, same, there);
      ends = grind (arith, nat_tests, inside);
      is = tail.0;
    }

-- an element lies between its offset and the end of its parent
pub within : (b : List ℕ) (p : ℕ) (x : Element) → element_at b p ≡ Ok x → (x.offset ≡ p) × (p < x.content) × (x.content ≤ x.end) × (x.end ≤ length b)
within b p x h =
    let k = parts b p x h in
    let content : p + 2 + k.octets ≡ x.content = ap (λ (y : Element). y.content) k.is in
    let end : p + 2 + k.octets + content_length b p k.octets ≡ x.end = ap (λ (y : Element). y.end) k.is in
    (sym (ap (λ (y : Element). y.offset) k.is), omega (arith, content), omega (arith, content, end), omega (arith, end, k.ends))
