-- Bytes that stand later in others, and the elements that are read of them.
use Rattle.std.proofs.Common.{◌≡◌, ℕ, zero, suc, ◌+◌, ◌-◌, ◌<◌, ◌≤◌, ◌&&◌, Bool, true, false, List, [], ◌∷◌, length, take, drop, Option, Some, None, Result, Ok, Err, if◌then◌else◌, refl, ap, sym, ◌∙◌, arith}
use Rattle.std.proofs.lemmas.Bool.Decides.{nat_tests}
use Rattle.std.proofs.lemmas.List.{length-take, places, same_lists, get_or-take, get_or_past}
use Rattle.std.specs.Prelude.{slice_index, nat_le, nat_lt, ◌==◌}
use Rattle.pe_core.proofs.Ranges.{byte_of_range}
use Rattle.pe_core.specs.Bytes.{range}
use Rattle.pe_core.specs.Offsets.{StandAt}
use Rattle.pe_core.specs.Refusals.{outcome, ◌>>=◌}
use Rattle.pe_pkcs7.specs.Der.{be, unless, lacks, octets_after, head_tests, length_octets, content_length, length_tests, element_of, element_at}
use Rattle.pe_pkcs7.specs.Fields.{any_field, any_optional, with_tag, field, optional, after, ends_at, part_of, only_element, only_if_there, only_with_tag, content_bytes, element_bytes}
use Rattle.pe_pkcs7.specs.Later.{later, later_if, later_error, later_result}
use Rattle.pe_pkcs7.specs.declared.der.Element.{Element}
use Rattle.pe_pkcs7.specs.declared.error.SignatureError.{SignatureError}
use Rattle.pe_pkcs7.specs.declared.error.SignatureError.TheVariants.{Missing, Tag, Trailing}

-- ---- bytes

-- t ends with the bytes of s, each k bytes later
pub record StandLater (k : ℕ) (s t : List ℕ) : Type 0 where
  pub size : length t ≡ length s + k
  pub byte : (i : ℕ) → slice_index t (i + k) ≡ slice_index s i

byte_at : (k : ℕ) (s t : List ℕ) → StandLater k s t → (p q : ℕ) → q ≡ p + k → slice_index t q ≡ slice_index s p
byte_at k s t l p q e = rw e (l.byte p)

-- those that stand in a file
stand_byte : (f b : List ℕ) (k i : ℕ) (test : Bool) → StandAt f k b → nat_lt i (length b) ≡ test → slice_index (take (k + length b) f) (i + k) ≡ slice_index b i
stand_byte f b k i true h test =
    let lt : i < length b = grind (arith, nat_tests, test) in
    let place : i + k ≡ k + i = omega arith in
    let taken : slice_index (take (k + length b) f) (i + k) ≡ slice_index f (i + k) = get_or-take (k + length b) f (i + k) 0 (omega (arith, lt)) in
    let same : slice_index f (k + i) ≡ slice_index (range f k (length b)) i = byte_of_range f k (length b) i lt in
    taken ∙ ap (λ (n : ℕ). slice_index f n) place ∙ same ∙ ap (λ (xs : List ℕ). slice_index xs i) h.here
stand_byte f b k i false h test =
    let le : length b ≤ i = grind (arith, nat_tests, test) in
    get_or_past (take (k + length b) f) (i + k) 0 (omega (arith, le, length-take (k + length b) f)) ∙ sym (get_or_past b i 0 le)

pub stands : (f b : List ℕ) (k : ℕ) → StandAt f k b → StandLater k b (take (k + length b) f)
stands f b k h = record {
  size = omega (arith, length-take (k + length b) f, h.inside);
  byte = λ i. stand_byte f b k i (nat_lt i (length b)) h refl;
}

-- ---- tests

lt_by : (a b c d k : ℕ) (test : Bool) → nat_lt a b ≡ test → c ≡ a + k → d ≡ b + k → nat_lt c d ≡ test
lt_by a b c d k true e f g = grind (arith, nat_tests, e, f, g)
lt_by a b c d k false e f g = grind (arith, nat_tests, e, f, g)

pub lt_later : (a b c d k : ℕ) → c ≡ a + k → d ≡ b + k → nat_lt c d ≡ nat_lt a b
lt_later a b c d k f g = lt_by a b c d k (nat_lt a b) refl f g

le_by : (a b c d k : ℕ) (test : Bool) → nat_le a b ≡ test → c ≡ a + k → d ≡ b + k → nat_le c d ≡ test
le_by a b c d k true e f g = grind (arith, nat_tests, e, f, g)
le_by a b c d k false e f g = grind (arith, nat_tests, e, f, g)

pub le_later : (a b c d k : ℕ) → c ≡ a + k → d ≡ b + k → nat_le c d ≡ nat_le a b
le_later a b c d k f g = le_by a b c d k (nat_le a b) refl f g

abbrev later_tests : ℕ → List (Bool × SignatureError) → List (Bool × SignatureError)
later_tests k [] = []
later_tests k (x ∷ xs) = (x.0, later_error k x.1) ∷ later_tests k xs

unless_later : {Y : Type 0} (further : Y → Y) (k : ℕ) (tests : List (Bool × SignatureError)) (v : Y) → unless (later_tests k tests) (further v) ≡ later_result further k (unless tests v)
unless_later further k [] v = refl
unless_later further k ((true, e) ∷ tests) v = refl
unless_later further k ((false, e) ∷ tests) v = unless_later further k tests v

pub outcome_later : {Y : Type 0} (further : Y → Y) (k : ℕ) (test : Bool) (e : SignatureError) (v : Y) → outcome ((test, later_error k e) ∷ []) (further v) ≡ later_result further k (outcome ((test, e) ∷ []) v)
outcome_later further k true e v = refl
outcome_later further k false e v = refl

-- two steps in turn
pub in_turn : {X Y : Type 0} (further : X → X) (last : Y → Y) (k : ℕ) (r s : Result X SignatureError) (f g : X → Result Y SignatureError) → r ≡ later_result further k s → ((x : X) → f (further x) ≡ later_result last k (g x)) → (r >>= f) ≡ later_result last k (s >>= g)
in_turn {X = X} further last k r (Ok x) f g e h = ap (λ (z : Result X SignatureError). z >>= f) e ∙ h x
in_turn {X = X} further last k r (Err x) f g e h = ap (λ (z : Result X SignatureError). z >>= f) e

-- ---- an element

be_later : (k : ℕ) (s t : List ℕ) → StandLater k s t → (p q n : ℕ) → q ≡ p + k → be t q n ≡ be s p n
unfolding be
be_later k s t l p q zero e = refl
be_later k s t l p q (suc n) e =
    let high : be t q n ≡ be s p n = be_later k s t l p q n e in
    let low : slice_index t (q + n) ≡ slice_index s (p + n) = byte_at k s t l (p + n) (q + n) (omega (arith, e)) in
    rw (high, low) refl

content_length_later : (k : ℕ) (s t : List ℕ) → StandLater k s t → (p n : ℕ) → content_length t (p + k) n ≡ content_length s p n
unfolding content_length
content_length_later k s t l p n =
    let first : slice_index t (p + k + 1) ≡ slice_index s (p + 1) = byte_at k s t l (p + 1) (p + k + 1) (omega arith) in
    let number : be t (p + k + 2) n ≡ be s (p + 2) n = be_later k s t l (p + 2) (p + k + 2) n (omega arith) in
    rw (first, number) refl

lacks_later : (k : ℕ) (s t : List ℕ) → StandLater k s t → (p q n : ℕ) → q ≡ p + k → lacks t q n ≡ lacks s p n
lacks_later k s t l p q n e = lt_later (length s) (p + n) (length t) (q + n) k l.size (omega (arith, e))

octets_later : (k : ℕ) (s t : List ℕ) → StandLater k s t → (p : ℕ) → length_octets t (p + k) ≡ later_result (λ n. n) k (length_octets s p)
unfolding length_octets
octets_later k s t l p =
    let tag : slice_index t (p + k) ≡ slice_index s p = l.byte p in
    let first : slice_index t (p + k + 1) ≡ slice_index s (p + 1) = byte_at k s t l (p + 1) (p + k + 1) (omega arith) in
    let two : lacks t (p + k) 2 ≡ lacks s p 2 = lacks_later k s t l p (p + k) 2 refl in
    let more : lacks t (p + k + 2) (octets_after (slice_index s (p + 1))) ≡ lacks s (p + 2) (octets_after (slice_index s (p + 1))) = lacks_later k s t l (p + 2) (p + k + 2) (octets_after (slice_index s (p + 1))) (omega arith) in
    let left : length t - (p + k) ≡ length s - p = omega (arith, l.size) in
    rw (tag, first, two, more, left) (unless_later (λ n. n) k (head_tests s p) (octets_after (slice_index s (p + 1))))

of_later : (k : ℕ) (s t : List ℕ) → StandLater k s t → (p n : ℕ) → element_of t (p + k) n ≡ later k (element_of s p n)
of_later k s t l p n =
    let tag : slice_index t (p + k) ≡ slice_index s p = l.byte p in
    let value : content_length t (p + k) n ≡ content_length s p n = content_length_later k s t l p n in
    let content : p + k + 2 + n ≡ p + 2 + n + k = omega arith in
    let end : p + k + 2 + n + content_length t (p + k) n ≡ p + 2 + n + content_length s p n + k = omega (arith, value) in
    rw (tag, end, content) refl

lengths_later : (k : ℕ) (s t : List ℕ) → StandLater k s t → (p n : ℕ) → unless (length_tests t (p + k) n) (element_of t (p + k) n) ≡ later_result (later k) k (unless (length_tests s p n) (element_of s p n))
lengths_later k s t l p n =
    let value : content_length t (p + k) n ≡ content_length s p n = content_length_later k s t l p n in
    let first : slice_index t (p + k + 2) ≡ slice_index s (p + 2) = byte_at k s t l (p + 2) (p + k + 2) (omega arith) in
    let more : lacks t (p + k + 2 + n) (content_length s p n) ≡ lacks s (p + 2 + n) (content_length s p n) = lacks_later k s t l (p + 2 + n) (p + k + 2 + n) (content_length s p n) (omega arith) in
    let left : length t - (p + k + 2 + n) ≡ length s - (p + 2 + n) = omega (arith, l.size) in
    rw (of_later k s t l p n, l.byte p, value, first, more, left) (unless_later (later k) k (length_tests s p n) (element_of s p n))

pub element_later : (k : ℕ) (s t : List ℕ) → StandLater k s t → (p : ℕ) → element_at t (p + k) ≡ later_result (later k) k (element_at s p)
unfolding element_at
element_later k s t l p = in_turn _ _ _ _ _ _ _ (octets_later k s t l p) (λ n. lengths_later k s t l p n)

-- ---- parts

-- the bytes up to an offset
cut_byte : (k : ℕ) (s t : List ℕ) → StandLater k s t → (e i : ℕ) (test : Bool) → nat_lt i e ≡ test → slice_index (take (e + k) t) (i + k) ≡ slice_index (take e s) i
cut_byte k s t l e i true test =
    let lt : i < e = grind (arith, nat_tests, test) in
    get_or-take (e + k) t (i + k) 0 (omega (arith, lt)) ∙ l.byte i ∙ sym (get_or-take e s i 0 lt)
cut_byte k s t l e i false test =
    let le : e ≤ i = grind (arith, nat_tests, test) in
    get_or_past (take (e + k) t) (i + k) 0 (omega (arith, le, length-take (e + k) t)) ∙ sym (get_or_past (take e s) i 0 (omega (arith, le, length-take e s)))

pub cut : (k : ℕ) (s t : List ℕ) → StandLater k s t → (e : ℕ) → StandLater k (take e s) (take (e + k) t)
cut k s t l e = record {
  size = omega (arith, length-take e s, length-take (e + k) t, l.size);
  byte = λ i. cut_byte k s t l e i (nat_lt i e) refl;
}

-- from an offset on
from_later : (k : ℕ) (s t : List ℕ) → StandLater k s t → (o : ℕ) → drop (o + k) t ≡ drop o s
from_later k s t l o = same_lists _ _ (grind (arith, places, l.size)) (λ j d lt. let same : slice_index t (o + j + k) ≡ slice_index s (o + j) = l.byte (o + j) in grind (arith, places, l.size, same))

pub content_later : (k : ℕ) (s t : List ℕ) → StandLater k s t → (x : Element) → content_bytes t (later k x) ≡ content_bytes s x
unfolding content_bytes
content_later k s t l x = from_later k (take x.end s) (take (x.end + k) t) (cut k s t l x.end) x.content

pub octets_of_later : (k : ℕ) (s t : List ℕ) → StandLater k s t → (x : Element) → element_bytes t (later k x) ≡ element_bytes s x
unfolding element_bytes
octets_of_later k s t l x = from_later k (take x.end s) (take (x.end + k) t) (cut k s t l x.end) x.offset

-- ---- fields

by_test : (k : ℕ) (e : SignatureError) (test : Bool) (r : Result Element SignatureError) → (if test then later_result (later k) k r else Err (later_error k e)) ≡ later_result (later k) k (if test then r else Err e)
by_test k e true r = refl
by_test k e false r = refl

pub any_field_later : (k : ℕ) (s t : List ℕ) → StandLater k s t → (p : ℕ) → any_field t (p + k) ≡ later_result (later k) k (any_field s p)
unfolding any_field
any_field_later k s t l p = rw (lt_later p (length s) (p + k) (length t) k refl l.size, element_later k s t l p) (by_test k (Missing p) (nat_lt p (length s)) (element_at s p))

-- what is there, or nothing
some_later : (k : ℕ) (r : Result Element SignatureError) → (later_result (later k) k r >>= λ x. Ok (Some x)) ≡ later_result (later_if k) k (r >>= λ x. Ok (Some x))
some_later k (Ok x) = refl
some_later k (Err e) = refl

by_presence : (k : ℕ) (test : Bool) (r : Result Element SignatureError) → (if test then (later_result (later k) k r >>= λ x. Ok (Some x)) else Ok None) ≡ later_result (later_if k) k (if test then (r >>= λ x. Ok (Some x)) else Ok None)
by_presence k true r = some_later k r
by_presence k false r = refl

pub any_optional_later : (k : ℕ) (s t : List ℕ) → StandLater k s t → (p : ℕ) → any_optional t (p + k) ≡ later_result (later_if k) k (any_optional s p)
unfolding any_optional
any_optional_later k s t l p = rw (lt_later p (length s) (p + k) (length t) k refl l.size, element_later k s t l p) (by_presence k (nat_lt p (length s)) (element_at s p))

pub optional_later : (tag k : ℕ) (s t : List ℕ) → StandLater k s t → (p : ℕ) → optional tag t (p + k) ≡ later_result (later_if k) k (optional tag s p)
unfolding optional
optional_later tag k s t l p = rw (lt_later p (length s) (p + k) (length t) k refl l.size, l.byte p, element_later k s t l p) (by_presence k (nat_lt p (length s) && slice_index s p == tag) (element_at s p))

pub with_tag_later : (tag k : ℕ) (x : Element) → with_tag tag (later k x) ≡ later_result (later k) k (with_tag tag x)
with_tag_later tag k x = outcome_later (later k) k (x.tag == tag) (Tag x.offset tag x.tag) x

pub field_later : (tag k : ℕ) (s t : List ℕ) → StandLater k s t → (p : ℕ) → field tag t (p + k) ≡ later_result (later k) k (field tag s p)
unfolding field
field_later tag k s t l p = in_turn _ _ _ _ _ _ _ (any_field_later k s t l p) (λ x. with_tag_later tag k x)

pub after_later : (k p : ℕ) (x : Option Element) → after (p + k) (later_if k x) ≡ after p x + k
after_later k p None = refl
after_later k p (Some x) = refl

pub ends_later : {Y : Type 0} (further : Y → Y) (k : ℕ) (s t : List ℕ) → StandLater k s t → (p : ℕ) (v : Y) → ends_at t (p + k) (further v) ≡ later_result further k (ends_at s p v)
ends_later further k s t l p v =
    let left : length t - (p + k) ≡ length s - p = omega (arith, l.size) in
    rw (le_later (length s) p (length t) (p + k) k l.size refl, left) (outcome_later further k (nat_le (length s) p) (Trailing p (length s - p)) v)

-- ---- what an element contains

pub only_later : (k : ℕ) (s t : List ℕ) → StandLater k s t → (x : Element) → only_element t (later k x) ≡ later_result (later k) k (only_element s x)
unfolding only_element
only_later k s t l x =
    let c : StandLater k (take x.end s) (take (x.end + k) t) = cut k s t l x.end in
    in_turn _ _ _ _ _ _ _ (any_field_later k (take x.end s) (take (x.end + k) t) c x.content) (λ y. ends_later (later k) k (take x.end s) (take (x.end + k) t) c y.end y)

pub only_if_there_later : (k : ℕ) (s t : List ℕ) → StandLater k s t → (x : Option Element) → only_if_there t (later_if k x) ≡ later_result (later_if k) k (only_if_there s x)
unfolding only_if_there
only_if_there_later k s t l None = refl
only_if_there_later k s t l (Some x) = rw (only_later k s t l x) (some_later k (only_element s x))

pub only_with_tag_later : (tag k : ℕ) (s t : List ℕ) → StandLater k s t → (x : Option Element) → only_with_tag tag t (later_if k x) ≡ later_result (later_if k) k (only_with_tag tag s x)
unfolding only_with_tag
only_with_tag_later tag k s t l None = refl
only_with_tag_later tag k s t l (Some x) = in_turn _ _ _ _ _ _ _ (only_later k s t l x) (λ y. rw (with_tag_later tag k y) (some_later k (with_tag tag y)))

-- what is read in the bytes up to the end of an element
part_by : {Y : Type 0} (further : Y → Y) (f g : List ℕ → Result Y SignatureError) (k : ℕ) (u v : List ℕ) (e : SignatureError) (test : Bool) → f v ≡ later_result further k (g u) → (outcome ((test, later_error k e) ∷ []) v >>= f) ≡ later_result further k (outcome ((test, e) ∷ []) u >>= g)
part_by further f g k u v e true h = h
part_by further f g k u v e false h = refl

pub in_part : {Y : Type 0} (further : Y → Y) (f g : List ℕ → Result Y SignatureError) (tag k : ℕ) (s t : List ℕ) → StandLater k s t → (x : Element) → ((u v : List ℕ) → StandLater k u v → f v ≡ later_result further k (g u)) → (part_of tag t (later k x) >>= f) ≡ later_result further k (part_of tag s x >>= g)
unfolding part_of
in_part further f g tag k s t l x h = part_by further f g k (take x.end s) (take (x.end + k) t) (Tag x.offset tag x.tag) (x.tag == tag) (h (take x.end s) (take (x.end + k) t) (cut k s t l x.end))
