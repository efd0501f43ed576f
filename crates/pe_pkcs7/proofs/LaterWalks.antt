-- Walks over elements that stand later in others, and searches among them, return the same, further on.
use Rattle.std.proofs.Common.{◌≡◌, ℕ, ◌+◌, Bool, true, false, List, [], ◌∷◌, length, take, map, Option, Some, None, Result, Ok, Err, if◌then◌else◌, refl, ap, sym, ◌∙◌, subst, arith}
use Rattle.std.specs.Prelude.{nat_lt, ◌==◌}
use Rattle.pe_core.specs.Refusals.{◌>>=◌}
use Rattle.pe_pkcs7.proofs.LaterBytes.{StandLater, content_later, cut, element_later, lt_later}
use Rattle.pe_pkcs7.proofs.LaterParts.{attribute_later}
use Rattle.pe_pkcs7.proofs.Shrinking.{element_shrinks, place_size}
use Rattle.pe_pkcs7.proofs.WholeWalks.{one_list}
use Rattle.pe_pkcs7.specs.Der.{element_at}
use Rattle.pe_pkcs7.specs.Fields.{content_bytes, first_element}
use Rattle.pe_pkcs7.specs.Later.{later, later_attribute, later_error, later_result, later_sought}
use Rattle.pe_pkcs7.specs.ObjectIds.{attribute_number}
use Rattle.pe_pkcs7.specs.Signers.{FindsAttribute, Sought, attribute, first_with_number, this_or}
use Rattle.pe_pkcs7.specs.Walks.{First, Items}
use Rattle.pe_pkcs7.specs.declared.der.Element.{Element}
use Rattle.pe_pkcs7.specs.declared.error.SignatureError.{SignatureError}
use Rattle.pe_pkcs7.specs.declared.signer.Attribute.{Attribute}

abbrev Elements : Type 0
Elements = List (Result Element SignatureError)

abbrev Place : Type 0
Place = List ℕ × ℕ

-- ---- a walk

-- what stands first, further on in t
abbrev later_first : ℕ → List ℕ → First Element Place → First Element Place
later_first k t None = None
later_first k t (Some (Ok x)) = Some (Ok (later k x.0, (t, x.1.1 + k)))
later_first k t (Some (Err f)) = Some (Err (later_error k f))

first_by : (k : ℕ) (s t : List ℕ) (test : Bool) (r : Result Element SignatureError) →
    (if test then Some (◌>>=◌ {B = Element × Place} (later_result (later k) k r) (λ x. Ok (x, (t, x.end)))) else None)
    ≡ later_first k t (if test then Some (◌>>=◌ {B = Element × Place} r (λ x. Ok (x, (s, x.end)))) else None)
first_by k s t false r = refl
first_by k s t true (Ok x) = refl
first_by k s t true (Err f) = refl

first_later : (k : ℕ) (s t : List ℕ) → StandLater k s t → (p : ℕ) → first_element (t, p + k) ≡ later_first k t (first_element (s, p))
unfolding first_element
first_later k s t l p = rw (lt_later p (length s) (p + k) (length t) k refl l.size, element_later k s t l p) (first_by k s t (nat_lt p (length s)) (element_at s p))

-- a step leaves the same bytes
kept_by : (s : List ℕ) (test : Bool) (r : Result Element SignatureError) (x : Element) (rest : Place) → (if test then Some (◌>>=◌ {B = Element × Place} r (λ y. Ok (y, (s, y.end)))) else None) ≡ Some (Ok (x, rest)) → (s, rest.1) ≡ rest
kept_by s false r x rest h = absurd (cc h)
kept_by s true (Err f) x rest h = absurd (cc h)
kept_by s true (Ok y) x rest h =
    let pair : (y, (s, y.end)) ≡ (x, rest) = cc h in
    let bytes : s ≡ rest.0 = ap (λ (z : Element × Place). z.1.0) pair in
    rw bytes refl

kept : (s : List ℕ) (p : ℕ) (x : Element) (rest : Place) → first_element (s, p) ≡ Some (Ok (x, rest)) → (s, rest.1) ≡ rest
unfolding first_element
kept s p x rest h = kept_by s (nat_lt p (length s)) (element_at s p) x rest h

pub items_later : (k : ℕ) (s t : List ℕ) → StandLater k s t → (p : ℕ) (items : Elements) → Items first_element (s, p) items → Items first_element (t, p + k) (map (later_result (later k) k) items)
items_later k s t l p [] h = first_later k s t l p ∙ ap (later_first k t) h
items_later k s t l p (Err f ∷ more) h = (first_later k s t l p ∙ ap (later_first k t) h.0, ap (map (later_result (later k) k)) h.1)
items_later k s t l p (Ok x ∷ more) h =
    let same : (s, h.0.1) ≡ h.0 = kept s p x h.0 h.1 in (
      (t, h.0.1 + k),
      first_later k s t l p ∙ ap (later_first k t) h.1,
      items_later k s t l h.0.1 more (subst (λ (z : Place). Items first_element z more) (sym same) h.2),
    )

-- ---- a search

by_number : (k : ℕ) (a : Attribute) (p : ℕ) (more : Sought) (test : Bool) → (if test then (Ok (Some (later_attribute k a)), p + k) else later_sought k more) ≡ later_sought k (if test then (Ok (Some a), p) else more)
by_number k a p more true = refl
by_number k a p more false = refl

this_later : (k : ℕ) (s t : List ℕ) → StandLater k s t → (number p : ℕ) (read : Result Attribute SignatureError) (more : Sought) →
    this_or t number (p + k) (later_result (later_attribute k) k read) (later_sought k more) ≡ later_sought k (this_or s number p read more)
this_later k s t l number p (Err f) more = refl
this_later k s t l number p (Ok a) more = rw (content_later k s t l a.kind) (by_number k a p more (attribute_number (content_bytes s a.kind) == number))

sought_later : (k : ℕ) (s t : List ℕ) → StandLater k s t → (number p : ℕ) (items : Elements) →
    first_with_number t number (p + k) (map (later_result (later k) k) items) ≡ later_sought k (first_with_number s number p items)
sought_later k s t l number p [] = refl
sought_later k s t l number p (Err f ∷ more) = ap (λ (n : ℕ). (Err (later_error k f), n)) l.size
sought_later k s t l number p (Ok x ∷ more) =
    rw (attribute_later k s t l x, sought_later k s t l number x.end more) (this_later k s t l number x.end (attribute s x) (first_with_number s number x.end more))

pub found_later : (k : ℕ) (s t : List ℕ) → StandLater k s t → (number p : ℕ) (sought : Sought) → FindsAttribute s number p sought → FindsAttribute t number (p + k) (later_sought k sought)
found_later k s t l number p sought is items h =
    let lists = one_list place_size first_element element_shrinks in
    let own = lists.exists (s, p) in
    let same : map (later_result (later k) k) own.0 ≡ items = lists.once (t, p + k) (map (later_result (later k) k) own.0) items (items_later k s t l p own.0 own.1) h in
    ap (later_sought k) (is own.0 own.1) ∙ sym (sought_later k s t l number p own.0) ∙ ap (first_with_number t number (p + k)) same
