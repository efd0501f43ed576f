-- A search for an attribute, one element after the other.
use Rattle.std.proofs.Common.{◌≡◌, ℕ, ◌<◌, ◌≤◌, Bool, true, false, List, [], ◌∷◌, length, Some, None, Result, Ok, Err, refl, ap, sym, ◌∙◌, subst, arith}
use Rattle.std.proofs.lemmas.Bool.Decides.{nat_tests}
use Rattle.std.specs.Prelude.{nat_lt, ◌==◌}
use Rattle.pe_core.specs.Refusals.{◌>>=◌}
use Rattle.pe_pkcs7.specs.Der.{element_at}
use Rattle.pe_pkcs7.specs.Fields.{content_bytes, first_element}
use Rattle.pe_pkcs7.specs.ObjectIds.{attribute_number}
use Rattle.pe_pkcs7.specs.Signers.{FindsAttribute, Sought, attribute, first_with_number, this_or}
use Rattle.pe_pkcs7.specs.Walks.{Items}
use Rattle.pe_pkcs7.specs.declared.der.Element.{Element}
use Rattle.pe_pkcs7.specs.declared.error.SignatureError.{SignatureError}
use Rattle.pe_pkcs7.specs.declared.signer.Attribute.{Attribute}

abbrev pub Elements : Type 0
Elements = List (Result Element SignatureError)

-- what is found from p on is what is found from q on
pub record SearchesOn (s : List ℕ) (number p q : ℕ) : Type 0 where
  pub on : (sought : Sought) → FindsAttribute s number q sought → FindsAttribute s number p sought

abbrev Place : Type 0
Place = List ℕ × ℕ

first_is : (s : List ℕ) (p : ℕ) (read : Result Element SignatureError) → p < length s → element_at s p ≡ read → first_element (s, p) ≡ Some (◌>>=◌ {B = Element × Place} read (λ x. Ok (x, (s, x.end))))
unfolding first_element
first_is s p read lt e = let t : nat_lt p (length s) ≡ true = grind (arith, nat_tests) in rw t (rw e refl)

-- the items of a place where an element stands
items_by : (s : List ℕ) (number p : ℕ) (x : Element) (items : Elements) → first_element (s, p) ≡ Some (Ok (x, (s, x.end))) → Items first_element (s, p) items →
    (more : Elements) × (items ≡ Ok x ∷ more) × Items first_element (s, x.end) more
items_by s number p x [] e h = absurd (cc (e, h))
items_by s number p x (Err r ∷ items) e h = absurd (cc (e, h.0))
items_by s number p x (Ok y ∷ items) e h =
    let pair : (x, (s, x.end)) ≡ (y, h.0) = cc (e, h.1) in
    let same : x ≡ y = ap (λ (z : Element × Place). z.0) pair in
    let left : (s, x.end) ≡ h.0 = ap (λ (z : Element × Place). z.1) pair in
    (items, ap (λ (z : Element). Ok z ∷ items) (sym same), subst (λ (t : Place). Items first_element t items) (sym left) h.2)

found_by : (s : List ℕ) (number p : ℕ) (x : Element) (sought : Sought) → p < length s → element_at s p ≡ Ok x →
    ((more : Elements) → Items first_element (s, x.end) more → sought ≡ this_or s number x.end (attribute s x) (first_with_number s number x.end more)) → FindsAttribute s number p sought
found_by s number p x sought lt e is items h =
    let m = items_by s number p x items (first_is s p (Ok x) lt e) h in
    is m.0 m.2 ∙ ap (first_with_number s number p) (sym m.1)

first_none : (s : List ℕ) (p : ℕ) → length s ≤ p → first_element (s, p) ≡ None
unfolding first_element
first_none s p le = let t : nat_lt p (length s) ≡ false = grind (arith, nat_tests) in rw t refl

refused_by : (s : List ℕ) (number p : ℕ) (e : SignatureError) → first_element (s, p) ≡ Some (Err e) → FindsAttribute s number p (Err e, length s)
refused_by s number p e is [] h = absurd (cc (is, h))
refused_by s number p e is (Ok x ∷ more) h = absurd (cc (is, h.1))
refused_by s number p e is (Err f ∷ more) h = let same : e ≡ f = cc (is, h.0) in ap (λ (z : SignatureError). (Err z, length s)) same

none_by : (s : List ℕ) (number p : ℕ) → first_element (s, p) ≡ None → FindsAttribute s number p (Ok None, p)
none_by s number p is [] h = refl
none_by s number p is (Ok x ∷ more) h = absurd (cc (is, h.1))
none_by s number p is (Err f ∷ more) h = absurd (cc (is, h.0))

other_by : (m n : ℕ) (test : Bool) → (m == n) ≡ test → (m ≡ n → ⊥) → test ≡ false
other_by m n false e h = refl
other_by m n true e h = absurd (h (grind (arith, nat_tests, e)))

by_test : (s : List ℕ) (number : ℕ) (x : Element) (read : Result Attribute SignatureError) (a : Attribute) (later : Sought) → read ≡ Ok a → (attribute_number (content_bytes s a.kind) == number) ≡ false → this_or s number x.end read later ≡ later
by_test s number x (Ok b) a later is t = let same : a ≡ b = cc is in rw (ap (λ (z : Attribute). attribute_number (content_bytes s z.kind) == number) (sym same) ∙ t) refl
by_test s number x (Err e) a later is t = absurd (cc is)

-- ---- what the search comes to

module _ (s : List ℕ) (number p q : ℕ) (on : SearchesOn s number p q) where
  pub at_error : (e : SignatureError) → q < length s → element_at s q ≡ Err e → FindsAttribute s number p (Err e, length s)
  at_error e lt h = on.on (Err e, length s) (refused_by s number q e (first_is s q (Err e) lt h))

  pub at_found : (x : Element) (a : Attribute) → q < length s → element_at s q ≡ Ok x → attribute s x ≡ Ok a → (n : ℕ) → n ≡ attribute_number (content_bytes s a.kind) → n ≡ number → FindsAttribute s number p (Ok (Some a), x.end)
  at_found x a lt h read n of is =
      let t : (attribute_number (content_bytes s a.kind) == number) ≡ true = grind (arith, nat_tests, of, is) in
      on.on (Ok (Some a), x.end) (found_by s number q x (Ok (Some a), x.end) lt h (λ more items. rw read (rw t refl)))

  pub at_refused : (x : Element) (e : SignatureError) → q < length s → element_at s q ≡ Ok x → attribute s x ≡ Err e → FindsAttribute s number p (Err e, x.end)
  at_refused x e lt h read = on.on (Err e, x.end) (found_by s number q x (Err e, x.end) lt h (λ more items. rw read refl))

  pub at_end : length s ≤ q → FindsAttribute s number p (Ok None, q)
  at_end le = on.on (Ok None, q) (none_by s number q (first_none s q le))

  pub passed_over : (x : Element) (a : Attribute) → q < length s → element_at s q ≡ Ok x → attribute s x ≡ Ok a → (n : ℕ) → n ≡ attribute_number (content_bytes s a.kind) → (n ≡ number → ⊥) → SearchesOn s number p x.end
  passed_over x a lt h read n of other =
      let t : (attribute_number (content_bytes s a.kind) == number) ≡ false = other_by (attribute_number (content_bytes s a.kind)) number (attribute_number (content_bytes s a.kind) == number) refl (λ e. other (of ∙ e)) in
      record { on = λ sought f. on.on sought (found_by s number q x sought lt h (λ more items. f more items ∙ sym (by_test s number x (attribute s x) a (first_with_number s number x.end more) read t))) }
