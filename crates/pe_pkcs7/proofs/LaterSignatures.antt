-- All that is read of a signature, later in a file.
use Rattle.std.proofs.Common.{◌≡◌, ℕ, ◌+◌, ◌≤◌, List, length, take, ap, ◌∙◌, arith, ◌||◌, Bool, true, false, [], ◌∷◌, map, Option, Some, None, Result, Ok, Err, if◌then◌else◌, refl, sym, subst}
use Rattle.std.specs.Prelude.{nat_lt, ◌==◌}
use Rattle.pe_core.proofs.Comparisons.{lt_is_not}
use Rattle.pe_core.specs.Refusals.{outcome, ◌>>=◌}
use Rattle.pe_pkcs7.proofs.LaterBytes.{StandLater, cut, stands, element_later, content_later, octets_of_later, lt_later}
use Rattle.pe_pkcs7.proofs.LaterParts.{content_info_later, signed_data_later, encapsulated_later, algorithm_later, type_and_value_later, digest_info_later, indirect_data_later, image_data_later, opus_info_later, signer_info_later, issuer_and_serial_later, attribute_later, certificate_later, to_be_signed_later, validity_later, extension_later, key_usage_later, time_later, tst_info_later, name_later, name_start_later}
use Rattle.pe_pkcs7.specs.Fields.{part_of}
use Rattle.pe_pkcs7.specs.Later.{IsReadAt, later, later_error, later_name, later_name_attribute, later_result}
use Rattle.pe_pkcs7.specs.Names.{Attributes, ItemsOf, NameItems, NameLeft, attribute_at, first_name_attribute}
use Rattle.pe_pkcs7.specs.Tags.{SEQUENCE}
use Rattle.pe_pkcs7.specs.Walks.{First, Items}
use Rattle.pe_pkcs7.specs.declared.der.Element.{Element}
use Rattle.pe_pkcs7.specs.declared.error.SignatureError.{SignatureError}
use Rattle.pe_pkcs7.specs.declared.error.SignatureError.TheVariants.{Tag}
use Rattle.pe_pkcs7.specs.declared.name.NameAttribute.{NameAttribute}
use Rattle.pe_core.proofs.Ranges.{length_range, range_in_range}
use Rattle.pe_core.specs.Bytes.{range}
use Rattle.pe_core.specs.Offsets.{StandAt}
use Rattle.pe_pkcs7.proofs.LaterWalks.{found_later, items_later}

-- A walk through a name that stands later in others returns the same attributes, further on.
abbrev Read : Type 0
Read = Result (NameAttribute × (ℕ × ℕ)) SignatureError

-- what is left of a name
abbrev left_of : List ℕ → ℕ → ℕ → NameLeft
left_of s e p = record { name = s; end = e; offset = p }

-- what stands first, further on in t
abbrev later_first : ℕ → List ℕ → First NameAttribute NameLeft → First NameAttribute NameLeft
later_first k t None = None
later_first k t (Some (Ok x)) = Some (Ok (later_name k x.0, left_of t (x.1.end + k) (x.1.offset + k)))
later_first k t (Some (Err f)) = Some (Err (later_error k f))

first_by : (k : ℕ) (s t : List ℕ) (test : Bool) (r : Read) →
    (if test then Some (◌>>=◌ {B = NameAttribute × NameLeft} (later_result (later_name_attribute k) k r) (λ x. Ok (x.0, left_of t x.1.0 x.1.1))) else None)
    ≡ later_first k t (if test then Some (◌>>=◌ {B = NameAttribute × NameLeft} r (λ x. Ok (x.0, left_of s x.1.0 x.1.1))) else None)
first_by k s t false r = refl
first_by k s t true (Ok x) = refl
first_by k s t true (Err f) = refl

first_is : (k : ℕ) (s t : List ℕ) (e d p q : ℕ) → (nat_lt q d || nat_lt q (length t)) ≡ (nat_lt p e || nat_lt p (length s)) → attribute_at t d q ≡ later_result (later_name_attribute k) k (attribute_at s e p) →
    first_name_attribute (left_of t d q) ≡ later_first k t (first_name_attribute (left_of s e p))
unfolding first_name_attribute
first_is k s t e d p q test read = rw (test, read) (first_by k s t (nat_lt p e || nat_lt p (length s)) (attribute_at s e p))

-- in a relative distinguished name, and before the first
first_later : (k : ℕ) (s t : List ℕ) → StandLater k s t → (e p : ℕ) → first_name_attribute (left_of t (e + k) (p + k)) ≡ later_first k t (first_name_attribute (left_of s e p))
first_later k s t l e p =
    let inside : nat_lt (p + k) (e + k) ≡ nat_lt p e = lt_later p e (p + k) (e + k) k refl refl in
    let more : nat_lt (p + k) (length t) ≡ nat_lt p (length s) = lt_later p (length s) (p + k) (length t) k refl l.size in
    first_is k s t e (e + k) p (p + k) (rw (inside, more) refl) (name_later k s t l e p)

start_later : (k : ℕ) (s t : List ℕ) → StandLater k s t → (p : ℕ) → first_name_attribute (left_of t 0 (p + k)) ≡ later_first k t (first_name_attribute (left_of s 0 p))
start_later k s t l p =
    let more : nat_lt (p + k) (length t) ≡ nat_lt p (length s) = lt_later p (length s) (p + k) (length t) k refl l.size in
    first_is k s t 0 0 p (p + k) (rw (lt_is_not (p + k) 0 (omega arith), lt_is_not p 0 (omega arith), more) refl) (name_start_later k s t l p)

-- a step leaves the same name
kept_by : (s : List ℕ) (test : Bool) (r : Read) (a : NameAttribute) (rest : NameLeft) → (if test then Some (◌>>=◌ {B = NameAttribute × NameLeft} r (λ x. Ok (x.0, left_of s x.1.0 x.1.1))) else None) ≡ Some (Ok (a, rest)) → left_of s rest.end rest.offset ≡ rest
kept_by s false r a rest h = absurd (cc h)
kept_by s true (Err f) a rest h = absurd (cc h)
kept_by s true (Ok x) a rest h =
    let pair : (x.0, left_of s x.1.0 x.1.1) ≡ (a, rest) = cc h in
    let name : s ≡ rest.name = ap (λ (z : NameAttribute × NameLeft). z.1.name) pair in
    rw name refl

kept : (s : List ℕ) (e p : ℕ) (a : NameAttribute) (rest : NameLeft) → first_name_attribute (left_of s e p) ≡ Some (Ok (a, rest)) → left_of s rest.end rest.offset ≡ rest
unfolding first_name_attribute
kept s e p a rest h = kept_by s (nat_lt p e || nat_lt p (length s)) (attribute_at s e p) a rest h

items_by : (k : ℕ) (s t : List ℕ) → StandLater k s t → (e d p q : ℕ) (items : Attributes) → first_name_attribute (left_of t d q) ≡ later_first k t (first_name_attribute (left_of s e p)) → Items first_name_attribute (left_of s e p) items →
    Items first_name_attribute (left_of t d q) (map (later_result (later_name k) k) items)
items_by k s t l e d p q [] first h = first ∙ ap (later_first k t) h
items_by k s t l e d p q (Err f ∷ more) first h = (first ∙ ap (later_first k t) h.0, ap (map (later_result (later_name k) k)) h.1)
items_by k s t l e d p q (Ok a ∷ more) first h =
    let rest : NameLeft = h.0 in
    let same : left_of s rest.end rest.offset ≡ rest = kept s e p a rest h.1 in (
      left_of t (rest.end + k) (rest.offset + k),
      first ∙ ap (later_first k t) h.1,
      items_by k s t l rest.end (rest.end + k) rest.offset (rest.offset + k) more (first_later k s t l rest.end rest.offset) (subst (λ (z : NameLeft). Items first_name_attribute z more) (sym same) h.2),
    )

whole_by : (k : ℕ) (s t : List ℕ) → StandLater k s t → (p : ℕ) (f : SignatureError) (test : Bool) (items : Attributes) →
    ItemsOf (◌>>=◌ {B = Option NameLeft} (outcome ((test, f) ∷ []) s) (λ s. Ok (Some (left_of s 0 p)))) items →
    ItemsOf (◌>>=◌ {B = Option NameLeft} (outcome ((test, later_error k f) ∷ []) t) (λ s. Ok (Some (left_of s 0 (p + k))))) (map (later_result (later_name k) k) items)
whole_by k s t l p f true items h = items_by k s t l 0 0 p (p + k) items (start_later k s t l p) h
whole_by k s t l p f false items h = ap (map (later_result (later_name k) k)) h

pub name_items_later : (k : ℕ) (b c : List ℕ) → StandLater k b c → (x : Element) (items : Attributes) → NameItems b x items → NameItems c (later k x) (map (later_result (later_name k) k) items)
unfolding part_of
name_items_later k b c h x items is =
    whole_by k (take x.end b) (take (x.end + k) c) (cut k b c h x.end) x.content (Tag x.offset SEQUENCE x.tag) (x.tag == SEQUENCE) items is

pub all_read : (f b : List ℕ) (k : ℕ) → StandAt f k b → IsReadAt f b k
all_read f b k at =
    let c : List ℕ = take (k + length b) f in
    let h : StandLater k b c = stands f b k at in
    record {
      element = element_later k b c h;
      contents = content_later k b c h;
      octets = octets_of_later k b c h;
      elements = λ e p items is. items_later k (take e b) (take (e + k) c) (cut k b c h e) p items is;
      found = λ number e p sought is. found_later k (take e b) (take (e + k) c) (cut k b c h e) number p sought is;
      info = content_info_later k b c h;
      signed = signed_data_later k b c h;
      encapsulated = encapsulated_later k b c h;
      algorithm = algorithm_later k b c h;
      typed_value = type_and_value_later k b c h;
      digest = digest_info_later k b c h;
      indirect_data = indirect_data_later k b c h;
      image_data = image_data_later k b c h;
      opus_info = opus_info_later k b c h;
      signer = signer_info_later k b c h;
      signer_name = issuer_and_serial_later k b c h;
      signer_attribute = attribute_later k b c h;
      x509 = certificate_later k b c h;
      x509_fields = to_be_signed_later k b c h;
      valid = validity_later k b c h;
      x509_extension = extension_later k b c h;
      usage = key_usage_later k b c h;
      time = time_later k b c h;
      stamp = tst_info_later k b c h;
      name = name_later k b c h;
      name_start = name_start_later k b c h;
      names = name_items_later k b c h;
    }

-- a part of bytes that stand in a file
part_stands : (f b : List ℕ) (k p n : ℕ) → StandAt f k b → p + n ≤ length b → StandAt f (k + p) (range b p n)
part_stands f b k p n at le =
    let size : length (range b p n) ≡ n = length_range b p n le in
    record {
      inside = omega (arith, size, at.inside, le);
      here = rw size (range_in_range f k (length b) p n at.inside le ∙ ap (λ (xs : List ℕ). range xs p n) at.here);
    }

pub part_read : (f b : List ℕ) (k p n : ℕ) → StandAt f k b → p + n ≤ length b → IsReadAt f (range b p n) (k + p)
part_read f b k p n at le = all_read f (range b p n) (k + p) (part_stands f b k p n at le)
