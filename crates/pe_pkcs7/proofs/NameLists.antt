-- The attributes of a name, by its relative distinguished names.
use Rattle.std.proofs.Common.{◌≡◌, ℕ, ◌<◌, ◌≤◌, ◌||◌, Bool, true, false, List, [], ◌∷◌, length, take, Option, Some, None, Result, Ok, Err, if◌then◌else◌, refl, ap, sym, ◌∙◌, subst, arith}
use Rattle.std.proofs.lemmas.Bool.Decides.{nat_tests}
use Rattle.std.proofs.lemmas.List.{length-take}
use Rattle.std.specs.Prelude.{nat_lt}
use Rattle.pe_core.specs.Refusals.{outcome, ◌>>=◌}
use Rattle.pe_pkcs7.proofs.Reading.{within}
use Rattle.pe_pkcs7.proofs.Shrinking.{place_size, element_shrinks, name_size, name_shrinks}
use Rattle.pe_pkcs7.proofs.WholeWalks.{one_list}
use Rattle.pe_pkcs7.specs.Der.{element_at}
use Rattle.pe_pkcs7.specs.Fields.{any_field, field, first_element, with_tag}
use Rattle.pe_pkcs7.specs.Names.{Attributes, IsName, NameLeft, RdnBefore, attribute_at, attribute_in, before, each_before, first_name_attribute, name_attribute, rdn_before}
use Rattle.pe_pkcs7.specs.Tags.{SET}
use Rattle.pe_pkcs7.specs.Walks.{Items}
use Rattle.pe_pkcs7.specs.declared.der.Element.{Element}
use Rattle.pe_pkcs7.specs.declared.error.SignatureError.{SignatureError}
use Rattle.pe_pkcs7.specs.declared.error.SignatureError.TheVariants.{Missing}
use Rattle.pe_pkcs7.specs.declared.name.NameAttribute.{NameAttribute}

abbrev Place : Type 0
Place = List ℕ × ℕ

abbrev Elements : Type 0
Elements = List (Result Element SignatureError)

abbrev Read : Type 0
Read = NameAttribute × (ℕ × ℕ)

-- ---- what stands first

-- where an element stands first
record Stands (s : List ℕ) (p : ℕ) (x : Element) (t : Place) : Type 0 where
  inside : p < length s
  read : element_at s p ≡ Ok x
  left : t ≡ (s, x.end)

stands_by : (s : List ℕ) (p : ℕ) (test : Bool) (read : Result Element SignatureError) (x : Element) (t : Place) → nat_lt p (length s) ≡ test → element_at s p ≡ read → (if test then Some (◌>>=◌ {B = Element × Place} read (λ x. Ok (x, (s, x.end)))) else None) ≡ Some (Ok (x, t)) → Stands s p x t
stands_by s p false read x t test e h = absurd (cc h)
stands_by s p true (Err f) x t test e h = absurd (cc h)
stands_by s p true (Ok y) x t test e h =
    let pair : (y, (s, y.end)) ≡ (x, t) = cc h in
    let same : y ≡ x = ap (λ (z : Element × Place). z.0) pair in
    record {
      inside = grind (arith, nat_tests, test);
      read = e ∙ ap (λ (z : Element). Ok z) same;
      left = sym (ap (λ (z : Element × Place). z.1) pair) ∙ ap (λ (z : Element). (s, z.end)) same;
    }

stands : (s : List ℕ) (p : ℕ) (x : Element) (t : Place) → first_element (s, p) ≡ Some (Ok (x, t)) → Stands s p x t
unfolding first_element
stands s p x t h = stands_by s p (nat_lt p (length s)) (element_at s p) x t refl refl h

refused_by : (s : List ℕ) (p : ℕ) (test : Bool) (read : Result Element SignatureError) (f : SignatureError) → nat_lt p (length s) ≡ test → element_at s p ≡ read → (if test then Some (◌>>=◌ {B = Element × Place} read (λ x. Ok (x, (s, x.end)))) else None) ≡ Some (Err f) → (p < length s) × (element_at s p ≡ Err f)
refused_by s p false read f test e h = absurd (cc h)
refused_by s p true (Err g) f test e h = let same : g ≡ f = cc h in (grind (arith, nat_tests, test), e ∙ ap (λ (z : SignatureError). Err z) same)
refused_by s p true (Ok y) f test e h = absurd (cc h)

refused : (s : List ℕ) (p : ℕ) (f : SignatureError) → first_element (s, p) ≡ Some (Err f) → (p < length s) × (element_at s p ≡ Err f)
unfolding first_element
refused s p f h = refused_by s p (nat_lt p (length s)) (element_at s p) f refl refl h

over_by : (s : List ℕ) (p : ℕ) (test : Bool) (read : Option (Result (Element × Place) SignatureError)) → nat_lt p (length s) ≡ test → read ≡ Some (element_at s p >>= λ x. Ok (x, (s, x.end))) → (if test then read else None) ≡ None → length s ≤ p
over_by s p false read test e h = grind (arith, nat_tests, test)
over_by s p true read test e h = absurd (cc (e, h))

over : (s : List ℕ) (p : ℕ) → first_element (s, p) ≡ None → length s ≤ p
unfolding first_element
over s p h = over_by s p (nat_lt p (length s)) _ refl refl h

-- ---- what stands first in a name

or_true : (test : Bool) → (test || true) ≡ true
or_true true = refl
or_true false = refl

first_read : (b : List ℕ) (e p : ℕ) (read : Result Read SignatureError) → p < length b → attribute_at b e p ≡ read →
    first_name_attribute (record { name = b; end = e; offset = p }) ≡ Some (◌>>=◌ {B = NameAttribute × NameLeft} read (λ r. Ok (r.0, record { name = b; end = r.1.0; offset = r.1.1 })))
unfolding first_name_attribute
first_read b e p read lt h =
    let t : nat_lt p (length b) ≡ true = grind (arith, nat_tests) in
    let test : (nat_lt p e || nat_lt p (length b)) ≡ true = ap (λ (z : Bool). nat_lt p e || z) t ∙ or_true (nat_lt p e) in
    rw test (rw h refl)

first_none : (b : List ℕ) (e p : ℕ) → e ≤ p → length b ≤ p → first_name_attribute (record { name = b; end = e; offset = p }) ≡ None
unfolding first_name_attribute
first_none b e p le all =
    let t : nat_lt p e ≡ false = grind (arith, nat_tests) in
    let u : nat_lt p (length b) ≡ false = grind (arith, nat_tests) in
    rw t (rw u refl)

-- the next relative distinguished name, and the same one
at_next : (b : List ℕ) (e p : ℕ) → e ≤ p → attribute_at b e p ≡ (field SET b p >>= λ r. attribute_in b r.end r.content true)
unfolding attribute_at
at_next b e p le = let t : nat_lt p e ≡ false = grind (arith, nat_tests) in rw t refl

at_same : (b : List ℕ) (e p : ℕ) → p < e → attribute_at b e p ≡ attribute_in b e p false
unfolding attribute_at
at_same b e p lt = let t : nat_lt p e ≡ true = grind (arith, nat_tests) in rw t refl

any_there : (s : List ℕ) (p : ℕ) → p < length s → any_field s p ≡ element_at s p
unfolding any_field
any_there s p lt = let t : nat_lt p (length s) ≡ true = grind (arith, nat_tests) in rw t refl

any_missing : (s : List ℕ) (p : ℕ) → length s ≤ p → any_field s p ≡ Err (Missing p)
unfolding any_field
any_missing s p le = let t : nat_lt p (length s) ≡ false = grind (arith, nat_tests) in rw t refl

in_read : (b : List ℕ) (e p : ℕ) (starts : Bool) (x : Element) → any_field (take e b) p ≡ Ok x → attribute_in b e p starts ≡ ◌>>=◌ {B = Read} (name_attribute (take e b) x starts) (λ a. Ok (a, (e, x.end)))
unfolding attribute_in
in_read b e p starts x h = rw h refl

in_refused : (b : List ℕ) (e p : ℕ) (starts : Bool) (f : SignatureError) → any_field (take e b) p ≡ Err f → attribute_in b e p starts ≡ Err f
unfolding attribute_in
in_refused b e p starts f h = rw h refl

-- an attribute, and those after it
one_by : (b : List ℕ) (e p n : ℕ) (x : Element) (read : Result NameAttribute SignatureError) (more : Attributes) → p < length b → attribute_at b e p ≡ ◌>>=◌ {B = Read} read (λ a. Ok (a, (n, x.end))) →
    Items first_name_attribute (record { name = b; end = n; offset = x.end }) more → Items first_name_attribute (record { name = b; end = e; offset = p }) (before read more)
one_by b e p n x (Ok a) more lt h items = (record { name = b; end = n; offset = x.end }, first_read b e p _ lt h, items)
one_by b e p n x (Err f) more lt h items = (first_read b e p _ lt h, refl)

none_by : (b : List ℕ) (e p : ℕ) (f : SignatureError) → p < length b → attribute_at b e p ≡ Err f → Items first_name_attribute (record { name = b; end = e; offset = p }) (Err f ∷ [])
none_by b e p f lt h = (first_read b e p _ lt h, refl)

-- ---- the rest of a relative distinguished name

in_rdn : (b : List ℕ) (e q : ℕ) (elements : Elements) (more : Attributes) → e ≤ length b → q ≤ e → Items first_element (take e b, q) elements → Items first_name_attribute (record { name = b; end = e; offset = e }) more →
    Items first_name_attribute (record { name = b; end = e; offset = q }) (each_before (take e b) false elements more)
in_rdn b e q [] more inside le h items =
    let all : length (take e b) ≤ q = over (take e b) q h in
    let same : e ≡ q = omega (arith, all, le, inside, length-take e b) in
    subst (λ (n : ℕ). Items first_name_attribute (record { name = b; end = e; offset = n }) more) same items
in_rdn b e q (Err f ∷ elements) more inside le h items =
    let k = refused (take e b) q f h.0 in
    let lt : q < e = omega (arith, k.0, inside, length-take e b) in
    none_by b e q f (omega (arith, lt, inside)) (at_same b e q lt ∙ in_refused b e q false f (any_there (take e b) q k.0 ∙ k.1))
in_rdn b e q (Ok x ∷ elements) more inside le h items =
    let k = stands (take e b) q x h.0 h.1 in
    let lt : q < e = omega (arith, k.inside, inside, length-take e b) in
    let w = within (take e b) q x k.read in
    let rest = in_rdn b e x.end elements more inside (omega (arith, w.3, inside, length-take e b)) (subst (λ (t : Place). Items first_element t elements) k.left h.2) items in
    one_by b e q e x (name_attribute (take e b) x false) _ (omega (arith, lt, inside)) (at_same b e q lt ∙ in_read b e q false x (any_there (take e b) q k.inside ∙ k.read)) rest

-- ---- all of them

-- the first element of one
rdn_first : (b : List ℕ) (e p : ℕ) (r : Element) (elements : Elements) (more : Attributes) → p < length b → r.end ≤ length b → attribute_at b e p ≡ attribute_in b r.end r.content true → r.content ≤ r.end →
    Items first_element (take r.end b, r.content) elements → Items first_name_attribute (record { name = b; end = r.end; offset = r.end }) more →
    Items first_name_attribute (record { name = b; end = e; offset = p }) (rdn_before (take r.end b) r.content elements more)
rdn_first b e p r [] more lt inside at le h items =
    none_by b e p _ lt (at ∙ in_refused b r.end r.content true _ (any_missing (take r.end b) r.content (over (take r.end b) r.content h)))
rdn_first b e p r (Err f ∷ elements) more lt inside at le h items =
    let k = refused (take r.end b) r.content f h.0 in
    none_by b e p f lt (at ∙ in_refused b r.end r.content true f (any_there (take r.end b) r.content k.0 ∙ k.1))
rdn_first b e p r (Ok x ∷ elements) more lt inside at le h items =
    let k = stands (take r.end b) r.content x h.0 h.1 in
    let w = within (take r.end b) r.content x k.read in
    let rest = in_rdn b r.end x.end elements more inside (omega (arith, w.3, inside, length-take r.end b)) (subst (λ (t : Place). Items first_element t elements) k.left h.2) items in
    one_by b e p r.end x (name_attribute (take r.end b) x true) _ lt (at ∙ in_read b r.end r.content true x (any_there (take r.end b) r.content k.inside ∙ k.read)) rest

tag_kept : (test : Bool) (e : SignatureError) (x y : Element) → outcome ((test, e) ∷ []) x ≡ Ok y → x ≡ y
tag_kept true e x y h = cc h
tag_kept false e x y h = absurd (cc h)

set_at : (b : List ℕ) (p : ℕ) (r : Element) (tagged : Result Element SignatureError) → p < length b → element_at b p ≡ Ok r → with_tag SET r ≡ tagged → field SET b p ≡ tagged
unfolding field
set_at b p r tagged lt e h = rw (any_there b p lt ∙ e) h

set_refused : (b : List ℕ) (p : ℕ) (f : SignatureError) → p < length b → element_at b p ≡ Err f → field SET b p ≡ Err f
unfolding field
set_refused b p f lt e = rw (any_there b p lt ∙ e) refl

rdn_by : (b : List ℕ) (e p : ℕ) (r : Element) (tagged : Result Element SignatureError) (more all : Attributes) → e ≤ p → p < length b → element_at b p ≡ Ok r → with_tag SET r ≡ tagged →
    Items first_name_attribute (record { name = b; end = r.end; offset = r.end }) more → RdnBefore b tagged more all → Items first_name_attribute (record { name = b; end = e; offset = p }) all
rdn_by b e p r (Err f) more all le lt read tag items h =
    subst (λ (xs : Attributes). Items first_name_attribute (record { name = b; end = e; offset = p }) xs) (sym h)
    (none_by b e p f lt (at_next b e p le ∙ ap (λ (z : Result Element SignatureError). z >>= λ r. attribute_in b r.end r.content true) (set_at b p r (Err f) lt read tag)))
rdn_by b e p r (Ok t) more all le lt read tag items h =
    let same : r ≡ t = tag_kept _ _ r t tag in
    let w = within b p t (read ∙ ap (λ (z : Element). Ok z) same) in
    let at : attribute_at b e p ≡ attribute_in b t.end t.content true = at_next b e p le ∙ ap (λ (z : Result Element SignatureError). z >>= λ r. attribute_in b r.end r.content true) (set_at b p r (Ok t) lt read tag) in
    subst (λ (xs : Attributes). Items first_name_attribute (record { name = b; end = e; offset = p }) xs) (sym h.2)
    (rdn_first b e p t h.0 more lt w.3 at w.2 h.1 (subst (λ (z : Element). Items first_name_attribute (record { name = b; end = z.end; offset = z.end }) more) same items))

listed : (b : List ℕ) (e p : ℕ) (rdns : Elements) (all : Attributes) → e ≤ p → Items first_element (b, p) rdns → IsName b rdns all → Items first_name_attribute (record { name = b; end = e; offset = p }) all
listed b e p [] all le h is = rw is (first_none b e p le (over b p h))
listed b e p (Err f ∷ rdns) all le h is =
    let k = refused b p f h.0 in
    subst (λ (xs : Attributes). Items first_name_attribute (record { name = b; end = e; offset = p }) xs) (sym is)
    (none_by b e p f k.0 (at_next b e p le ∙ ap (λ (z : Result Element SignatureError). z >>= λ r. attribute_in b r.end r.content true) (set_refused b p f k.0 k.1)))
listed b e p (Ok r ∷ rdns) all le h is =
    let k = stands b p r h.0 h.1 in
    let rest = listed b r.end r.end rdns is.0 (omega arith) (subst (λ (t : Place). Items first_element t rdns) k.left h.2) is.1 in
    rdn_by b e p r (with_tag SET r) is.0 all le k.inside k.read refl rest is.2

-- every list of relative distinguished names has its attributes
rdn_exists : (b : List ℕ) (tagged : Result Element SignatureError) (more : Attributes) → (all : Attributes) × RdnBefore b tagged more all
rdn_exists b (Err f) more = (Err f ∷ [], refl)
rdn_exists b (Ok r) more =
    let k = (one_list place_size first_element element_shrinks).exists (take r.end b, r.content) in
    (rdn_before (take r.end b) r.content k.0 more, (k.0, k.1, refl))

name_exists : (b : List ℕ) (rdns : Elements) → (all : Attributes) × IsName b rdns all
name_exists b [] = ([], refl)
name_exists b (Err f ∷ rdns) = (Err f ∷ [], refl)
name_exists b (Ok r ∷ rdns) =
    let k = name_exists b rdns in
    let m = rdn_exists b (with_tag SET r) k.0 in
    (m.0, (k.0, k.1, m.1))

pub is_name : (b : List ℕ) (p : ℕ) (rdns : Elements) (all : Attributes) → Items first_element (b, p) rdns → Items first_name_attribute (record { name = b; end = 0; offset = p }) all → IsName b rdns all
is_name b p rdns all h items =
    let k = name_exists b rdns in
    let same : k.0 ≡ all = (one_list name_size first_name_attribute name_shrinks).once (record { name = b; end = 0; offset = p }) k.0 all (listed b 0 p rdns k.0 (omega arith) h k.1) items in
    subst (IsName b rdns) same k.1

pub of_the_grammar : (b : List ℕ) (p : ℕ) (rdns : Elements) (all : Attributes) → Items first_element (b, p) rdns → IsName b rdns all → Items first_name_attribute (record { name = b; end = 0; offset = p }) all
of_the_grammar b p rdns all h is = listed b 0 p rdns all (omega arith) h is
