-- After an element, and after an attribute of a name, fewer bytes are left.
use Rattle.std.proofs.Common.{◌≡◌, ℕ, ◌-◌, ◌<◌, ◌≤◌, ◌||◌, Bool, true, false, List, [], ◌∷◌, length, take, Some, None, Result, Ok, Err, if◌then◌else◌, refl, ap, arith}
use Rattle.std.proofs.lemmas.Bool.Decides.{nat_tests}
use Rattle.std.proofs.lemmas.List.{length-take}
use Rattle.std.specs.Prelude.{nat_lt}
use Rattle.pe_core.specs.Refusals.{outcome, ◌>>=◌}
use Rattle.pe_pkcs7.specs.Der.{element_at}
use Rattle.pe_pkcs7.specs.Fields.{first_element, any_field, with_tag, field}
use Rattle.pe_pkcs7.specs.Names.{name_attribute, attribute_in, attribute_at, NameLeft, first_name_attribute}
use Rattle.pe_pkcs7.specs.Tags.{SET}
use Rattle.pe_pkcs7.specs.declared.der.Element.{Element}
use Rattle.pe_pkcs7.specs.declared.name.NameAttribute.{NameAttribute}
use Rattle.pe_pkcs7.specs.declared.error.SignatureError.{SignatureError}
use Rattle.pe_pkcs7.proofs.Reading.{given, within}

-- ---- elements

abbrev pub Place : Type 0
Place = List ℕ × ℕ

abbrev pub place_size : Place → ℕ
place_size s = length s.0 - s.1

fewer : (b : List ℕ) (p : ℕ) (test : Bool) (read : Result Element SignatureError) (x : Element) (t : Place) → nat_lt p (length b) ≡ test → element_at b p ≡ read → (if test then Some (◌>>=◌ {B = Element × Place} read (λ x. Ok (x, (b, x.end)))) else None) ≡ Some (Ok (x, t)) → place_size t < length b - p
fewer b p false read x t test e h = absurd (cc h)
fewer b p true (Err f) x t test e h = absurd (cc h)
fewer b p true (Ok y) x t test e h =
    let pair : (y, (b, y.end)) ≡ (x, t) = cc h in
    let left : (b, y.end) ≡ t = ap (λ (z : Element × Place). z.1) pair in
    let size : length b - y.end ≡ place_size t = ap place_size left in
    let lt : p < length b = grind (arith, nat_tests, test) in
    let k = within b p y e in
    omega (arith, size, lt, k.1, k.2)

pub element_shrinks : (s : Place) (x : Element) (t : Place) → first_element s ≡ Some (Ok (x, t)) → place_size t < place_size s
unfolding first_element
element_shrinks s x t h = fewer s.0 s.1 (nat_lt s.1 (length s.0)) (element_at s.0 s.1) x t refl refl h

-- ---- fields

any_by : (b : List ℕ) (p : ℕ) (test : Bool) (x : Element) (e : SignatureError) → nat_lt p (length b) ≡ test → (if test then element_at b p else Err e) ≡ Ok x → (p < length b) × (p < x.content) × (x.content ≤ x.end)
any_by b p false x e test h = absurd (cc h)
any_by b p true x e test h = let k = within b p x h in (grind (arith, nat_tests, test), k.1, k.2)

any_within : (b : List ℕ) (p : ℕ) (x : Element) → any_field b p ≡ Ok x → (p < length b) × (p < x.content) × (x.content ≤ x.end)
unfolding any_field
any_within b p x h = any_by b p (nat_lt p (length b)) x _ refl h

tag_kept : (test : Bool) (e : SignatureError) (x y : Element) → outcome ((test, e) ∷ []) x ≡ Ok y → x ≡ y
tag_kept true e x y h = cc h
tag_kept false e x y h = absurd (cc h)

field_within : (tag : ℕ) (b : List ℕ) (p : ℕ) (x : Element) → field tag b p ≡ Ok x → (p < length b) × (p < x.content) × (x.content ≤ x.end)
unfolding field
field_within tag b p x h =
    let g = given (any_field b p) (with_tag tag) x h in
    let k = any_within b p g.0 g.1 in
    let same : g.0 ≡ x = tag_kept _ _ g.0 x g.2 in
    (k.0, omega (arith, k.1, ap (λ (y : Element). y.content) same), omega (arith, k.2, ap (λ (y : Element). y.content) same, ap (λ (y : Element). y.end) same))

-- ---- attributes of a name

abbrev pub Read : Type 0
Read = NameAttribute × (ℕ × ℕ)

in_within : (b : List ℕ) (e p : ℕ) (starts : Bool) (r : Read) → attribute_in b e p starts ≡ Ok r → (p < length b) × (p < r.1.1)
unfolding attribute_in
in_within b e p starts r h =
    let g = given (any_field (take e b) p) (λ (x : Element). ◌>>=◌ {B = Read} (name_attribute (take e b) x starts) (λ a. Ok (a, (e, x.end)))) r h in
    let f = given (name_attribute (take e b) g.0 starts) (λ (a : NameAttribute). Ok (a, (e, g.0.end))) r g.2 in
    let pair : (f.0, (e, g.0.end)) ≡ r = cc f.2 in
    let end : g.0.end ≡ r.1.1 = ap (λ (z : Read). z.1.1) pair in
    let k = any_within (take e b) p g.0 g.1 in
    (omega (arith, k.0, length-take e b), omega (arith, k.1, k.2, end))

at_by : (b : List ℕ) (e p : ℕ) (test : Bool) (r : Read) → (if test then attribute_in b e p false else (field SET b p >>= λ x. attribute_in b x.end x.content true)) ≡ Ok r → (p < length b) × (p < r.1.1)
at_by b e p true r h = in_within b e p false r h
at_by b e p false r h =
    let g = given (field SET b p) (λ (x : Element). attribute_in b x.end x.content true) r h in
    let k = field_within SET b p g.0 g.1 in
    let m = in_within b g.0.end g.0.content true r g.2 in
    (k.0, omega (arith, k.1, m.1))

at_within : (b : List ℕ) (e p : ℕ) (r : Read) → attribute_at b e p ≡ Ok r → (p < length b) × (p < r.1.1)
unfolding attribute_at
at_within b e p r h = at_by b e p (nat_lt p e) r h

abbrev pub name_size : NameLeft → ℕ
name_size s = length s.name - s.offset

fewer_in : (s : NameLeft) (test : Bool) (read : Result Read SignatureError) (x : NameAttribute) (t : NameLeft) → attribute_at s.name s.end s.offset ≡ read → (if test then Some (◌>>=◌ {B = NameAttribute × NameLeft} read (λ r. Ok (r.0, record { name = s.name; end = r.1.0; offset = r.1.1 }))) else None) ≡ Some (Ok (x, t)) → name_size t < name_size s
fewer_in s false read x t e h = absurd (cc h)
fewer_in s true (Err f) x t e h = absurd (cc h)
fewer_in s true (Ok r) x t e h =
    let after : NameLeft = record { name = s.name; end = r.1.0; offset = r.1.1 } in
    let pair : (r.0, after) ≡ (x, t) = cc h in
    let size : length s.name - r.1.1 ≡ name_size t = ap (λ (z : NameAttribute × NameLeft). name_size z.1) pair in
    let k = at_within s.name s.end s.offset r e in
    omega (arith, size, k.0, k.1)

pub name_shrinks : (s : NameLeft) (x : NameAttribute) (t : NameLeft) → first_name_attribute s ≡ Some (Ok (x, t)) → name_size t < name_size s
unfolding first_name_attribute
name_shrinks s x t h = fewer_in s (nat_lt s.offset s.end || nat_lt s.offset (length s.name)) (attribute_at s.name s.end s.offset) x t refl h
