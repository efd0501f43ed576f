-- Names: the attributes of the relative distinguished names in turn. (RFC 5280, 4.1.2.4.) `b` are the bytes up to the end of a
-- Name, `e` is the end of the relative distinguished name that is read, `p` is where its next attribute starts.
use Rattle.std.specs.Prelude.{◌≡◌, ℕ, ◌+◌, ◌-◌, ◌||◌, List, [], ◌∷◌, length, take, Bool, true, false, nat_lt, Option, Some, None, Result, Ok, Err, if◌then◌else◌}
use Rattle.std.specs.Option.{option_map}
use Rattle.pe_core.specs.Refusals.{◌>>=◌}
use Rattle.pe_pkcs7.specs.Fields.{any_field, field, ends_at, first_element, part_of, with_tag}
use Rattle.pe_pkcs7.specs.Tags.{OBJECT_IDENTIFIER, SEQUENCE, SET}
use Rattle.pe_pkcs7.specs.Walks.{First, Items, ItemsLeft}
use Rattle.pe_pkcs7.specs.declared.der.Element.{Element}
use Rattle.pe_pkcs7.specs.declared.name.NameAttribute.{NameAttribute}
use Rattle.pe_pkcs7.specs.declared.name.NameAttributes.{NameAttributes}
use Rattle.pe_pkcs7.specs.declared.error.SignatureError.{SignatureError}
use Rattle.pe_pkcs7.specs.declared.error.SignatureError.TheVariants.{Missing}

-- AttributeTypeAndValue ::= SEQUENCE { type OBJECT IDENTIFIER, value ANY }
unfoldable pub name_attribute : List ℕ → Element → Bool → Result NameAttribute SignatureError
name_attribute b x starts =
    part_of SEQUENCE b x >>= λ s.
    field OBJECT_IDENTIFIER s x.content >>= λ kind.
    any_field s kind.end >>= λ value.
    ends_at s value.end (record { kind = kind; value = value; starts_rdn = starts })

-- the attribute at p in a relative distinguished name that ends at e, with this end and where what follows starts
unfoldable pub attribute_in : List ℕ → ℕ → ℕ → Bool → Result (NameAttribute × (ℕ × ℕ)) SignatureError
attribute_in b e p starts =
    any_field (take e b) p >>= λ x.
    name_attribute (take e b) x starts >>= λ a.
    Ok (a, (e, x.end))

-- the attribute at p: in the relative distinguished name that is read, which ends at e, or the first of the next one
-- RelativeDistinguishedName ::= SET SIZE (1..MAX) OF AttributeTypeAndValue
unfoldable pub attribute_at : List ℕ → ℕ → ℕ → Result (NameAttribute × (ℕ × ℕ)) SignatureError
attribute_at b e p =
    if nat_lt p e then attribute_in b e p false
    else (field SET b p >>= λ r. attribute_in b r.end r.content true)

-- what is left of a Name: its bytes, the end of the relative distinguished name that is read, where what is left starts
pub record NameLeft : Type 0 where
  pub name : List ℕ
  pub end : ℕ
  pub offset : ℕ

-- the attribute that stands first in what is left
-- Name ::= SEQUENCE OF RelativeDistinguishedName
unfoldable pub first_name_attribute : NameLeft → First NameAttribute NameLeft
first_name_attribute s =
    if nat_lt s.offset s.end || nat_lt s.offset (length s.name)
    then Some (attribute_at s.name s.end s.offset >>= λ x. Ok (x.0, record { name = s.name; end = x.1.0; offset = x.1.1 }))
    else None

-- what a walk through a Name starts with: all of it
abbrev pub whole_name : List ℕ → Element → Result (Option NameLeft) SignatureError
whole_name b x = part_of SEQUENCE b x >>= λ s. Ok (Some (record { name = s; end = 0; offset = x.content }))

-- what a walk has left
abbrev pub name_left : NameAttributes → Option NameLeft
name_left s = option_map (λ p. record { name = s.name.now; end = s.end; offset = p }) s.next_offset

abbrev pub most_attributes : Option NameLeft → ℕ
most_attributes None = 0
most_attributes (Some s) = length s.name - s.offset + 1

-- the items of a walk through the name that an element is; its error, if it is none
abbrev pub ItemsOf : Result (Option NameLeft) SignatureError → List (Result NameAttribute SignatureError) → Type 0
ItemsOf (Ok left) items = ItemsLeft first_name_attribute left items
ItemsOf (Err e) items = items ≡ Err e ∷ []

abbrev pub NameItems : List ℕ → Element → List (Result NameAttribute SignatureError) → Type 0
NameItems b x items = ItemsOf (whole_name b x) items

-- ---- the list of the grammar, by the elements of the Name and of each relative distinguished name. Nothing follows an error

abbrev pub Attributes : Type 0
Attributes = List (Result NameAttribute SignatureError)

-- an attribute, and those after it
abbrev pub before : Result NameAttribute SignatureError → Attributes → Attributes
before (Ok a) more = Ok a ∷ more
before (Err e) more = Err e ∷ []

-- the attributes that elements are, and those after them; the first of a relative distinguished name starts it
abbrev pub each_before : List ℕ → Bool → List (Result Element SignatureError) → Attributes → Attributes
each_before s starts [] more = more
each_before s starts (Err e ∷ elements) more = Err e ∷ []
each_before s starts (Ok x ∷ elements) more = before (name_attribute s x starts) (each_before s false elements more)

-- RelativeDistinguishedName ::= SET SIZE (1..MAX) OF AttributeTypeAndValue, with its content at p
abbrev pub rdn_before : List ℕ → ℕ → List (Result Element SignatureError) → Attributes → Attributes
rdn_before s p [] more = Err (Missing p) ∷ []
rdn_before s p (x ∷ elements) more = each_before s true (x ∷ elements) more

-- the attributes of a relative distinguished name, if the element is a SET, and those after them
abbrev pub RdnBefore : List ℕ → Result Element SignatureError → Attributes → Attributes → Type 0
RdnBefore b (Err e) more all = all ≡ Err e ∷ []
RdnBefore b (Ok r) more all = (elements : List (Result Element SignatureError)) ×
    Items first_element (take r.end b, r.content) elements × (all ≡ rdn_before (take r.end b) r.content elements more)

-- Name ::= SEQUENCE OF RelativeDistinguishedName: the attributes of each in turn, by the elements of the SEQUENCE
abbrev pub IsName : List ℕ → List (Result Element SignatureError) → Attributes → Type 0
IsName b [] all = all ≡ []
IsName b (Err e ∷ rdns) all = all ≡ Err e ∷ []
IsName b (Ok r ∷ rdns) all = (more : Attributes) × IsName b rdns more × RdnBefore b (with_tag SET r) more all
