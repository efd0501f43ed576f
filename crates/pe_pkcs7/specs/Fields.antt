-- The fields of a SEQUENCE, one after the other. (X.690: 8.9; the grammars of RFC 5652 and RFC 5280.) `b` are the bytes up to the
-- end of the SEQUENCE, `p` is the offset where a field starts.
use Rattle.std.specs.Prelude.{◌≡◌, ℕ, ◌+◌, ◌-◌, ◌==◌, ◌&&◌, List, [], ◌∷◌, length, take, drop, nat_le, nat_lt, slice_index, Option, Some, None, Result, Ok, Err, if◌then◌else◌}
use Rattle.std.specs.Option.{option_map}
use Rattle.pe_core.specs.Refusals.{outcome, ◌>>=◌}
use Rattle.pe_pkcs7.specs.Der.{element_at}
use Rattle.pe_pkcs7.specs.Walks.{First}
use Rattle.pe_pkcs7.specs.declared.der.Element.{Element}
use Rattle.pe_pkcs7.specs.declared.fields.Elements.{Elements}
use Rattle.pe_pkcs7.specs.declared.error.SignatureError.{SignatureError}
use Rattle.pe_pkcs7.specs.declared.error.SignatureError.TheVariants.{Missing, Tag, Trailing}

-- the bytes up to the end of an element; all, if they end before it
abbrev pub up_to_end : List ℕ → Element → List ℕ
up_to_end b x = take x.end b

-- ---- elements, one after the other

-- the element that stands first
unfoldable pub first_element : List ℕ × ℕ → First Element (List ℕ × ℕ)
first_element s = if nat_lt s.1 (length s.0) then Some (element_at s.0 s.1 >>= λ x. Ok (x, (s.0, x.end))) else None

-- the bytes that a walk is over, and where what is left starts
abbrev pub elements_left : Elements → Option (List ℕ × ℕ)
elements_left s = option_map (λ p. (s.part.now, p)) s.next_offset

-- how many elements are left at most
abbrev pub most_elements : Option (List ℕ × ℕ) → ℕ
most_elements None = 0
most_elements (Some s) = length s.0 - s.1 + 1

-- ---- fields

-- a field of any type
unfoldable pub any_field : List ℕ → ℕ → Result Element SignatureError
any_field b p = if nat_lt p (length b) then element_at b p else Err (Missing p)

-- a field of any type that may be left out, which only the last one may
unfoldable pub any_optional : List ℕ → ℕ → Result (Option Element) SignatureError
any_optional b p = if nat_lt p (length b) then (element_at b p >>= λ x. Ok (Some x)) else Ok None

-- an element, if it has this tag
abbrev pub with_tag : ℕ → Element → Result Element SignatureError
with_tag tag x = outcome ((x.tag == tag, Tag x.offset tag x.tag) ∷ []) x

-- a field with this tag
unfoldable pub field : ℕ → List ℕ → ℕ → Result Element SignatureError
field tag b p = any_field b p >>= λ x. with_tag tag x

-- a field with this tag that may be left out
unfoldable pub optional : ℕ → List ℕ → ℕ → Result (Option Element) SignatureError
optional tag b p = if nat_lt p (length b) && slice_index b p == tag then (element_at b p >>= λ x. Ok (Some x)) else Ok None

-- the offset after such a field, which would start at p
abbrev pub after : ℕ → Option Element → ℕ
after p None = p
after p (Some x) = x.end

-- the value, if the fields before p are all that there are
abbrev pub ends_at : {Y : Type 0} → List ℕ → ℕ → Y → Result Y SignatureError
ends_at b p value = outcome ((nat_le (length b) p, Trailing p (length b - p)) ∷ []) value

-- ---- elements that others contain

-- the bytes up to the end of an element, if it has this tag
unfoldable pub part_of : ℕ → List ℕ → Element → Result (List ℕ) SignatureError
part_of tag b x = outcome ((x.tag == tag, Tag x.offset tag x.tag) ∷ []) (up_to_end b x)

-- the only element in the content of another
unfoldable pub only_element : List ℕ → Element → Result Element SignatureError
only_element b x = any_field (up_to_end b x) x.content >>= λ y. ends_at (up_to_end b x) y.end y

-- the same of one that may be left out
unfoldable pub only_if_there : List ℕ → Option Element → Result (Option Element) SignatureError
only_if_there b None = Ok None
only_if_there b (Some x) = only_element b x >>= λ y. Ok (Some y)

-- the same of one that may be left out, whose content has this tag
unfoldable pub only_with_tag : ℕ → List ℕ → Option Element → Result (Option Element) SignatureError
only_with_tag tag b None = Ok None
only_with_tag tag b (Some x) = only_element b x >>= λ y. with_tag tag y >>= λ z. Ok (Some z)

-- the content of an element
unfoldable pub content_bytes : List ℕ → Element → List ℕ
content_bytes b x = drop x.content (up_to_end b x)

-- all octets of an element
unfoldable pub element_bytes : List ℕ → Element → List ℕ
element_bytes b x = drop x.offset (up_to_end b x)

-- ---- what calls return

-- the call returned the defined value, seen by view, or the defined error
abbrev pub Gives : {X Y : Type 0} → (X → Y) → Result X SignatureError → Result Y SignatureError → Type 0
Gives view (Ok x) defined = defined ≡ Ok (view x)
Gives view (Err e) defined = defined ≡ Err e
