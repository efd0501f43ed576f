-- DER: elements of a tag, a length and a content. (X.690: 8.1 and 10.1.) `b` are the bytes up to the end of the parent, `p` is
-- the offset of an element.
use Rattle.std.specs.Prelude.{ℕ, zero, suc, ◌+◌, ◌-◌, ◌*◌, ◌%◌, ◌==◌, ◌&&◌, ◌||◌, List, [], ◌∷◌, length, Bool, nat_lt, slice_index, Result, Ok, Err, if◌then◌else◌}
use Rattle.pe_core.specs.Refusals.{◌>>=◌}
use Rattle.pe_pkcs7.specs.Tags.{BOOLEAN, INTEGER, BIT_STRING, OBJECT_IDENTIFIER, ENUMERATED}
use Rattle.pe_pkcs7.specs.declared.der.Element.{Element}
use Rattle.pe_pkcs7.specs.declared.error.SignatureError.{SignatureError}
use Rattle.pe_pkcs7.specs.declared.error.SignatureError.TheVariants.{Truncated, TagNumber, EndOfContents, IndefiniteLength, LengthOctets, LengthForm, PastParent, EmptyContent}

-- the value, or the error of the first test that holds
abbrev pub unless : {Y R : Type 0} → List (Bool × R) → Y → Result Y R
unless [] value = Ok value
unless (test ∷ tests) value = if test.0 then Err test.1 else unless tests value

-- the number in the n octets from offset p on, the first the highest
unfoldable pub be : List ℕ → ℕ → ℕ → ℕ
be b p zero = 0
be b p (suc n) = be b p n * 256 + slice_index b (p + n)

-- n bytes do not follow offset p
abbrev pub lacks : List ℕ → ℕ → ℕ → Bool
lacks b p n = nat_lt (length b) (p + n)

-- how many octets the first octet of a length says to follow: none in the short form, which is below 128
abbrev pub octets_after : ℕ → ℕ
octets_after first = first - 128

-- the identifier octet of the end of contents, universal of the number 0, is that of no element (X.690: 8.1.5; X.680: 8.6)
abbrev pub is_end_of_contents : ℕ → Bool
is_end_of_contents tag = tag == 0x00 || tag == 0x20

-- the types whose content has an octet at least (X.690: 8.2.1, 8.3.1, 8.4, 8.6.2, 8.19.2)
abbrev pub has_octets : ℕ → Bool
has_octets tag = tag == BOOLEAN || tag == INTEGER || tag == BIT_STRING || tag == OBJECT_IDENTIFIER || tag == ENUMERATED

-- what is wrong with an element whose length cannot be read
abbrev pub head_tests : List ℕ → ℕ → List (Bool × SignatureError)
head_tests b p =
    (lacks b p 2, Truncated p (length b - p)) ∷
    (slice_index b p % 32 == 31, TagNumber p) ∷
    (is_end_of_contents (slice_index b p), EndOfContents p) ∷
    (slice_index b (p + 1) == 128, IndefiniteLength p) ∷
    (nat_lt 4 (octets_after (slice_index b (p + 1))), LengthOctets p (octets_after (slice_index b (p + 1)))) ∷
    (lacks b (p + 2) (octets_after (slice_index b (p + 1))), Truncated p (length b - p)) ∷
    []

-- how many octets of the length of an element follow the first one, which is after the identifier octet
unfoldable pub length_octets : List ℕ → ℕ → Result ℕ SignatureError
length_octets b p = unless (head_tests b p) (octets_after (slice_index b (p + 1)))

-- the length of the content: in the short form the first octet, in the long form the number in the n octets after it
unfoldable pub content_length : List ℕ → ℕ → ℕ → ℕ
content_length b p n = if n == 0 then slice_index b (p + 1) else be b (p + 2) n

-- the long form with a first octet that is zero, or where the short form would do
abbrev pub is_longer : List ℕ → ℕ → ℕ → Bool
is_longer b p n = nat_lt 0 n && (slice_index b (p + 2) == 0 || nat_lt (content_length b p n) 128)

-- what is wrong with an element, n octets of whose length follow the first one
abbrev pub length_tests : List ℕ → ℕ → ℕ → List (Bool × SignatureError)
length_tests b p n =
    (is_longer b p n, LengthForm p) ∷
    (lacks b (p + 2 + n) (content_length b p n), PastParent p (content_length b p n) (length b - (p + 2 + n))) ∷
    (has_octets (slice_index b p) && content_length b p n == 0, EmptyContent p) ∷
    []

-- such an element
abbrev pub element_of : List ℕ → ℕ → ℕ → Element
element_of b p n = record {
  tag = slice_index b p;
  offset = p;
  content = p + 2 + n;
  end = p + 2 + n + content_length b p n;
}

-- the element at an offset
unfoldable pub element_at : List ℕ → ℕ → Result Element SignatureError
element_at b p = length_octets b p >>= λ n. unless (length_tests b p n) (element_of b p n)
