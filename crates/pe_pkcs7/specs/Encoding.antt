-- What DER writes for a tag and a content. (X.690: 8.1.1.1 the order, 8.1.3.4 and 8.1.3.5 lengths, 10.1 their shortest form.)
use Rattle.std.specs.Prelude.{◌≡◌, ℕ, zero, suc, ◌+◌, ◌-◌, ◌/◌, ◌%◌, ◌==◌, ◌&&◌, false, List, [], ◌∷◌, ◌++◌, length, nat_lt, if◌then◌else◌}
use Rattle.pe_core.specs.Bytes.{range}
use Rattle.pe_pkcs7.specs.Der.{has_octets, is_end_of_contents}
use Rattle.pe_pkcs7.specs.declared.der.Element.{Element}

-- the lowest n octets of a number, the highest first
unfoldable pub octets : ℕ → ℕ → List ℕ
octets zero v = []
octets (suc n) v = octets n (v / 256) ++ (v % 256) ∷ []

-- how many octets a length below 4 GB needs in the long form
abbrev pub octets_needed : ℕ → ℕ
octets_needed n = if nat_lt n 0x100 then 1 else if nat_lt n 0x10000 then 2 else if nat_lt n 0x1000000 then 3 else 4

-- the octets of a length: below 128 one in the short form, else how many follow, plus 128, and these
unfoldable pub length_written : ℕ → List ℕ
length_written n = if nat_lt n 128 then n ∷ [] else (128 + octets_needed n) ∷ octets (octets_needed n) n

-- an element
unfoldable pub der : ℕ → List ℕ → List ℕ
der tag content = tag ∷ (length_written (length content) ++ content)

-- the tag and the content of an element: not those of the end of contents, and an octet where the type has one at least
abbrev pub AreOfElement : ℕ → List ℕ → Type 0
AreOfElement tag content = (is_end_of_contents tag ≡ false) × ((has_octets tag && length content == 0) ≡ false)

-- the content of an element
abbrev pub content_in : List ℕ → Element → List ℕ
content_in b x = range b x.content (x.end - x.content)

-- all octets of an element
abbrev pub octets_in : List ℕ → Element → List ℕ
octets_in b x = range b x.offset (x.end - x.offset)
