-- Signers and their attributes. (RFC 5652: 5.3, 11; RFC 5280: 4.1.2.4.) `b` are the bytes of the signature.
use Rattle.std.specs.Prelude.{◌≡◌, ℕ, ◌==◌, ◌||◌, List, [], ◌∷◌, length, drop, Option, Some, None, Result, Ok, Err, if◌then◌else◌}
use Rattle.pe_core.specs.Refusals.{outcome, ◌>>=◌}
use Rattle.pe_pkcs7.specs.Fields.{any_field, field, content_bytes, element_bytes, first_element, optional, after, ends_at, part_of}
use Rattle.pe_pkcs7.specs.ObjectIds.{attribute_number}
use Rattle.pe_pkcs7.specs.Tags.{INTEGER, OCTET_STRING, OBJECT_IDENTIFIER, SEQUENCE, SET, tagged, tagged_string}
use Rattle.pe_pkcs7.specs.Walks.{Items}
use Rattle.pe_pkcs7.specs.declared.der.Element.{Element}
use Rattle.pe_pkcs7.specs.declared.signer.SignerInfo.{SignerInfo}
use Rattle.pe_pkcs7.specs.declared.signer.IssuerAndSerial.{IssuerAndSerial}
use Rattle.pe_pkcs7.specs.declared.signer.Attribute.{Attribute}
use Rattle.pe_pkcs7.specs.declared.error.SignatureError.{SignatureError}
use Rattle.pe_pkcs7.specs.declared.error.SignatureError.TheVariants.{Tag}

-- SignerIdentifier ::= CHOICE { issuerAndSerialNumber SEQUENCE, subjectKeyIdentifier [0] IMPLICIT OCTET STRING }
unfoldable pub signer_identifier : List ℕ → ℕ → Result Element SignatureError
signer_identifier s p =
    any_field s p >>= λ x. outcome ((x.tag == SEQUENCE || x.tag == tagged_string 0, Tag x.offset SEQUENCE x.tag) ∷ []) x

-- SignerInfo ::= SEQUENCE { version INTEGER, sid SignerIdentifier, digestAlgorithm AlgorithmIdentifier,
--   signedAttrs [0] IMPLICIT SET OF Attribute OPTIONAL, signatureAlgorithm AlgorithmIdentifier, signature OCTET STRING,
--   unsignedAttrs [1] IMPLICIT SET OF Attribute OPTIONAL }
unfoldable pub signer_info : List ℕ → Element → Result SignerInfo SignatureError
signer_info b x =
    part_of SEQUENCE b x >>= λ s.
    field INTEGER s x.content >>= λ version.
    signer_identifier s version.end >>= λ signer.
    field SEQUENCE s signer.end >>= λ digest_algorithm.
    optional (tagged 0) s digest_algorithm.end >>= λ signed_attributes.
    field SEQUENCE s (after digest_algorithm.end signed_attributes) >>= λ signature_algorithm.
    field OCTET_STRING s signature_algorithm.end >>= λ signature.
    optional (tagged 1) s signature.end >>= λ unsigned_attributes.
    ends_at s (after signature.end unsigned_attributes) (record {
      version = version;
      signer = signer;
      digest_algorithm = digest_algorithm;
      signed_attributes = signed_attributes;
      signature_algorithm = signature_algorithm;
      signature = signature;
      unsigned_attributes = unsigned_attributes;
    })

-- IssuerAndSerialNumber ::= SEQUENCE { issuer Name, serialNumber INTEGER }
unfoldable pub issuer_and_serial : List ℕ → Element → Result IssuerAndSerial SignatureError
issuer_and_serial b x =
    part_of SEQUENCE b x >>= λ s.
    field SEQUENCE s x.content >>= λ issuer.
    field INTEGER s issuer.end >>= λ serial.
    ends_at s serial.end (record { issuer = issuer; serial = serial })

-- Attribute ::= SEQUENCE { attrType OBJECT IDENTIFIER, attrValues SET OF }
unfoldable pub attribute : List ℕ → Element → Result Attribute SignatureError
attribute b x =
    part_of SEQUENCE b x >>= λ s.
    field OBJECT_IDENTIFIER s x.content >>= λ kind.
    field SET s kind.end >>= λ values.
    ends_at s values.end (record { kind = kind; values = values })

-- what the signature of a signer is over: the signed attributes as they are encoded with the tag of a SET in place of [0];
-- without them what is signed itself
-- RFC 5652, 5.4: the DER encoding of the EXPLICIT SET OF tag, rather than of the IMPLICIT [0] tag, MUST be included in the
-- message digest calculation along with the length and content octets of the SignedAttributes value.
abbrev pub signed_octets : List ℕ → Element → List ℕ
signed_octets b x = SET ∷ drop 1 (element_bytes b x)

-- ---- an attribute by its type

-- what a search returns: the attribute if there is one, and the offset after what was read
abbrev pub Sought : Type 0
Sought = Result (Option Attribute) SignatureError × ℕ

-- an attribute that ends at p, if its type has the number; else what is found after it
abbrev pub this_or : List ℕ → ℕ → ℕ → Result Attribute SignatureError → Sought → Sought
this_or s number p (Ok a) later = if attribute_number (content_bytes s a.kind) == number then (Ok (Some a), p) else later
this_or s number p (Err e) later = (Err e, p)

-- of elements from p on, the first attribute whose type has the number; an error before it is the result
abbrev pub first_with_number : List ℕ → ℕ → ℕ → List (Result Element SignatureError) → Sought
first_with_number s number p [] = (Ok None, p)
first_with_number s number p (Err e ∷ more) = (Err e, length s)
first_with_number s number p (Ok x ∷ more) = this_or s number x.end (attribute s x) (first_with_number s number x.end more)

-- the same of the elements of the bytes s from p on
abbrev pub FindsAttribute : List ℕ → ℕ → ℕ → Sought → Type 0
FindsAttribute s number p sought =
    (items : List (Result Element SignatureError)) → Items first_element (s, p) items → sought ≡ first_with_number s number p items
