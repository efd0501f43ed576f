-- Certificates. (RFC 5280: 4.1.) `b` are the bytes of the signature.
use Rattle.std.specs.Prelude.{ℕ, ◌+◌, ◌*◌, ◌%◌, ◌^◌, ◌==◌, ◌&&◌, ◌||◌, List, [], ◌∷◌, length, slice_index, nat_lt, Bool, Option, Some, None, Result, Ok, if◌then◌else◌}
use Rattle.pe_core.specs.Refusals.{outcome, ◌>>=◌}
use Rattle.pe_pkcs7.specs.Fields.{any_field, with_tag, field, optional, after, ends_at, part_of, only_element, only_with_tag, content_bytes}
use Rattle.pe_pkcs7.specs.Tags.{BOOLEAN, INTEGER, BIT_STRING, OCTET_STRING, OBJECT_IDENTIFIER, UTC_TIME, GENERALIZED_TIME, SEQUENCE, tagged, tagged_string}
use Rattle.pe_pkcs7.specs.declared.der.Element.{Element}
use Rattle.pe_pkcs7.specs.declared.certificate.Certificate.{Certificate}
use Rattle.pe_pkcs7.specs.declared.certificate.ToBeSigned.{ToBeSigned}
use Rattle.pe_pkcs7.specs.declared.certificate.SubjectFields.{SubjectFields}
use Rattle.pe_pkcs7.specs.declared.certificate.Validity.{Validity}
use Rattle.pe_pkcs7.specs.declared.certificate.Extension.{Extension}
use Rattle.pe_pkcs7.specs.declared.error.SignatureError.{SignatureError}
use Rattle.pe_pkcs7.specs.declared.error.SignatureError.TheVariants.{Tag}

-- Certificate ::= SEQUENCE { tbsCertificate TBSCertificate, signatureAlgorithm AlgorithmIdentifier, signature BIT STRING }
unfoldable pub certificate : List ℕ → Element → Result Certificate SignatureError
certificate b x =
    part_of SEQUENCE b x >>= λ s.
    field SEQUENCE s x.content >>= λ to_be_signed.
    field SEQUENCE s to_be_signed.end >>= λ signature_algorithm.
    field BIT_STRING s signature_algorithm.end >>= λ signature.
    ends_at s signature.end (record {
      to_be_signed = to_be_signed;
      signature_algorithm = signature_algorithm;
      signature = signature;
    })

-- the last fields of a TBSCertificate, in its bytes from p on: subject Name, subjectPublicKeyInfo SEQUENCE,
--   issuerUniqueID [1] IMPLICIT BIT STRING OPTIONAL, subjectUniqueID [2] IMPLICIT BIT STRING OPTIONAL,
--   extensions [3] EXPLICIT SEQUENCE OF Extension OPTIONAL
unfoldable pub subject_fields : List ℕ → ℕ → Result SubjectFields SignatureError
subject_fields s p =
    field SEQUENCE s p >>= λ subject.
    field SEQUENCE s subject.end >>= λ public_key.
    optional (tagged_string 1) s public_key.end >>= λ issuer_id.
    optional (tagged_string 2) s (after public_key.end issuer_id) >>= λ subject_id.
    optional (tagged 3) s (after (after public_key.end issuer_id) subject_id) >>= λ explicit.
    only_with_tag SEQUENCE s explicit >>= λ extensions.
    ends_at s (after (after (after public_key.end issuer_id) subject_id) explicit) (record {
      subject = subject;
      public_key = public_key;
      extensions = extensions;
    })

-- TBSCertificate ::= SEQUENCE { version [0] EXPLICIT INTEGER OPTIONAL, serialNumber INTEGER, signature AlgorithmIdentifier,
--   issuer Name, validity Validity, .. }
unfoldable pub to_be_signed : List ℕ → Element → Result ToBeSigned SignatureError
to_be_signed b x =
    part_of SEQUENCE b x >>= λ s.
    optional (tagged 0) s x.content >>= λ version.
    only_with_tag INTEGER s version >>= λ _.
    field INTEGER s (after x.content version) >>= λ serial.
    field SEQUENCE s serial.end >>= λ signature_algorithm.
    field SEQUENCE s signature_algorithm.end >>= λ issuer.
    field SEQUENCE s issuer.end >>= λ validity.
    subject_fields s validity.end >>= λ fields.
    Ok (record {
      version = version;
      serial = serial;
      signature_algorithm = signature_algorithm;
      issuer = issuer;
      validity = validity;
      subject = fields.subject;
      public_key = fields.public_key;
      extensions = fields.extensions;
    })

-- Time ::= CHOICE { utcTime UTCTime, generalTime GeneralizedTime }
unfoldable pub time_field : List ℕ → ℕ → Result Element SignatureError
time_field s p =
    any_field s p >>= λ x. outcome ((x.tag == UTC_TIME || x.tag == GENERALIZED_TIME, Tag x.offset UTC_TIME x.tag) ∷ []) x

-- Validity ::= SEQUENCE { notBefore Time, notAfter Time }
unfoldable pub validity : List ℕ → Element → Result Validity SignatureError
validity b x =
    part_of SEQUENCE b x >>= λ s.
    time_field s x.content >>= λ not_before.
    time_field s not_before.end >>= λ not_after.
    ends_at s not_after.end (record { not_before = not_before; not_after = not_after })

-- Extension ::= SEQUENCE { extnID OBJECT IDENTIFIER, critical BOOLEAN OPTIONAL, extnValue OCTET STRING }
unfoldable pub extension : List ℕ → Element → Result Extension SignatureError
extension b x =
    part_of SEQUENCE b x >>= λ s.
    field OBJECT_IDENTIFIER s x.content >>= λ kind.
    optional BOOLEAN s kind.end >>= λ critical.
    field OCTET_STRING s (after kind.end critical) >>= λ value.
    ends_at s value.end (record { kind = kind; critical = critical; value = value })

-- the low bits of the last octet of a BIT STRING that are not used: at most 7, and all 0 (X.690: 8.6.2.2, 11.2.1)
abbrev pub unused_are_zero : ℕ → ℕ → Bool
unused_are_zero count last = nat_lt count 8 && last % 2 ^ count == 0

-- the bits of a BIT STRING of one octet or two; the one before them says how many bits of the last are not used
abbrev pub usage_bits : List ℕ → Option ℕ
usage_bits c =
    if length c == 2 && unused_are_zero (slice_index c 0) (slice_index c 1) then Some (slice_index c 1)
    else if length c == 3 && unused_are_zero (slice_index c 0) (slice_index c 2) then Some (slice_index c 1 + 256 * slice_index c 2)
    else None

-- KeyUsage ::= BIT STRING, the content of an extension's OCTET STRING
unfoldable pub key_usage : List ℕ → Element → Result (Option ℕ) SignatureError
key_usage b x =
    part_of OCTET_STRING b x >>= λ s.
    only_element s x >>= λ y.
    with_tag BIT_STRING y >>= λ z.
    Ok (usage_bits (content_bytes b z))
