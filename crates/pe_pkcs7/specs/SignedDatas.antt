-- What a signature is of, and what it contains. (RFC 5652: 3, 5.1, 5.2; RFC 2315: 7, 9. Microsoft, Windows Authenticode
-- Portable Executable Signature Format: SpcIndirectDataContent, SpcPeImageData, SpcSpOpusInfo.) `b` are the bytes of the
-- signature. A grammar stands above the definition that reads its fields.
use Rattle.std.specs.Prelude.{ℕ, List, [], ◌∷◌, Result}
use Rattle.std.specs.Str.{bytes_eq}
use Rattle.pe_core.specs.Refusals.{outcome, ◌>>=◌}
use Rattle.pe_pkcs7.specs.Der.{element_at}
use Rattle.pe_pkcs7.specs.Fields.{any_optional, field, optional, after, ends_at, part_of, only_element, only_if_there, content_bytes}
use Rattle.pe_pkcs7.specs.ObjectIds.{SIGNED_DATA}
use Rattle.pe_pkcs7.specs.Tags.{INTEGER, BIT_STRING, OCTET_STRING, OBJECT_IDENTIFIER, SEQUENCE, SET, tagged}
use Rattle.pe_pkcs7.specs.declared.der.Element.{Element}
use Rattle.pe_pkcs7.specs.declared.signed_data.ContentInfo.{ContentInfo}
use Rattle.pe_pkcs7.specs.declared.signed_data.SignedData.{SignedData}
use Rattle.pe_pkcs7.specs.declared.signed_data.EncapsulatedContent.{EncapsulatedContent}
use Rattle.pe_pkcs7.specs.declared.indirect_data.AlgorithmIdentifier.{AlgorithmIdentifier}
use Rattle.pe_pkcs7.specs.declared.indirect_data.SpcIndirectData.{SpcIndirectData}
use Rattle.pe_pkcs7.specs.declared.indirect_data.TypeAndValue.{TypeAndValue}
use Rattle.pe_pkcs7.specs.declared.indirect_data.DigestInfo.{DigestInfo}
use Rattle.pe_pkcs7.specs.declared.indirect_data.SpcPeImageData.{SpcPeImageData}
use Rattle.pe_pkcs7.specs.declared.indirect_data.SpcSpOpusInfo.{SpcSpOpusInfo}
use Rattle.pe_pkcs7.specs.declared.error.SignatureError.{SignatureError}
use Rattle.pe_pkcs7.specs.declared.error.SignatureError.TheVariants.{ContentType}

-- ContentInfo ::= SEQUENCE { contentType OBJECT IDENTIFIER, content [0] EXPLICIT ANY }
unfoldable pub content_info : List ℕ → Element → Result ContentInfo SignatureError
content_info b x =
    part_of SEQUENCE b x >>= λ s.
    field OBJECT_IDENTIFIER s x.content >>= λ content_type.
    field (tagged 0) s content_type.end >>= λ explicit.
    only_element s explicit >>= λ content.
    ends_at s explicit.end (record { content_type = content_type; content = content })

-- the one that a signature starts with; what follows it in a certificate's entry pads it
abbrev pub whole_content_info : List ℕ → Result ContentInfo SignatureError
whole_content_info b = element_at b 0 >>= λ x. content_info b x

-- the content, if the content type has this object identifier
unfoldable pub content_of_type : List ℕ → List ℕ → Element → Element → Result Element SignatureError
content_of_type oid b content_type content =
    outcome ((bytes_eq (content_bytes b content_type) oid, ContentType content_type.offset) ∷ []) content

-- SignedData ::= SEQUENCE { version INTEGER, digestAlgorithms SET OF AlgorithmIdentifier,
--   encapContentInfo EncapsulatedContentInfo, certificates [0] IMPLICIT SET OF OPTIONAL, crls [1] IMPLICIT SET OF OPTIONAL,
--   signerInfos SET OF SignerInfo }
unfoldable pub signed_data_fields : List ℕ → Element → Result SignedData SignatureError
signed_data_fields b x =
    part_of SEQUENCE b x >>= λ s.
    field INTEGER s x.content >>= λ version.
    field SET s version.end >>= λ digest_algorithms.
    field SEQUENCE s digest_algorithms.end >>= λ encapsulated.
    optional (tagged 0) s encapsulated.end >>= λ certificates.
    optional (tagged 1) s (after encapsulated.end certificates) >>= λ crls.
    field SET s (after (after encapsulated.end certificates) crls) >>= λ signers.
    ends_at s signers.end (record {
      version = version;
      digest_algorithms = digest_algorithms;
      encapsulated = encapsulated;
      certificates = certificates;
      crls = crls;
      signers = signers;
    })

-- the signed data of a ContentInfo
abbrev pub signed_data : List ℕ → ContentInfo → Result SignedData SignatureError
signed_data b c = content_of_type SIGNED_DATA b c.content_type c.content >>= λ x. signed_data_fields b x

-- EncapsulatedContentInfo ::= SEQUENCE { eContentType OBJECT IDENTIFIER, eContent [0] EXPLICIT ANY OPTIONAL }
-- RFC 5652 has an OCTET STRING there. PKCS #7 1.5 has ANY: in Authenticode an SpcIndirectDataContent.
unfoldable pub encapsulated_content : List ℕ → Element → Result EncapsulatedContent SignatureError
encapsulated_content b x =
    part_of SEQUENCE b x >>= λ s.
    field OBJECT_IDENTIFIER s x.content >>= λ content_type.
    optional (tagged 0) s content_type.end >>= λ explicit.
    only_if_there s explicit >>= λ content.
    ends_at s (after content_type.end explicit) (record { content_type = content_type; content = content })

-- AlgorithmIdentifier ::= SEQUENCE { algorithm OBJECT IDENTIFIER, parameters ANY OPTIONAL }
unfoldable pub algorithm_identifier : List ℕ → Element → Result AlgorithmIdentifier SignatureError
algorithm_identifier b x =
    part_of SEQUENCE b x >>= λ s.
    field OBJECT_IDENTIFIER s x.content >>= λ algorithm.
    any_optional s algorithm.end >>= λ parameters.
    ends_at s (after algorithm.end parameters) (record { algorithm = algorithm; parameters = parameters })

-- SpcAttributeTypeAndOptionalValue ::= SEQUENCE { type OBJECT IDENTIFIER, value ANY OPTIONAL }
unfoldable pub type_and_value : List ℕ → Element → Result TypeAndValue SignatureError
type_and_value b x =
    part_of SEQUENCE b x >>= λ s.
    field OBJECT_IDENTIFIER s x.content >>= λ value_type.
    any_optional s value_type.end >>= λ value.
    ends_at s (after value_type.end value) (record { value_type = value_type; value = value })

-- DigestInfo ::= SEQUENCE { digestAlgorithm AlgorithmIdentifier, digest OCTET STRING }
unfoldable pub digest_info : List ℕ → Element → Result DigestInfo SignatureError
digest_info b x =
    part_of SEQUENCE b x >>= λ s.
    field SEQUENCE s x.content >>= λ algorithm.
    field OCTET_STRING s algorithm.end >>= λ digest.
    ends_at s digest.end (record { algorithm = algorithm; digest = digest })

-- SpcIndirectDataContent ::= SEQUENCE { data SpcAttributeTypeAndOptionalValue, messageDigest DigestInfo }
unfoldable pub spc_indirect_data : List ℕ → Element → Result SpcIndirectData SignatureError
spc_indirect_data b x =
    part_of SEQUENCE b x >>= λ s.
    field SEQUENCE s x.content >>= λ signed.
    field SEQUENCE s signed.end >>= λ message_digest.
    ends_at s message_digest.end (record { signed = signed; message_digest = message_digest })

-- SpcPeImageData ::= SEQUENCE { flags BIT STRING OPTIONAL, file [0] EXPLICIT SpcLink OPTIONAL }
unfoldable pub spc_pe_image_data : List ℕ → Element → Result SpcPeImageData SignatureError
spc_pe_image_data b x =
    part_of SEQUENCE b x >>= λ s.
    optional BIT_STRING s x.content >>= λ flags.
    optional (tagged 0) s (after x.content flags) >>= λ explicit.
    only_if_there s explicit >>= λ file.
    ends_at s (after (after x.content flags) explicit) (record { flags = flags; file = file })

-- SpcSpOpusInfo ::= SEQUENCE { programName [0] EXPLICIT SpcString OPTIONAL, moreInfo [1] EXPLICIT SpcLink OPTIONAL }
unfoldable pub spc_sp_opus_info : List ℕ → Element → Result SpcSpOpusInfo SignatureError
spc_sp_opus_info b x =
    part_of SEQUENCE b x >>= λ s.
    optional (tagged 0) s x.content >>= λ name.
    optional (tagged 1) s (after x.content name) >>= λ info.
    only_if_there s name >>= λ program_name.
    only_if_there s info >>= λ more_info.
    ends_at s (after (after x.content name) info) (record { program_name = program_name; more_info = more_info })
