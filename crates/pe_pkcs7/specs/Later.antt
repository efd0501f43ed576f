-- What is read of bytes that stand later in a file: the same, further on. `k` is how many bytes of the file stand before.
use Rattle.std.specs.Prelude.{◌≡◌, ℕ, ◌+◌, List, length, map, take, Option, Some, None, Result, Ok, Err}
use Rattle.pe_pkcs7.specs.Certificates.{certificate, extension, key_usage, to_be_signed, validity}
use Rattle.pe_pkcs7.specs.Der.{element_at}
use Rattle.pe_pkcs7.specs.Fields.{content_bytes, element_bytes, first_element}
use Rattle.pe_pkcs7.specs.Names.{NameItems, attribute_at}
use Rattle.pe_pkcs7.specs.SignedDatas.{algorithm_identifier, content_info, digest_info, encapsulated_content, signed_data, spc_indirect_data, spc_pe_image_data, spc_sp_opus_info, type_and_value}
use Rattle.pe_pkcs7.specs.Signers.{FindsAttribute, Sought, attribute, issuer_and_serial, signer_info}
use Rattle.pe_pkcs7.specs.Times.{time_of}
use Rattle.pe_pkcs7.specs.TimeStamps.{tst_info}
use Rattle.pe_pkcs7.specs.Walks.{Items}
use Rattle.pe_pkcs7.specs.declared.der.Element.{Element}
use Rattle.pe_pkcs7.specs.declared.error.SignatureError.{SignatureError}
use Rattle.pe_pkcs7.specs.declared.error.SignatureError.TheVariants.{Truncated, TagNumber, EndOfContents, IndefiniteLength, LengthOctets, LengthForm, PastParent, EmptyContent, Missing, Tag, Trailing, ContentType, BadTime}
use Rattle.pe_pkcs7.specs.declared.signed_data.ContentInfo.{ContentInfo}
use Rattle.pe_pkcs7.specs.declared.signed_data.SignedData.{SignedData}
use Rattle.pe_pkcs7.specs.declared.signed_data.EncapsulatedContent.{EncapsulatedContent}
use Rattle.pe_pkcs7.specs.declared.indirect_data.AlgorithmIdentifier.{AlgorithmIdentifier}
use Rattle.pe_pkcs7.specs.declared.indirect_data.SpcIndirectData.{SpcIndirectData}
use Rattle.pe_pkcs7.specs.declared.indirect_data.TypeAndValue.{TypeAndValue}
use Rattle.pe_pkcs7.specs.declared.indirect_data.DigestInfo.{DigestInfo}
use Rattle.pe_pkcs7.specs.declared.indirect_data.SpcPeImageData.{SpcPeImageData}
use Rattle.pe_pkcs7.specs.declared.indirect_data.SpcSpOpusInfo.{SpcSpOpusInfo}
use Rattle.pe_pkcs7.specs.declared.signer.SignerInfo.{SignerInfo}
use Rattle.pe_pkcs7.specs.declared.signer.IssuerAndSerial.{IssuerAndSerial}
use Rattle.pe_pkcs7.specs.declared.signer.Attribute.{Attribute}
use Rattle.pe_pkcs7.specs.declared.certificate.Certificate.{Certificate}
use Rattle.pe_pkcs7.specs.declared.certificate.ToBeSigned.{ToBeSigned}
use Rattle.pe_pkcs7.specs.declared.certificate.Validity.{Validity}
use Rattle.pe_pkcs7.specs.declared.certificate.Extension.{Extension}
use Rattle.pe_pkcs7.specs.declared.name.NameAttribute.{NameAttribute}
use Rattle.pe_pkcs7.specs.declared.time_stamp.TstInfo.{TstInfo}

-- ---- elements and errors

abbrev pub later : ℕ → Element → Element
later k x = record { tag = x.tag; offset = x.offset + k; content = x.content + k; end = x.end + k }

-- one that may be absent
abbrev pub later_if : ℕ → Option Element → Option Element
later_if k None = None
later_if k (Some x) = Some (later k x)

abbrev pub later_error : ℕ → SignatureError → SignatureError
later_error k (Truncated p left) = Truncated (p + k) left
later_error k (TagNumber p) = TagNumber (p + k)
later_error k (EndOfContents p) = EndOfContents (p + k)
later_error k (IndefiniteLength p) = IndefiniteLength (p + k)
later_error k (LengthOctets p octets) = LengthOctets (p + k) octets
later_error k (LengthForm p) = LengthForm (p + k)
later_error k (PastParent p content left) = PastParent (p + k) content left
later_error k (EmptyContent p) = EmptyContent (p + k)
later_error k (Missing p) = Missing (p + k)
later_error k (Tag p expected found) = Tag (p + k) expected found
later_error k (Trailing p left) = Trailing (p + k) left
later_error k (ContentType p) = ContentType (p + k)
later_error k (BadTime p) = BadTime (p + k)

-- what a call returns: what it reads, by what this says of it, or the error
abbrev pub later_result : {Y : Type 0} → (Y → Y) → ℕ → Result Y SignatureError → Result Y SignatureError
later_result further k (Ok y) = Ok (further y)
later_result further k (Err e) = Err (later_error k e)

-- ---- records of elements: each of them further on

abbrev pub later_content_info : ℕ → ContentInfo → ContentInfo
later_content_info k r = record { content_type = later k r.content_type; content = later k r.content }

abbrev pub later_signed_data : ℕ → SignedData → SignedData
later_signed_data k r = record {
  version = later k r.version;
  digest_algorithms = later k r.digest_algorithms;
  encapsulated = later k r.encapsulated;
  certificates = later_if k r.certificates;
  crls = later_if k r.crls;
  signers = later k r.signers;
}

abbrev pub later_encapsulated_content : ℕ → EncapsulatedContent → EncapsulatedContent
later_encapsulated_content k r = record { content_type = later k r.content_type; content = later_if k r.content }

abbrev pub later_algorithm_identifier : ℕ → AlgorithmIdentifier → AlgorithmIdentifier
later_algorithm_identifier k r = record { algorithm = later k r.algorithm; parameters = later_if k r.parameters }

abbrev pub later_type_and_value : ℕ → TypeAndValue → TypeAndValue
later_type_and_value k r = record { value_type = later k r.value_type; value = later_if k r.value }

abbrev pub later_digest_info : ℕ → DigestInfo → DigestInfo
later_digest_info k r = record { algorithm = later k r.algorithm; digest = later k r.digest }

abbrev pub later_indirect_data : ℕ → SpcIndirectData → SpcIndirectData
later_indirect_data k r = record { signed = later k r.signed; message_digest = later k r.message_digest }

abbrev pub later_image_data : ℕ → SpcPeImageData → SpcPeImageData
later_image_data k r = record { flags = later_if k r.flags; file = later_if k r.file }

abbrev pub later_opus_info : ℕ → SpcSpOpusInfo → SpcSpOpusInfo
later_opus_info k r = record { program_name = later_if k r.program_name; more_info = later_if k r.more_info }

abbrev pub later_signer_info : ℕ → SignerInfo → SignerInfo
later_signer_info k r = record {
  version = later k r.version;
  signer = later k r.signer;
  digest_algorithm = later k r.digest_algorithm;
  signed_attributes = later_if k r.signed_attributes;
  signature_algorithm = later k r.signature_algorithm;
  signature = later k r.signature;
  unsigned_attributes = later_if k r.unsigned_attributes;
}

abbrev pub later_issuer_and_serial : ℕ → IssuerAndSerial → IssuerAndSerial
later_issuer_and_serial k r = record { issuer = later k r.issuer; serial = later k r.serial }

abbrev pub later_attribute : ℕ → Attribute → Attribute
later_attribute k r = record { kind = later k r.kind; values = later k r.values }

abbrev pub later_certificate : ℕ → Certificate → Certificate
later_certificate k r = record {
  to_be_signed = later k r.to_be_signed;
  signature_algorithm = later k r.signature_algorithm;
  signature = later k r.signature;
}

abbrev pub later_to_be_signed : ℕ → ToBeSigned → ToBeSigned
later_to_be_signed k r = record {
  version = later_if k r.version;
  serial = later k r.serial;
  signature_algorithm = later k r.signature_algorithm;
  issuer = later k r.issuer;
  validity = later k r.validity;
  subject = later k r.subject;
  public_key = later k r.public_key;
  extensions = later_if k r.extensions;
}

abbrev pub later_validity : ℕ → Validity → Validity
later_validity k r = record { not_before = later k r.not_before; not_after = later k r.not_after }

abbrev pub later_extension : ℕ → Extension → Extension
later_extension k r = record { kind = later k r.kind; critical = later_if k r.critical; value = later k r.value }

abbrev pub later_tst_info : ℕ → TstInfo → TstInfo
later_tst_info k r = record {
  version = later k r.version;
  policy = later k r.policy;
  message_imprint = later k r.message_imprint;
  serial = later k r.serial;
  time = later k r.time;
  accuracy = later_if k r.accuracy;
  nonce = later_if k r.nonce;
  tsa = later_if k r.tsa;
}

abbrev pub later_name : ℕ → NameAttribute → NameAttribute
later_name k a = record { kind = later k a.kind; value = later k a.value; starts_rdn = a.starts_rdn }

-- an attribute of a name, with the end of its relative distinguished name and where what follows starts
abbrev pub later_name_attribute : ℕ → NameAttribute × (ℕ × ℕ) → NameAttribute × (ℕ × ℕ)
later_name_attribute k r = (later_name k r.0, (r.1.0 + k, r.1.1 + k))

-- what a search for an attribute returns
abbrev pub later_attribute_if : ℕ → Option Attribute → Option Attribute
later_attribute_if k None = None
later_attribute_if k (Some a) = Some (later_attribute k a)

abbrev pub later_sought : ℕ → Sought → Sought
later_sought k s = (later_result (later_attribute_if k) k s.0, s.1 + k)

-- ---- what is read of a file

-- what a definition reads of an element of the file f, up to the end of the bytes b that stand in it at k, is what it reads of b
abbrev pub ReadsLater : {Y : Type 0} → (List ℕ → Element → Result Y SignatureError) → (ℕ → Y → Y) → List ℕ → List ℕ → ℕ → Type 0
ReadsLater read further f b k = (x : Element) → read (take (k + length b) f) (later k x) ≡ later_result (further k) k (read b x)

-- what has no offset stays
abbrev pub the_same : {Y : Type 0} → ℕ → Y → Y
the_same k y = y

-- so do the definitions of elements, records, times and names, of a signature b; with the octets of elements, which are the same.
-- Of the bytes up to an offset, as the end of a parent, from an offset on: the elements that a walk returns, and what a search for an
-- attribute finds. Of a name, such as an issuer or a subject, all attributes that a walk returns, and its error; and each of them from where it starts
-- to the end of its relative distinguished name, which is 0 before the first
pub record IsReadAt (f b : List ℕ) (k : ℕ) : Type 0 where
  pub element : (p : ℕ) → element_at (take (k + length b) f) (p + k) ≡ later_result (later k) k (element_at b p)
  pub contents : (x : Element) → content_bytes (take (k + length b) f) (later k x) ≡ content_bytes b x
  pub octets : (x : Element) → element_bytes (take (k + length b) f) (later k x) ≡ element_bytes b x
  pub elements : (e p : ℕ) (items : List (Result Element SignatureError)) → Items first_element (take e b, p) items →
      Items first_element (take (e + k) (take (k + length b) f), p + k) (map (later_result (later k) k) items)
  pub found : (number e p : ℕ) (sought : Sought) → FindsAttribute (take e b) number p sought →
      FindsAttribute (take (e + k) (take (k + length b) f)) number (p + k) (later_sought k sought)
  pub info : ReadsLater content_info later_content_info f b k
  pub signed : (c : ContentInfo) → signed_data (take (k + length b) f) (later_content_info k c) ≡ later_result (later_signed_data k) k (signed_data b c)
  pub encapsulated : ReadsLater encapsulated_content later_encapsulated_content f b k
  pub algorithm : ReadsLater algorithm_identifier later_algorithm_identifier f b k
  pub typed_value : ReadsLater type_and_value later_type_and_value f b k
  pub digest : ReadsLater digest_info later_digest_info f b k
  pub indirect_data : ReadsLater spc_indirect_data later_indirect_data f b k
  pub image_data : ReadsLater spc_pe_image_data later_image_data f b k
  pub opus_info : ReadsLater spc_sp_opus_info later_opus_info f b k
  pub signer : ReadsLater signer_info later_signer_info f b k
  pub signer_name : ReadsLater issuer_and_serial later_issuer_and_serial f b k
  pub signer_attribute : ReadsLater attribute later_attribute f b k
  pub x509 : ReadsLater certificate later_certificate f b k
  pub x509_fields : ReadsLater to_be_signed later_to_be_signed f b k
  pub valid : ReadsLater validity later_validity f b k
  pub x509_extension : ReadsLater extension later_extension f b k
  pub usage : ReadsLater key_usage the_same f b k
  pub time : ReadsLater time_of the_same f b k
  pub stamp : ReadsLater tst_info later_tst_info f b k
  pub name : (e p : ℕ) → attribute_at (take (k + length b) f) (e + k) (p + k) ≡ later_result (later_name_attribute k) k (attribute_at b e p)
  pub name_start : (p : ℕ) → attribute_at (take (k + length b) f) 0 (p + k) ≡ later_result (later_name_attribute k) k (attribute_at b 0 p)
  pub names : (x : Element) (items : List (Result NameAttribute SignatureError)) → NameItems b x items →
      NameItems (take (k + length b) f) (later k x) (map (later_result (later_name k) k) items)
