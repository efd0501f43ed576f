-- What calls return of a signature: what is signed, its signers, their attributes, times. `b` are the caller's bytes, `x` is the
-- element that is read.
use Rattle.std.specs.Prelude.{◌≡◌, ℕ, ◌==◌, List, Option, Some, None, Result, Ok, Err, if◌then◌else◌}
use Rattle.pe_core.specs.Refusals.{◌>>=◌}
use Rattle.pe_pkcs7.specs.Fields.{content_bytes, first_element}
use Rattle.pe_pkcs7.specs.ObjectIds.{attribute_number, content_type_number}
use Rattle.pe_pkcs7.specs.SignedDatas.{content_info, digest_info, encapsulated_content, signed_data, spc_indirect_data, spc_pe_image_data, spc_sp_opus_info, type_and_value}
use Rattle.pe_pkcs7.specs.Signers.{Sought, attribute, first_with_number, issuer_and_serial, signer_info}
use Rattle.pe_pkcs7.specs.Tags.{SEQUENCE, SET}
use Rattle.pe_pkcs7.specs.Times.{time_of}
use Rattle.pe_pkcs7.specs.TimeStamps.{tst_info}
use Rattle.pe_pkcs7.specs.Walks.{Items}
use Rattle.pe_pkcs7.specs.declared.der.Element.{Element}
use Rattle.pe_pkcs7.specs.declared.error.SignatureError.{SignatureError}
use Rattle.pe_pkcs7.specs.declared.indirect_data.DigestInfo.{DigestInfo}
use Rattle.pe_pkcs7.specs.declared.signed_data.EncapsulatedContent.{EncapsulatedContent}
use Rattle.pe_pkcs7.specs.declared.signed_data.SignedData as parts
use Rattle.pe_pkcs7.specs.declared.signer.Attribute.{Attribute}
use Rattle.pe_pkcs7.specs.declared.signer.SignerInfo.{SignerInfo}
use Rattle.pe_pkcs7.specs.declared.time_stamp.TstInfo.{TstInfo}
use Rattle.calls_base.specs.Ranges.{one_if_some, no_bytes}
use Rattle.calls_signatures.specs.SignatureParts.{after_tag, algorithm_at, content_range, left_from, left_place, oid_part, optional_content, optional_whole, read_in, refused, up_to_range, whole_range}
use Rattle.calls_base.specs.declared.ranges.Range.{Range}
use Rattle.calls_signatures.specs.declared.elements.Algorithm.{Algorithm}
use Rattle.calls_signatures.specs.declared.refused.SignatureFailure.{SignatureFailure}
use Rattle.calls_signatures.specs.declared.signature.SignedData.{SignedData}
use Rattle.calls_signatures.specs.declared.signature.SpcIndirectDataContent.{SpcIndirectDataContent}
use Rattle.calls_signatures.specs.declared.signature.SpcPeImageDataContent.{SpcPeImageDataContent}
use Rattle.calls_signatures.specs.declared.signer.OpusInfo.{OpusInfo}
use Rattle.calls_signatures.specs.declared.signer.Signer.{Signer}
use Rattle.calls_signatures.specs.declared.signer.SignerAttribute.{SignerAttribute}
use Rattle.calls_signatures.specs.declared.time.TimeStamp.{TimeStamp}
use Rattle.calls_signatures.specs.declared.time.UtcTime.{UtcTime}

-- ---- the signature

-- signed data with what they encapsulate
abbrev pub signed_data_part : List ℕ → parts.SignedData → EncapsulatedContent → SignedData
signed_data_part b s e = record {
  content_type = oid_part e.content_type (content_type_number (content_bytes b e.content_type));
  version = content_range s.version;
  digest_algorithms = content_range s.digest_algorithms;
  content = optional_whole e.content;
  digested = optional_content e.content;
  certificates = optional_content s.certificates;
  crls = optional_content s.crls;
  signers = content_range s.signers;
  has_content = one_if_some e.content;
  spare = 0;
}

abbrev pub signature_at : List ℕ → Element → Result SignedData SignatureError
signature_at b x =
    content_info b x >>= λ info. signed_data b info >>= λ s. encapsulated_content b s.encapsulated >>= λ e. Ok (signed_data_part b s e)

abbrev pub signature_in : List ℕ → Range → Result SignedData SignatureFailure
signature_in = read_in signature_at

-- ---- what Authenticode signs

abbrev pub indirect_data_at : List ℕ → Element → Result SpcIndirectDataContent SignatureError
indirect_data_at b x =
    spc_indirect_data b x >>= λ d.
    type_and_value b d.signed >>= λ t.
    digest_info b d.message_digest >>= λ i.
    algorithm_at b i.algorithm >>= λ a.
    Ok (record {
      value_type = oid_part t.value_type (content_type_number (content_bytes b t.value_type));
      value = optional_whole t.value;
      digest_algorithm = a;
      digest = content_range i.digest;
    })

abbrev pub indirect_data_in : List ℕ → Range → Result SpcIndirectDataContent SignatureFailure
indirect_data_in = read_in indirect_data_at

abbrev pub image_data_at : List ℕ → Element → Result SpcPeImageDataContent SignatureError
image_data_at b x = spc_pe_image_data b x >>= λ d. Ok (record { flags = optional_content d.flags; file = optional_whole d.file })

abbrev pub image_data_in : List ℕ → Range → Result SpcPeImageDataContent SignatureFailure
image_data_in = read_in image_data_at

-- ---- signers

-- issuer and serial number of a signer's certificate, where it is named by them
abbrev pub certificate_of : List ℕ → Element → Result (Range × Range) SignatureError
certificate_of b x =
    if x.tag == SEQUENCE then (issuer_and_serial b x >>= λ n. Ok (whole_range n.issuer, content_range n.serial)) else Ok (no_bytes, no_bytes)

abbrev pub signer_part : SignerInfo → Range × Range → Algorithm → Algorithm → Signer
signer_part s certificate digest_algorithm signature_algorithm = record {
  version = content_range s.version;
  issuer = certificate.0;
  serial = certificate.1;
  key_identifier = if s.signer.tag == SEQUENCE then no_bytes else content_range s.signer;
  digest_algorithm = digest_algorithm;
  signed_attributes = optional_content s.signed_attributes;
  signed_rest = after_tag s.signed_attributes;
  signature_algorithm = signature_algorithm;
  signature = content_range s.signature;
  unsigned_attributes = optional_content s.unsigned_attributes;
  has_signed_attributes = one_if_some s.signed_attributes;
  signed_first = if one_if_some s.signed_attributes == 1 then SET else 0;
}

abbrev pub signer_at : List ℕ → Element → Result Signer SignatureError
signer_at b x =
    signer_info b x >>= λ s.
    certificate_of b s.signer >>= λ certificate.
    algorithm_at b s.digest_algorithm >>= λ digest_algorithm.
    algorithm_at b s.signature_algorithm >>= λ signature_algorithm.
    Ok (signer_part s certificate digest_algorithm signature_algorithm)

abbrev pub signer_in : List ℕ → Range → Result Signer SignatureFailure
signer_in = read_in signer_at

-- ---- attributes

abbrev pub attribute_part : List ℕ → Attribute → SignerAttribute
attribute_part b a = record { kind = oid_part a.kind (attribute_number (content_bytes b a.kind)); values = content_range a.values }

abbrev pub attribute_at : List ℕ → Element → Result SignerAttribute SignatureError
attribute_at b x = attribute b x >>= λ a. Ok (attribute_part b a)

abbrev pub attribute_in : List ℕ → Range → Result SignerAttribute SignatureFailure
attribute_in = read_in attribute_at

-- what a search through the bytes s returns
abbrev pub attribute_sought : List ℕ → Result (Option Attribute) SignatureError → Result (Option SignerAttribute) SignatureFailure
attribute_sought s (Ok None) = Ok None
attribute_sought s (Ok (Some a)) = Ok (Some (attribute_part s a))
attribute_sought s (Err e) = Err (refused e)

-- what a search through a walk returns, and what it leaves: nothing of a walk that is not inside the bytes
abbrev pub sought_in : Range → Result (List ℕ) SignatureFailure → Sought → Result (Option SignerAttribute) SignatureFailure × Range
sought_in w (Ok s) sought = (attribute_sought s sought.0, left_from w sought.1)
sought_in w (Err f) sought = (Err f, no_bytes)

-- of the elements of a walk, the first attribute whose type has the number
abbrev pub attribute_with_number : List ℕ → Range → ℕ → List (Result Element SignatureError) → Result (Option SignerAttribute) SignatureFailure × Range
attribute_with_number b w number items = sought_in w (up_to_range b w) (first_with_number (left_place b w).0 number w.offset items)

abbrev pub FindsInWalk : List ℕ → Range → ℕ → Result (Option SignerAttribute) SignatureFailure × Range → Type 0
FindsInWalk b w number found = (items : List (Result Element SignatureError)) → Items first_element (left_place b w) items → found ≡ attribute_with_number b w number items

-- the tag of an element; 0 without one
abbrev pub tag_of : Option Element → ℕ
tag_of None = 0
tag_of (Some x) = x.tag

abbrev pub opus_info_at : List ℕ → Element → Result OpusInfo SignatureError
opus_info_at b x = spc_sp_opus_info b x >>= λ o. Ok (record {
  program_name = optional_content o.program_name;
  more_info = optional_content o.more_info;
  program_name_tag = tag_of o.program_name;
  more_info_tag = tag_of o.more_info;
})

abbrev pub opus_info_in : List ℕ → Range → Result OpusInfo SignatureFailure
opus_info_in = read_in opus_info_at

-- ---- times

abbrev pub time_at : List ℕ → Element → Result UtcTime SignatureError
time_at b x = time_of b x >>= λ t. Ok (record {
  year = t.year;
  month = t.month;
  day = t.day;
  hour = t.hour;
  minute = t.minute;
  second = t.second;
})

abbrev pub time_in : List ℕ → Range → Result UtcTime SignatureFailure
time_in = read_in time_at

abbrev pub time_stamp_part : TstInfo → DigestInfo → Algorithm → TimeStamp
time_stamp_part i d a = record {
  version = content_range i.version;
  policy = content_range i.policy;
  digest_algorithm = a;
  digest = content_range d.digest;
  serial = content_range i.serial;
  time = whole_range i.time;
  accuracy = optional_whole i.accuracy;
  nonce = optional_content i.nonce;
  authority = optional_content i.tsa;
}

abbrev pub time_stamp_at : List ℕ → Element → Result TimeStamp SignatureError
time_stamp_at b x =
    tst_info b x >>= λ i. digest_info b i.message_imprint >>= λ d. algorithm_at b d.algorithm >>= λ a. Ok (time_stamp_part i d a)

abbrev pub time_stamp_in : List ℕ → Range → Result TimeStamp SignatureFailure
time_stamp_in = read_in time_stamp_at
