-- What is read of bytes that stand later in others is what is read of them, further on: a lemma for each definition.
use Rattle.std.proofs.Common.{◌≡◌, ℕ, ◌+◌, ◌||◌, Bool, true, false, List, take, Option, Some, None, Result, if◌then◌else◌, refl, arith}
use Rattle.std.specs.Prelude.{nat_lt, ◌==◌}
use Rattle.std.specs.Str.{bytes_eq}
use Rattle.pe_core.proofs.Comparisons.{lt_is_not}
use Rattle.pe_core.specs.Refusals.{◌>>=◌}
use Rattle.pe_pkcs7.specs.Certificates.{certificate, extension, key_usage, subject_fields, time_field, to_be_signed, validity}
use Rattle.pe_pkcs7.specs.Fields.{after, content_bytes, field, optional}
use Rattle.pe_pkcs7.specs.Names.{attribute_at, attribute_in, name_attribute}
use Rattle.pe_pkcs7.specs.ObjectIds.{SIGNED_DATA}
use Rattle.pe_pkcs7.specs.SignedDatas.{content_info, content_of_type, signed_data, signed_data_fields, encapsulated_content, algorithm_identifier, type_and_value, digest_info, spc_indirect_data, spc_pe_image_data, spc_sp_opus_info}
use Rattle.pe_pkcs7.specs.Signers.{signer_identifier, signer_info, issuer_and_serial, attribute}
use Rattle.pe_pkcs7.specs.Tags.{BOOLEAN, INTEGER, BIT_STRING, OCTET_STRING, OBJECT_IDENTIFIER, UTC_TIME, GENERALIZED_TIME, SEQUENCE, SET, tagged, tagged_string}
use Rattle.pe_pkcs7.specs.Times.{is_time, or_bad_time, time_by_tag, time_of}
use Rattle.pe_pkcs7.specs.TimeStamps.{last_fields, tst_info, tst_info_fields}
use Rattle.pe_pkcs7.specs.Later.{later, later_if, later_result, the_same, later_content_info, later_signed_data, later_encapsulated_content, later_algorithm_identifier, later_type_and_value, later_digest_info, later_indirect_data, later_image_data, later_opus_info, later_signer_info, later_issuer_and_serial, later_attribute, later_certificate, later_to_be_signed, later_validity, later_extension, later_tst_info, later_name, later_name_attribute}
use Rattle.pe_pkcs7.specs.declared.certificate.SubjectFields.{SubjectFields}
use Rattle.pe_pkcs7.specs.declared.der.Element.{Element}
use Rattle.pe_pkcs7.specs.declared.error.SignatureError.{SignatureError}
use Rattle.pe_pkcs7.specs.declared.error.SignatureError.TheVariants.{Tag, ContentType, BadTime}
use Rattle.pe_pkcs7.specs.declared.name.NameAttribute.{NameAttribute}
use Rattle.pe_pkcs7.specs.declared.signed_data.ContentInfo.{ContentInfo}
use Rattle.pe_pkcs7.specs.declared.time.Time.{Time}
use Rattle.pe_pkcs7.specs.declared.time_stamp.LastFields.{LastFields}
use Rattle.pe_pkcs7.proofs.LaterBytes.{StandLater, cut, lt_later, in_turn, in_part, outcome_later, content_later, any_field_later, any_optional_later, optional_later, field_later, with_tag_later, after_later, ends_later, only_later, only_if_there_later, only_with_tag_later}

-- ---- fields after those that may be left out

field_after : (tag k : ℕ) (s t : List ℕ) → StandLater k s t → (p : ℕ) (x : Option Element) → field tag t (after (p + k) (later_if k x)) ≡ later_result (later k) k (field tag s (after p x))
field_after tag k s t l p x = rw (after_later k p x) (field_later tag k s t l (after p x))

field_after_both : (tag k : ℕ) (s t : List ℕ) → StandLater k s t → (p : ℕ) (x y : Option Element) → field tag t (after (after (p + k) (later_if k x)) (later_if k y)) ≡ later_result (later k) k (field tag s (after (after p x) y))
field_after_both tag k s t l p x y = rw (after_later k p x) (field_after tag k s t l (after p x) y)

optional_after : (tag k : ℕ) (s t : List ℕ) → StandLater k s t → (p : ℕ) (x : Option Element) → optional tag t (after (p + k) (later_if k x)) ≡ later_result (later_if k) k (optional tag s (after p x))
optional_after tag k s t l p x = rw (after_later k p x) (optional_later tag k s t l (after p x))

optional_after_both : (tag k : ℕ) (s t : List ℕ) → StandLater k s t → (p : ℕ) (x y : Option Element) → optional tag t (after (after (p + k) (later_if k x)) (later_if k y)) ≡ later_result (later_if k) k (optional tag s (after (after p x) y))
optional_after_both tag k s t l p x y = rw (after_later k p x) (optional_after tag k s t l (after p x) y)

optional_after_three : (tag k : ℕ) (s t : List ℕ) → StandLater k s t → (p : ℕ) (x y z : Option Element) → optional tag t (after (after (after (p + k) (later_if k x)) (later_if k y)) (later_if k z)) ≡ later_result (later_if k) k (optional tag s (after (after (after p x) y) z))
optional_after_three tag k s t l p x y z = rw (after_later k p x) (optional_after_both tag k s t l (after p x) y z)

optional_after_four : (tag k : ℕ) (s t : List ℕ) → StandLater k s t → (p : ℕ) (x y z w : Option Element) → optional tag t (after (after (after (after (p + k) (later_if k x)) (later_if k y)) (later_if k z)) (later_if k w)) ≡ later_result (later_if k) k (optional tag s (after (after (after (after p x) y) z) w))
optional_after_four tag k s t l p x y z w = rw (after_later k p x) (optional_after_three tag k s t l (after p x) y z w)

-- ---- what is read of an element

pub content_info_later : (k : ℕ) (b c : List ℕ) → StandLater k b c → (x : Element) → content_info c (later k x) ≡ later_result (later_content_info k) k (content_info b x)
unfolding content_info
content_info_later k b c h x = in_part _ _ _ SEQUENCE k b c h x (λ s t l.
    in_turn _ _ _ _ _ _ _ (field_later OBJECT_IDENTIFIER k s t l x.content) (λ content_type.
    in_turn _ _ _ _ _ _ _ (field_later (tagged 0) k s t l content_type.end) (λ explicit.
    in_turn _ _ _ _ _ _ _ (only_later k s t l explicit) (λ content.
    ends_later (later_content_info k) k s t l explicit.end (record { content_type = content_type; content = content })))))

fields_later : (k : ℕ) (b c : List ℕ) → StandLater k b c → (x : Element) → signed_data_fields c (later k x) ≡ later_result (later_signed_data k) k (signed_data_fields b x)
unfolding signed_data_fields
fields_later k b c h x = in_part _ _ _ SEQUENCE k b c h x (λ s t l.
    in_turn _ _ _ _ _ _ _ (field_later INTEGER k s t l x.content) (λ version.
    in_turn _ _ _ _ _ _ _ (field_later SET k s t l version.end) (λ digest_algorithms.
    in_turn _ _ _ _ _ _ _ (field_later SEQUENCE k s t l digest_algorithms.end) (λ encapsulated.
    in_turn _ _ _ _ _ _ _ (optional_later (tagged 0) k s t l encapsulated.end) (λ certificates.
    in_turn _ _ _ _ _ _ _ (optional_after (tagged 1) k s t l encapsulated.end certificates) (λ crls.
    in_turn _ _ _ _ _ _ _ (field_after_both SET k s t l encapsulated.end certificates crls) (λ signers.
    ends_later (later_signed_data k) k s t l signers.end (record { version = version; digest_algorithms = digest_algorithms; encapsulated = encapsulated; certificates = certificates; crls = crls; signers = signers }))))))))

of_type_later : (oid : List ℕ) (k : ℕ) (b c : List ℕ) → StandLater k b c → (x y : Element) → content_of_type oid c (later k x) (later k y) ≡ later_result (later k) k (content_of_type oid b x y)
unfolding content_of_type
of_type_later oid k b c h x y = rw (content_later k b c h x) (outcome_later (later k) k (bytes_eq (content_bytes b x) oid) (ContentType x.offset) y)

pub signed_data_later : (k : ℕ) (b c : List ℕ) → StandLater k b c → (i : ContentInfo) → signed_data c (later_content_info k i) ≡ later_result (later_signed_data k) k (signed_data b i)
signed_data_later k b c h i = in_turn _ _ _ _ _ _ _ (of_type_later SIGNED_DATA k b c h i.content_type i.content) (λ x. fields_later k b c h x)

pub encapsulated_later : (k : ℕ) (b c : List ℕ) → StandLater k b c → (x : Element) → encapsulated_content c (later k x) ≡ later_result (later_encapsulated_content k) k (encapsulated_content b x)
unfolding encapsulated_content
encapsulated_later k b c h x = in_part _ _ _ SEQUENCE k b c h x (λ s t l.
    in_turn _ _ _ _ _ _ _ (field_later OBJECT_IDENTIFIER k s t l x.content) (λ content_type.
    in_turn _ _ _ _ _ _ _ (optional_later (tagged 0) k s t l content_type.end) (λ explicit.
    in_turn _ _ _ _ _ _ _ (only_if_there_later k s t l explicit) (λ content.
    rw (after_later k content_type.end explicit) (ends_later (later_encapsulated_content k) k s t l (after content_type.end explicit) (record { content_type = content_type; content = content }))))))

pub algorithm_later : (k : ℕ) (b c : List ℕ) → StandLater k b c → (x : Element) → algorithm_identifier c (later k x) ≡ later_result (later_algorithm_identifier k) k (algorithm_identifier b x)
unfolding algorithm_identifier
algorithm_later k b c h x = in_part _ _ _ SEQUENCE k b c h x (λ s t l.
    in_turn _ _ _ _ _ _ _ (field_later OBJECT_IDENTIFIER k s t l x.content) (λ algorithm.
    in_turn _ _ _ _ _ _ _ (any_optional_later k s t l algorithm.end) (λ parameters.
    rw (after_later k algorithm.end parameters) (ends_later (later_algorithm_identifier k) k s t l (after algorithm.end parameters) (record { algorithm = algorithm; parameters = parameters })))))

pub type_and_value_later : (k : ℕ) (b c : List ℕ) → StandLater k b c → (x : Element) → type_and_value c (later k x) ≡ later_result (later_type_and_value k) k (type_and_value b x)
unfolding type_and_value
type_and_value_later k b c h x = in_part _ _ _ SEQUENCE k b c h x (λ s t l.
    in_turn _ _ _ _ _ _ _ (field_later OBJECT_IDENTIFIER k s t l x.content) (λ value_type.
    in_turn _ _ _ _ _ _ _ (any_optional_later k s t l value_type.end) (λ value.
    rw (after_later k value_type.end value) (ends_later (later_type_and_value k) k s t l (after value_type.end value) (record { value_type = value_type; value = value })))))

pub digest_info_later : (k : ℕ) (b c : List ℕ) → StandLater k b c → (x : Element) → digest_info c (later k x) ≡ later_result (later_digest_info k) k (digest_info b x)
unfolding digest_info
digest_info_later k b c h x = in_part _ _ _ SEQUENCE k b c h x (λ s t l.
    in_turn _ _ _ _ _ _ _ (field_later SEQUENCE k s t l x.content) (λ algorithm.
    in_turn _ _ _ _ _ _ _ (field_later OCTET_STRING k s t l algorithm.end) (λ digest.
    ends_later (later_digest_info k) k s t l digest.end (record { algorithm = algorithm; digest = digest }))))

pub indirect_data_later : (k : ℕ) (b c : List ℕ) → StandLater k b c → (x : Element) → spc_indirect_data c (later k x) ≡ later_result (later_indirect_data k) k (spc_indirect_data b x)
unfolding spc_indirect_data
indirect_data_later k b c h x = in_part _ _ _ SEQUENCE k b c h x (λ s t l.
    in_turn _ _ _ _ _ _ _ (field_later SEQUENCE k s t l x.content) (λ signed.
    in_turn _ _ _ _ _ _ _ (field_later SEQUENCE k s t l signed.end) (λ message_digest.
    ends_later (later_indirect_data k) k s t l message_digest.end (record { signed = signed; message_digest = message_digest }))))

pub image_data_later : (k : ℕ) (b c : List ℕ) → StandLater k b c → (x : Element) → spc_pe_image_data c (later k x) ≡ later_result (later_image_data k) k (spc_pe_image_data b x)
unfolding spc_pe_image_data
image_data_later k b c h x = in_part _ _ _ SEQUENCE k b c h x (λ s t l.
    in_turn _ _ _ _ _ _ _ (optional_later BIT_STRING k s t l x.content) (λ flags.
    in_turn _ _ _ _ _ _ _ (optional_after (tagged 0) k s t l x.content flags) (λ explicit.
    in_turn _ _ _ _ _ _ _ (only_if_there_later k s t l explicit) (λ file.
    rw (after_later k x.content flags, after_later k (after x.content flags) explicit) (ends_later (later_image_data k) k s t l (after (after x.content flags) explicit) (record { flags = flags; file = file }))))))

pub opus_info_later : (k : ℕ) (b c : List ℕ) → StandLater k b c → (x : Element) → spc_sp_opus_info c (later k x) ≡ later_result (later_opus_info k) k (spc_sp_opus_info b x)
unfolding spc_sp_opus_info
opus_info_later k b c h x = in_part _ _ _ SEQUENCE k b c h x (λ s t l.
    in_turn _ _ _ _ _ _ _ (optional_later (tagged 0) k s t l x.content) (λ name.
    in_turn _ _ _ _ _ _ _ (optional_after (tagged 1) k s t l x.content name) (λ info.
    in_turn _ _ _ _ _ _ _ (only_if_there_later k s t l name) (λ program_name.
    in_turn _ _ _ _ _ _ _ (only_if_there_later k s t l info) (λ more_info.
    rw (after_later k x.content name, after_later k (after x.content name) info) (ends_later (later_opus_info k) k s t l (after (after x.content name) info) (record { program_name = program_name; more_info = more_info })))))))

-- whose signature it is
signer_later : (k : ℕ) (s t : List ℕ) → StandLater k s t → (p : ℕ) → signer_identifier t (p + k) ≡ later_result (later k) k (signer_identifier s p)
unfolding signer_identifier
signer_later k s t l p = in_turn _ _ _ _ _ _ _ (any_field_later k s t l p) (λ x. outcome_later (later k) k (x.tag == SEQUENCE || x.tag == tagged_string 0) (Tag x.offset SEQUENCE x.tag) x)

pub signer_info_later : (k : ℕ) (b c : List ℕ) → StandLater k b c → (x : Element) → signer_info c (later k x) ≡ later_result (later_signer_info k) k (signer_info b x)
unfolding signer_info
signer_info_later k b c h x = in_part _ _ _ SEQUENCE k b c h x (λ s t l.
    in_turn _ _ _ _ _ _ _ (field_later INTEGER k s t l x.content) (λ version.
    in_turn _ _ _ _ _ _ _ (signer_later k s t l version.end) (λ signer.
    in_turn _ _ _ _ _ _ _ (field_later SEQUENCE k s t l signer.end) (λ digest_algorithm.
    in_turn _ _ _ _ _ _ _ (optional_later (tagged 0) k s t l digest_algorithm.end) (λ signed_attributes.
    in_turn _ _ _ _ _ _ _ (field_after SEQUENCE k s t l digest_algorithm.end signed_attributes) (λ signature_algorithm.
    in_turn _ _ _ _ _ _ _ (field_later OCTET_STRING k s t l signature_algorithm.end) (λ signature.
    in_turn _ _ _ _ _ _ _ (optional_later (tagged 1) k s t l signature.end) (λ unsigned_attributes.
    rw (after_later k signature.end unsigned_attributes) (ends_later (later_signer_info k) k s t l (after signature.end unsigned_attributes) (record { version = version; signer = signer; digest_algorithm = digest_algorithm; signed_attributes = signed_attributes; signature_algorithm = signature_algorithm; signature = signature; unsigned_attributes = unsigned_attributes }))))))))))

pub issuer_and_serial_later : (k : ℕ) (b c : List ℕ) → StandLater k b c → (x : Element) → issuer_and_serial c (later k x) ≡ later_result (later_issuer_and_serial k) k (issuer_and_serial b x)
unfolding issuer_and_serial
issuer_and_serial_later k b c h x = in_part _ _ _ SEQUENCE k b c h x (λ s t l.
    in_turn _ _ _ _ _ _ _ (field_later SEQUENCE k s t l x.content) (λ issuer.
    in_turn _ _ _ _ _ _ _ (field_later INTEGER k s t l issuer.end) (λ serial.
    ends_later (later_issuer_and_serial k) k s t l serial.end (record { issuer = issuer; serial = serial }))))

pub attribute_later : (k : ℕ) (b c : List ℕ) → StandLater k b c → (x : Element) → attribute c (later k x) ≡ later_result (later_attribute k) k (attribute b x)
unfolding attribute
attribute_later k b c h x = in_part _ _ _ SEQUENCE k b c h x (λ s t l.
    in_turn _ _ _ _ _ _ _ (field_later OBJECT_IDENTIFIER k s t l x.content) (λ kind.
    in_turn _ _ _ _ _ _ _ (field_later SET k s t l kind.end) (λ values.
    ends_later (later_attribute k) k s t l values.end (record { kind = kind; values = values }))))

pub certificate_later : (k : ℕ) (b c : List ℕ) → StandLater k b c → (x : Element) → certificate c (later k x) ≡ later_result (later_certificate k) k (certificate b x)
unfolding certificate
certificate_later k b c h x = in_part _ _ _ SEQUENCE k b c h x (λ s t l.
    in_turn _ _ _ _ _ _ _ (field_later SEQUENCE k s t l x.content) (λ to_be_signed.
    in_turn _ _ _ _ _ _ _ (field_later SEQUENCE k s t l to_be_signed.end) (λ signature_algorithm.
    in_turn _ _ _ _ _ _ _ (field_later BIT_STRING k s t l signature_algorithm.end) (λ signature.
    ends_later (later_certificate k) k s t l signature.end (record { to_be_signed = to_be_signed; signature_algorithm = signature_algorithm; signature = signature })))))

pub extension_later : (k : ℕ) (b c : List ℕ) → StandLater k b c → (x : Element) → extension c (later k x) ≡ later_result (later_extension k) k (extension b x)
unfolding extension
extension_later k b c h x = in_part _ _ _ SEQUENCE k b c h x (λ s t l.
    in_turn _ _ _ _ _ _ _ (field_later OBJECT_IDENTIFIER k s t l x.content) (λ kind.
    in_turn _ _ _ _ _ _ _ (optional_later BOOLEAN k s t l kind.end) (λ critical.
    in_turn _ _ _ _ _ _ _ (field_after OCTET_STRING k s t l kind.end critical) (λ value.
    ends_later (later_extension k) k s t l value.end (record { kind = kind; critical = critical; value = value })))))

abbrev later_subject : ℕ → SubjectFields → SubjectFields
later_subject k r = record { subject = later k r.subject; public_key = later k r.public_key; extensions = later_if k r.extensions }

subject_later : (k : ℕ) (s t : List ℕ) → StandLater k s t → (p : ℕ) → subject_fields t (p + k) ≡ later_result (later_subject k) k (subject_fields s p)
unfolding subject_fields
subject_later k s t l p =
    in_turn _ _ _ _ _ _ _ (field_later SEQUENCE k s t l p) (λ subject.
    in_turn _ _ _ _ _ _ _ (field_later SEQUENCE k s t l subject.end) (λ public_key.
    in_turn _ _ _ _ _ _ _ (optional_later (tagged_string 1) k s t l public_key.end) (λ issuer_id.
    in_turn _ _ _ _ _ _ _ (optional_after (tagged_string 2) k s t l public_key.end issuer_id) (λ subject_id.
    in_turn _ _ _ _ _ _ _ (optional_after_both (tagged 3) k s t l public_key.end issuer_id subject_id) (λ explicit.
    in_turn _ _ _ _ _ _ _ (only_with_tag_later SEQUENCE k s t l explicit) (λ extensions.
    rw (after_later k public_key.end issuer_id, after_later k (after public_key.end issuer_id) subject_id, after_later k (after (after public_key.end issuer_id) subject_id) explicit) (ends_later (later_subject k) k s t l (after (after (after public_key.end issuer_id) subject_id) explicit) (record { subject = subject; public_key = public_key; extensions = extensions }))))))))

pub to_be_signed_later : (k : ℕ) (b c : List ℕ) → StandLater k b c → (x : Element) → to_be_signed c (later k x) ≡ later_result (later_to_be_signed k) k (to_be_signed b x)
unfolding to_be_signed
to_be_signed_later k b c h x = in_part _ _ _ SEQUENCE k b c h x (λ s t l.
    in_turn _ _ _ _ _ _ _ (optional_later (tagged 0) k s t l x.content) (λ version.
    in_turn _ _ _ _ _ _ _ (only_with_tag_later INTEGER k s t l version) (λ _.
    in_turn _ _ _ _ _ _ _ (field_after INTEGER k s t l x.content version) (λ serial.
    in_turn _ _ _ _ _ _ _ (field_later SEQUENCE k s t l serial.end) (λ signature_algorithm.
    in_turn _ _ _ _ _ _ _ (field_later SEQUENCE k s t l signature_algorithm.end) (λ issuer.
    in_turn _ _ _ _ _ _ _ (field_later SEQUENCE k s t l issuer.end) (λ valid.
    in_turn _ _ _ _ _ _ _ (subject_later k s t l valid.end) (λ fields.
    refl))))))))

time_field_later : (k : ℕ) (s t : List ℕ) → StandLater k s t → (p : ℕ) → time_field t (p + k) ≡ later_result (later k) k (time_field s p)
unfolding time_field
time_field_later k s t l p = in_turn _ _ _ _ _ _ _ (any_field_later k s t l p) (λ x. outcome_later (later k) k (x.tag == UTC_TIME || x.tag == GENERALIZED_TIME) (Tag x.offset UTC_TIME x.tag) x)

pub validity_later : (k : ℕ) (b c : List ℕ) → StandLater k b c → (x : Element) → validity c (later k x) ≡ later_result (later_validity k) k (validity b x)
unfolding validity
validity_later k b c h x = in_part _ _ _ SEQUENCE k b c h x (λ s t l.
    in_turn _ _ _ _ _ _ _ (time_field_later k s t l x.content) (λ not_before.
    in_turn _ _ _ _ _ _ _ (time_field_later k s t l not_before.end) (λ not_after.
    ends_later (later_validity k) k s t l not_after.end (record { not_before = not_before; not_after = not_after }))))

pub key_usage_later : (k : ℕ) (b c : List ℕ) → StandLater k b c → (x : Element) → key_usage c (later k x) ≡ later_result (the_same k) k (key_usage b x)
unfolding key_usage
key_usage_later k b c h x = in_part _ _ _ OCTET_STRING k b c h x (λ s t l.
    in_turn _ _ _ _ _ _ _ (only_later k s t l x) (λ y.
    in_turn _ _ _ _ _ _ _ (with_tag_later BIT_STRING k y) (λ z.
    rw (content_later k b c h z) refl)))

or_bad_later : (k p : ℕ) (o : Option Time) → or_bad_time (p + k) o ≡ later_result (the_same k) k (or_bad_time p o)
or_bad_later k p None = refl
or_bad_later k p (Some x) = outcome_later (the_same k) k (is_time x) (BadTime p) x

pub time_later : (k : ℕ) (b c : List ℕ) → StandLater k b c → (x : Element) → time_of c (later k x) ≡ later_result (the_same k) k (time_of b x)
unfolding time_of
time_later k b c h x = rw (content_later k b c h x) (or_bad_later k x.offset (time_by_tag x.tag (content_bytes b x)))

abbrev later_last : ℕ → LastFields → LastFields
later_last k r = record { accuracy = later_if k r.accuracy; nonce = later_if k r.nonce; tsa = later_if k r.tsa }

last_later : (k : ℕ) (s t : List ℕ) → StandLater k s t → (p : ℕ) → last_fields t (p + k) ≡ later_result (later_last k) k (last_fields s p)
unfolding last_fields
last_later k s t l p =
    in_turn _ _ _ _ _ _ _ (optional_later SEQUENCE k s t l p) (λ accuracy.
    in_turn _ _ _ _ _ _ _ (optional_after BOOLEAN k s t l p accuracy) (λ ordering.
    in_turn _ _ _ _ _ _ _ (optional_after_both INTEGER k s t l p accuracy ordering) (λ nonce.
    in_turn _ _ _ _ _ _ _ (optional_after_three (tagged 0) k s t l p accuracy ordering nonce) (λ tsa.
    in_turn _ _ _ _ _ _ _ (optional_after_four (tagged 1) k s t l p accuracy ordering nonce tsa) (λ extensions.
    rw (after_later k p accuracy, after_later k (after p accuracy) ordering, after_later k (after (after p accuracy) ordering) nonce, after_later k (after (after (after p accuracy) ordering) nonce) tsa, after_later k (after (after (after (after p accuracy) ordering) nonce) tsa) extensions) (ends_later (later_last k) k s t l (after (after (after (after (after p accuracy) ordering) nonce) tsa) extensions) (record { accuracy = accuracy; nonce = nonce; tsa = tsa })))))))

stamp_fields_later : (k : ℕ) (b c : List ℕ) → StandLater k b c → (x : Element) → tst_info_fields c (later k x) ≡ later_result (later_tst_info k) k (tst_info_fields b x)
unfolding tst_info_fields
stamp_fields_later k b c h x = in_part _ _ _ SEQUENCE k b c h x (λ s t l.
    in_turn _ _ _ _ _ _ _ (field_later INTEGER k s t l x.content) (λ version.
    in_turn _ _ _ _ _ _ _ (field_later OBJECT_IDENTIFIER k s t l version.end) (λ policy.
    in_turn _ _ _ _ _ _ _ (field_later SEQUENCE k s t l policy.end) (λ message_imprint.
    in_turn _ _ _ _ _ _ _ (field_later INTEGER k s t l message_imprint.end) (λ serial.
    in_turn _ _ _ _ _ _ _ (field_later GENERALIZED_TIME k s t l serial.end) (λ time.
    in_turn _ _ _ _ _ _ _ (last_later k s t l time.end) (λ fields.
    refl)))))))

pub tst_info_later : (k : ℕ) (b c : List ℕ) → StandLater k b c → (x : Element) → tst_info c (later k x) ≡ later_result (later_tst_info k) k (tst_info b x)
unfolding tst_info
tst_info_later k b c h x = in_part _ _ _ OCTET_STRING k b c h x (λ s t l.
    in_turn _ _ _ _ _ _ _ (only_later k s t l x) (λ y.
    stamp_fields_later k s t l y))

named_later : (k : ℕ) (b c : List ℕ) → StandLater k b c → (x : Element) (starts : Bool) → name_attribute c (later k x) starts ≡ later_result (later_name k) k (name_attribute b x starts)
unfolding name_attribute
named_later k b c h x starts = in_part _ _ _ SEQUENCE k b c h x (λ s t l.
    in_turn _ _ _ _ _ _ _ (field_later OBJECT_IDENTIFIER k s t l x.content) (λ kind.
    in_turn _ _ _ _ _ _ _ (any_field_later k s t l kind.end) (λ value.
    ends_later (later_name k) k s t l value.end (record { kind = kind; value = value; starts_rdn = starts }))))

in_later : (k : ℕ) (b c : List ℕ) → StandLater k b c → (e p : ℕ) (starts : Bool) → attribute_in c (e + k) (p + k) starts ≡ later_result (later_name_attribute k) k (attribute_in b e p starts)
unfolding attribute_in
in_later k b c h e p starts =
    let l : StandLater k (take e b) (take (e + k) c) = cut k b c h e in
    in_turn _ _ _ _ _ _ _ (any_field_later k (take e b) (take (e + k) c) l p) (λ x.
    in_turn _ _ _ _ _ _ _ (named_later k (take e b) (take (e + k) c) l x starts) (λ a. refl))

next_later : (k : ℕ) (b c : List ℕ) → StandLater k b c → (p : ℕ) → (field SET c (p + k) >>= λ r. attribute_in c r.end r.content true) ≡ later_result (later_name_attribute k) k (field SET b p >>= λ r. attribute_in b r.end r.content true)
next_later k b c h p = in_turn _ _ _ _ _ _ _ (field_later SET k b c h p) (λ r. in_later k b c h r.end r.content true)

abbrev Read : Type 0
Read = Result (NameAttribute × (ℕ × ℕ)) SignatureError

either : (f : Read → Read) (test : Bool) (u v x y : Read) → u ≡ f x → v ≡ f y → (if test then u else v) ≡ f (if test then x else y)
either f true u v x y g h = g
either f false u v x y g h = h

pub name_later : (k : ℕ) (b c : List ℕ) → StandLater k b c → (e p : ℕ) → attribute_at c (e + k) (p + k) ≡ later_result (later_name_attribute k) k (attribute_at b e p)
unfolding attribute_at
name_later k b c h e p = rw (lt_later p e (p + k) (e + k) k refl refl)
    (either (later_result (later_name_attribute k) k) (nat_lt p e) _ _ _ _ (in_later k b c h e p false) (next_later k b c h p))

pub name_start_later : (k : ℕ) (b c : List ℕ) → StandLater k b c → (p : ℕ) → attribute_at c 0 (p + k) ≡ later_result (later_name_attribute k) k (attribute_at b 0 p)
unfolding attribute_at
name_start_later k b c h p = rw (lt_is_not (p + k) 0 (omega arith), lt_is_not p 0 (omega arith)) (next_later k b c h p)
