-- A part of a signature by its kind, as one call returns those of all kinds.
use Rattle.std.specs.Prelude.{ℕ, ◌==◌, List, Option, Some, None, Result, Ok, if◌then◌else◌}
use Rattle.std.specs.Option.{option_map}
use Rattle.pe_core.specs.Refusals.{◌>>=◌}
use Rattle.calls_base.specs.declared.ranges.Range.{Range}
use Rattle.calls_signatures.specs.NameWalks.{name_in}
use Rattle.calls_signatures.specs.SignatureParts.{algorithm_in, SignatureHandsOut, SignatureHandsOutIf}
use Rattle.calls_signatures.specs.Signatures.{attribute_in, image_data_in, indirect_data_in, opus_info_in, signature_in, signer_in, time_in, time_stamp_in}
use Rattle.calls_signatures.specs.X509.{extension_in, key_usage_in, x509_in}
use Rattle.pe_c.specs.declared.signatures.AnyPart.{AnyPart}
use Rattle.pe_c.specs.declared.signatures.TheConstants.{PART_ALGORITHM, PART_ATTRIBUTE, PART_EXTENSION, PART_IMAGE_DATA, PART_INDIRECT_DATA, PART_KEY_USAGE, PART_NAME, PART_OPUS_INFO, PART_SIGNATURE, PART_SIGNER, PART_TIME, PART_TIME_STAMP, PART_X509}
use Rattle.calls_signatures.specs.declared.refused.SignatureFailure.{SignatureFailure}

-- a part as the field of its kind, with the other fields as they were
abbrev pub in_field : {X : Type 0} → (X → AnyPart) → Result X SignatureFailure → Result (Option AnyPart) SignatureFailure
in_field put found = found >>= λ x. Ok (Some (put x))

-- the part that a range starts with, read as one of a kind; none of another kind
abbrev pub any_part : ℕ → List ℕ → Range → AnyPart → Result (Option AnyPart) SignatureFailure
any_part kind b r old =
    if kind == PART_SIGNATURE then in_field (λ x. record old { signature = x }) (signature_in b r)
    else if kind == PART_ALGORITHM then in_field (λ x. record old { algorithm = x }) (algorithm_in b r)
    else if kind == PART_INDIRECT_DATA then in_field (λ x. record old { indirect_data = x }) (indirect_data_in b r)
    else if kind == PART_IMAGE_DATA then in_field (λ x. record old { image_data = x }) (image_data_in b r)
    else if kind == PART_SIGNER then in_field (λ x. record old { signer = x }) (signer_in b r)
    else if kind == PART_ATTRIBUTE then in_field (λ x. record old { attribute = x }) (attribute_in b r)
    else if kind == PART_OPUS_INFO then in_field (λ x. record old { opus_info = x }) (opus_info_in b r)
    else if kind == PART_X509 then in_field (λ x. record old { x509 = x }) (x509_in b r)
    else if kind == PART_EXTENSION then in_field (λ x. record old { extension = x }) (extension_in b r)
    else if kind == PART_KEY_USAGE then (key_usage_in b r >>= λ found. Ok (option_map (λ x. record old { key_usage = x }) found))
    else if kind == PART_NAME then in_field (λ x. record old { name = x }) (name_in b r)
    else if kind == PART_TIME then in_field (λ x. record old { time = x }) (time_in b r)
    else if kind == PART_TIME_STAMP then in_field (λ x. record old { time_stamp = x }) (time_stamp_in b r)
    else Ok None

-- ---- what functions of pe.h return that take one field of what the call for parts of a signature writes

-- where a call returned the part of a kind, this field and the number are those of a call that reads such a part
abbrev pub ReadsField : {X : Type 0} → ℕ → (AnyPart → X) → (List ℕ → Range → Result X SignatureFailure) → Type 0
ReadsField kind field read =
    (b : List ℕ) (r : Range) (number : ℕ) (failed failed_after : SignatureFailure) (old new : AnyPart) →
    SignatureHandsOutIf number failed failed_after old new (any_part kind b r old) →
    SignatureHandsOut number failed failed_after (field old) (field new) (read b r)

-- the same of a part that may be absent
abbrev pub ReadsFieldIf : {X : Type 0} → ℕ → (AnyPart → X) → (List ℕ → Range → Result (Option X) SignatureFailure) → Type 0
ReadsFieldIf kind field read =
    (b : List ℕ) (r : Range) (number : ℕ) (failed failed_after : SignatureFailure) (old new : AnyPart) →
    SignatureHandsOutIf number failed failed_after old new (any_part kind b r old) →
    SignatureHandsOutIf number failed failed_after (field old) (field new) (read b r)
