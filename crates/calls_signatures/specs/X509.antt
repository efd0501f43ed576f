-- What calls return of a certificate in a signature. `b` are the caller's bytes, `x` is the element that is read.
use Rattle.std.specs.Prelude.{ℕ, List, [], ◌∷◌, Bool, false, not, Option, Some, None, Result, Ok, if◌then◌else◌}
use Rattle.std.specs.Str.{bytes_eq}
use Rattle.pe_core.specs.Refusals.{◌>>=◌}
use Rattle.pe_pkcs7.specs.Certificates.{certificate, extension, key_usage, to_be_signed, validity}
use Rattle.pe_pkcs7.specs.Fields.{content_bytes}
use Rattle.pe_pkcs7.specs.ObjectIds.{extension_number}
use Rattle.pe_pkcs7.specs.declared.certificate.Certificate.{Certificate}
use Rattle.pe_pkcs7.specs.declared.certificate.ToBeSigned.{ToBeSigned}
use Rattle.pe_pkcs7.specs.declared.certificate.Validity.{Validity}
use Rattle.pe_pkcs7.specs.declared.der.Element.{Element}
use Rattle.pe_pkcs7.specs.declared.error.SignatureError.{SignatureError}
use Rattle.calls_signatures.specs.SignatureParts.{algorithm_at, bits_range, content_range, oid_part, optional_content, read_in, whole_range}
use Rattle.calls_base.specs.declared.ranges.Range.{Range}
use Rattle.calls_signatures.specs.declared.elements.Algorithm.{Algorithm}
use Rattle.calls_signatures.specs.declared.refused.SignatureFailure.{SignatureFailure}
use Rattle.calls_signatures.specs.declared.x509.X509.{X509}
use Rattle.calls_signatures.specs.declared.x509.X509Extension.{X509Extension}

abbrev pub x509_part : Certificate → ToBeSigned → Validity → Algorithm → X509
x509_part c t v a = record {
  to_be_signed = whole_range c.to_be_signed;
  serial = content_range t.serial;
  issuer = whole_range t.issuer;
  subject = whole_range t.subject;
  not_before = whole_range v.not_before;
  not_after = whole_range v.not_after;
  public_key = whole_range t.public_key;
  extensions = optional_content t.extensions;
  signature_algorithm = a;
  signature = bits_range c.signature;
}

abbrev pub x509_at : List ℕ → Element → Result X509 SignatureError
x509_at b x =
    certificate b x >>= λ c.
    to_be_signed b c.to_be_signed >>= λ t.
    validity b t.validity >>= λ v.
    algorithm_at b c.signature_algorithm >>= λ a.
    Ok (x509_part c t v a)

abbrev pub x509_in : List ℕ → Range → Result X509 SignatureFailure
x509_in = read_in x509_at

-- a BOOLEAN that is there and has another content than one octet of 0, which is false
abbrev pub is_true : List ℕ → Option Element → Bool
is_true b None = false
is_true b (Some x) = not (bytes_eq (content_bytes b x) (0 ∷ []))

abbrev pub extension_at : List ℕ → Element → Result X509Extension SignatureError
extension_at b x = extension b x >>= λ e. Ok (record {
  kind = oid_part e.kind (extension_number (content_bytes b e.kind));
  value = content_range e.value;
  critical = if is_true b e.critical then 1 else 0;
  spare = 0;
})

abbrev pub extension_in : List ℕ → Range → Result X509Extension SignatureFailure
extension_in = read_in extension_at

abbrev pub key_usage_at : List ℕ → Element → Result (Option ℕ) SignatureError
key_usage_at b x = extension b x >>= λ e. key_usage b e.value

abbrev pub key_usage_in : List ℕ → Range → Result (Option ℕ) SignatureFailure
key_usage_in = read_in key_usage_at
