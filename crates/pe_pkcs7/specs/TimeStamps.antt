-- Time-stamp tokens. (RFC 3161: 2.4.1, 2.4.2.) `b` are the bytes of the signature.
use Rattle.std.specs.Prelude.{ℕ, List, Result, Ok}
use Rattle.pe_core.specs.Refusals.{◌>>=◌}
use Rattle.pe_pkcs7.specs.Fields.{field, optional, after, ends_at, part_of, only_element}
use Rattle.pe_pkcs7.specs.Tags.{BOOLEAN, INTEGER, OCTET_STRING, OBJECT_IDENTIFIER, GENERALIZED_TIME, SEQUENCE, tagged}
use Rattle.pe_pkcs7.specs.declared.der.Element.{Element}
use Rattle.pe_pkcs7.specs.declared.time_stamp.TstInfo.{TstInfo}
use Rattle.pe_pkcs7.specs.declared.time_stamp.LastFields.{LastFields}
use Rattle.pe_pkcs7.specs.declared.error.SignatureError.{SignatureError}

-- the last fields of a TSTInfo, in its bytes from p on: accuracy SEQUENCE OPTIONAL, ordering BOOLEAN OPTIONAL,
--   nonce INTEGER OPTIONAL, tsa [0] EXPLICIT GeneralName OPTIONAL, extensions [1] IMPLICIT SEQUENCE OF OPTIONAL
unfoldable pub last_fields : List ℕ → ℕ → Result LastFields SignatureError
last_fields s p =
    optional SEQUENCE s p >>= λ accuracy.
    optional BOOLEAN s (after p accuracy) >>= λ ordering.
    optional INTEGER s (after (after p accuracy) ordering) >>= λ nonce.
    optional (tagged 0) s (after (after (after p accuracy) ordering) nonce) >>= λ tsa.
    optional (tagged 1) s (after (after (after (after p accuracy) ordering) nonce) tsa) >>= λ extensions.
    ends_at s (after (after (after (after (after p accuracy) ordering) nonce) tsa) extensions) (record {
      accuracy = accuracy;
      nonce = nonce;
      tsa = tsa;
    })

-- TSTInfo ::= SEQUENCE { version INTEGER, policy OBJECT IDENTIFIER, messageImprint MessageImprint, serialNumber INTEGER,
--   genTime GeneralizedTime, .. }
unfoldable pub tst_info_fields : List ℕ → Element → Result TstInfo SignatureError
tst_info_fields b x =
    part_of SEQUENCE b x >>= λ s.
    field INTEGER s x.content >>= λ version.
    field OBJECT_IDENTIFIER s version.end >>= λ policy.
    field SEQUENCE s policy.end >>= λ message_imprint.
    field INTEGER s message_imprint.end >>= λ serial.
    field GENERALIZED_TIME s serial.end >>= λ time.
    last_fields s time.end >>= λ fields.
    Ok (record {
      version = version;
      policy = policy;
      message_imprint = message_imprint;
      serial = serial;
      time = time;
      accuracy = fields.accuracy;
      nonce = fields.nonce;
      tsa = fields.tsa;
    })

-- the one in the OCTET STRING that a token signs
unfoldable pub tst_info : List ℕ → Element → Result TstInfo SignatureError
tst_info b x =
    part_of OCTET_STRING b x >>= λ s.
    only_element s x >>= λ y.
    tst_info_fields s y
