-- Certificates as they are written: three pieces, one after the other. (PE format: attribute certificate table.)
use Rattle.std.specs.Prelude.{◌≡◌, ℕ, ◌+◌, ◌-◌, ◌^◌, ◌<◌, List, [], ◌∷◌, ◌++◌, length, replicate, Result}
use Rattle.std.specs.List.{flat_map}
use Rattle.pe_core.specs.Bytes.{bytes_of, holds}
use Rattle.pe_core.specs.Refusals.{Refusal, WriteFit, outcome}
use Rattle.pe_core.specs.SectionMap.{rounded_up}
use Rattle.pe_records.specs.Certificates.{CertificateView, revision_number, type_number}

-- the header's eight bytes
unfoldable pub spell_certificate : CertificateView → List ℕ
spell_certificate c = bytes_of 4 c.length ++ bytes_of 2 (revision_number c.revision) ++ bytes_of 2 (type_number c.certificate_type)

-- the size of a written certificate in bytes: a multiple of eight
abbrev pub written_length : CertificateView → ℕ
written_length c = rounded_up (8 + length c.body) 8

-- the zeros after the body
abbrev pub padding : CertificateView → List ℕ
padding c = replicate (written_length c - (8 + length c.body)) 0

-- header, body and zeros
abbrev pub written_certificate : CertificateView → List ℕ
written_certificate c = spell_certificate c ++ c.body ++ padding c

-- certificates that are written one after the other
abbrev pub written_certificates : List CertificateView → List ℕ
written_certificates cs = flat_map written_certificate cs

-- the offset after a certificate that is written at offset p, or `WriteFit` if it does not fit
abbrev pub written_end : List ℕ → ℕ → CertificateView → Result ℕ Refusal
written_end b p c = outcome ((holds b p (written_length c), WriteFit) ∷ []) (p + written_length c)

-- the length counts the header and the body, as in every certificate that is read
pub record IsWhole (c : CertificateView) : Type 0 where
  pub fits : c.length < 2 ^ 32
  pub body : length c.body ≡ c.length - 8
