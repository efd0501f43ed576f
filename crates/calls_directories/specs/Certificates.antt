-- A walk over the certificates of a table.
use Rattle.std.specs.Prelude.{◌≡◌, ℕ, ◌+◌, ◌-◌, ◌==◌, List, length, nat_lt, Option, Some, None, Result, Ok, Err, if◌then◌else◌}
use Rattle.pe_core.specs.Bytes.{holds}
use Rattle.pe_core.specs.Refusals.{Refusal, CertificateTable}
use Rattle.pe_records.specs.Certificates.{CertificateView, certificate_at, certificates_at, revision_number, type_number}
use Rattle.calls_directories.specs.declared.directories.certificates.Certificate.{Certificate}
use Rattle.calls_base.specs.declared.ranges.Range.{Range}
use Rattle.calls_base.specs.Ranges.{IsRange, no_bytes}

-- the certificate at offset p: its body follows the eight bytes of its header
abbrev pub certificate_reported : ℕ → CertificateView → Certificate
certificate_reported p c = record {
  body = record { offset = p + 8; length = length c.body };
  length = c.length;
  revision = revision_number c.revision;
  certificate_type = type_number c.certificate_type;
}

-- the walk that continues at an offset: it is over unless the offset is before its end
abbrev pub walk_from : Range → ℕ → Range
walk_from w next = if nat_lt next (w.offset + w.length) then record { offset = next; length = w.offset + w.length - next } else no_bytes

-- a step by the certificate that is read, or by what refuses it
abbrev pub step_by : Range → Result (CertificateView × ℕ) Refusal → Result (Option Certificate) Refusal × Range
step_by w (Ok c) = (Ok (Some (certificate_reported w.offset c.0)), walk_from w c.1)
step_by w (Err refusal) = (Err refusal, no_bytes)

-- a step's result, and the walk after it: the certificate at the walk's start, and the walk from the next one on;
-- nothing at the end; `CertificateTable` where the range is not inside the bytes
unfoldable pub certificate_step : List ℕ → Range → Result (Option Certificate) Refusal × Range
certificate_step b w =
    if holds b w.offset w.length then (if w.length == 0 then (Ok None, w) else step_by w (certificate_at b w.offset))
    else (Err CertificateTable, no_bytes)

-- the certificates of the table that a walk starts as
abbrev pub listed : List ℕ → Range → Result (List CertificateView) Refusal
listed b w = certificates_at b w.offset w.length

-- a step of a walk
abbrev pub StepsCertificates : List ℕ → Range → Result (Option Certificate) Refusal → Range → Type 0
StepsCertificates b old answer new = (answer ≡ (certificate_step b old).0) × (new ≡ (certificate_step b old).1)

-- a certificate as numbers is this certificate, and the range of its body is the body
abbrev pub ReportsCertificate : List ℕ → Certificate → CertificateView → Type 0
ReportsCertificate b x c = ((p : ℕ) × (x ≡ certificate_reported p c)) × IsRange b x.body c.body
