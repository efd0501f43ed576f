-- Attribute certificates, and the table that lists them. (PE format: attribute certificate table.)
use Rattle.std.specs.Prelude.{◌≡◌, ℕ, zero, suc, ◌+◌, ◌-◌, ◌<◌, ◌≤◌, ◌==◌, ◌||◌, ◌⊎◌, Bool, true, false, List, [], ◌∷◌, map, length, slice_get, nat_lt, Some, Result, Ok, Err, Vec, if◌then◌else◌}
use Rattle.pe_core.specs.Bytes.{le, holds, range}
use Rattle.pe_core.specs.Refusals.{Refusal, Short, CertificateSize, CertificateRevision, CertificateType, CertificateTable, outcome, kind_of, UnlessMemory, IfMemory, ◌>>=◌}
use Rattle.pe_core.specs.SectionMap.{rounded_up}
use Rattle.pe_core.specs.declared.error.Error.{Error}
use Rattle.pe_records.specs.declared.certificate_table.AttributeCertificateRevision.{AttributeCertificateRevision}
use Rattle.pe_records.specs.declared.certificate_table.AttributeCertificateRevision.TheVariants.{Revision1_0, Revision2_0}
use Rattle.pe_records.specs.declared.certificate_table.AttributeCertificateType.{AttributeCertificateType}
use Rattle.pe_records.specs.declared.certificate_table.AttributeCertificateType.TheVariants.{X509, PkcsSignedData, Reserved1, TsStackSigned}
use Rattle.pe_records.specs.declared.certificate_table.AttributeCertificate.{AttributeCertificate}

-- what callers see of a certificate; `body` are the bytes of its body
pub record CertificateView : Type 0 where
  pub length : ℕ
  pub revision : AttributeCertificateRevision
  pub certificate_type : AttributeCertificateType
  pub body : List ℕ

-- this certificate as callers see it
abbrev pub certificate_view : AttributeCertificate → CertificateView
certificate_view c = record { length = c.length; revision = c.revision; certificate_type = c.certificate_type; body = c.certificate.now }

-- ---- revisions and types

-- the number of a revision, and of a type
abbrev pub revision_number : AttributeCertificateRevision → ℕ
revision_number Revision1_0 = 0x0100
revision_number Revision2_0 = 0x0200

abbrev pub type_number : AttributeCertificateType → ℕ
type_number X509 = 1
type_number PkcsSignedData = 2
type_number Reserved1 = 3
type_number TsStackSigned = 4

-- the number is that of a revision, and that of a type
abbrev pub is_revision : ℕ → Bool
is_revision n = n == revision_number Revision1_0 || n == revision_number Revision2_0

abbrev pub is_type : ℕ → Bool
is_type n = n == 1 || n == 2 || n == 3 || n == 4

-- the revision, and the type, of a number that has one
abbrev pub revision_of : ℕ → AttributeCertificateRevision
revision_of n = if n == revision_number Revision1_0 then Revision1_0 else Revision2_0

abbrev pub type_of : ℕ → AttributeCertificateType
type_of n = if n == 1 then X509 else (if n == 2 then PkcsSignedData else (if n == 3 then Reserved1 else TsStackSigned))

-- ---- one certificate

-- the size of the body in bytes, by the length at offset p, which counts the header's eight bytes too
abbrev pub body_length : List ℕ → ℕ → ℕ
body_length b p = le b p 4 - 8

-- the certificate at offset p, and the offset after it: the end of its body, rounded up to eight
unfoldable pub certificate : List ℕ → ℕ → CertificateView × ℕ
certificate b p = (
  record {
    length = le b p 4;
    revision = revision_of (le b (p + 4) 2);
    certificate_type = type_of (le b (p + 6) 2);
    body = range b (p + 8) (body_length b p);
  },
  rounded_up (p + 8 + body_length b p) 8,
)

-- its tests, in order, and what each refuses
unfoldable pub certificate_tests : List ℕ → ℕ → List (Bool × Refusal)
certificate_tests b p =
    (holds b p 8, Short)
    ∷ (holds b (p + 8) (body_length b p), CertificateSize)
    ∷ (is_revision (le b (p + 4) 2), CertificateRevision)
    ∷ (is_type (le b (p + 6) 2), CertificateType)
    ∷ []

-- the certificate at offset p and the offset after it, or the first refusal
unfoldable pub certificate_at : List ℕ → ℕ → Result (CertificateView × ℕ) Refusal
certificate_at b p = outcome (certificate_tests b p) (certificate b p)

-- the offset after a refusal at offset p: after the header, if there is one
abbrev pub offset_after_refusal : ℕ → Refusal → ℕ
offset_after_refusal p Short = p
offset_after_refusal p _ = p + 8

-- what a parse at offset p returns, and where it leaves the offset
abbrev pub Parses : List ℕ → ℕ → Result AttributeCertificate Error → ℕ → Type 0
Parses b p (Ok c) after = certificate_at b p ≡ Ok (certificate_view c, after)
Parses b p (Err e) after = (certificate_at b p ≡ Err (kind_of e)) × (after ≡ offset_after_refusal p (kind_of e))

-- what finding the revision, and the type, of a number returns
abbrev pub FindsRevision : ℕ → Result AttributeCertificateRevision Error → Type 0
FindsRevision n (Ok r) = (is_revision n ≡ true) × (r ≡ revision_of n)
FindsRevision n (Err e) = (is_revision n ≡ false) × (kind_of e ≡ CertificateRevision)

abbrev pub FindsType : ℕ → Result AttributeCertificateType Error → Type 0
FindsType n (Ok t) = (is_type n ≡ true) × (t ≡ type_of n)
FindsType n (Err e) = (is_type n ≡ false) × (kind_of e ≡ CertificateType)

-- ---- the table

-- these certificates follow one another: certificate i is at `offset i`, which is before the end, and the offset after
-- it is `offset (suc i)`
pub record Stand (b : List ℕ) (end : ℕ) (offset : ℕ → ℕ) (cs : List CertificateView) : Type 0 where
  pub before_end : (i : ℕ) → i < length cs → offset i < end
  pub after : (i : ℕ) (c : CertificateView) → slice_get cs i ≡ Some c → certificate_at b (offset i) ≡ Ok (c, offset (suc i))

-- these are the certificates of the table: they start at its offset, and the last offset is not before its end
pub record IsListing (b : List ℕ) (address size : ℕ) (cs : List CertificateView) : Type 0 where
  pub within : address + size ≤ length b
  pub offset : ℕ → ℕ
  pub first : offset 0 ≡ address
  pub stand : Stand b (address + size) offset cs
  pub last : address + size ≤ offset (length cs)

-- the same of the table that starts at this offset and ends with the file
abbrev pub IsListingFrom : List ℕ → ℕ → List CertificateView → Type 0
IsListingFrom b address cs = IsListing b address (length b - address) cs

-- the size of a table of this size and, after its padding, of these bytes with theirs
abbrev pub joined_size : ℕ → List ℕ → ℕ
joined_size size more = rounded_up size 8 + rounded_up (length more) 8

-- a listing can't go on: its first certificates are there, but none is at the offset after them, which is before the
-- end
pub record CannotGoOn (b : List ℕ) (address size : ℕ) (refusal : Refusal) : Type 0 where
  pub within : address + size ≤ length b
  pub certificates : List CertificateView
  pub offset : ℕ → ℕ
  pub first : offset 0 ≡ address
  pub stand : Stand b (address + size) offset certificates
  pub last : offset (length certificates) < address + size
  pub refused : certificate_at b (offset (length certificates)) ≡ Err refusal

-- the refusal of a table: it ends past the file, or a listing can't go on
abbrev pub IsRefused : List ℕ → ℕ → ℕ → Refusal → Type 0
IsRefused b address size refusal = ((length b < address + size) × (refusal ≡ CertificateTable)) ⊎ CannotGoOn b address size refusal

-- the table has the first certificates of a listing, one or more
pub record ListingStarts (b : List ℕ) (address size : ℕ) : Type 0 where
  pub within : address + size ≤ length b
  pub certificates : List CertificateView
  pub some : 0 < length certificates
  pub offset : ℕ → ℕ
  pub first : offset 0 ≡ address
  pub stand : Stand b (address + size) offset certificates

-- what listing a table returns; memory may run out, but is allocated only once a certificate of the table is read
abbrev pub Lists : {Z : Type 0} → List ℕ → ℕ → ℕ → Result (Vec AttributeCertificate Z) Error → Type 0
Lists b address size (Ok v) = IsListing b address size (map certificate_view v.items)
Lists b address size (Err e) = UnlessMemory e (IsRefused b address size (kind_of e)) × IfMemory e (ListingStarts b address size)

-- ---- the same as a function, for definitions that go on from the list; it is proved to be the listing

-- the certificates from offset p to the end, at most n
unfoldable pub certificates_from : List ℕ → ℕ → ℕ → ℕ → Result (List CertificateView) Refusal
certificates_from b end zero p = Ok []
certificates_from b end (suc n) p =
    if nat_lt p end then (certificate_at b p >>= λ c. certificates_from b end n c.1 >>= λ cs. Ok (c.0 ∷ cs)) else Ok []

-- the certificates of the table, or its refusal; each takes a byte of the table, so there are at most as many as its
-- size
unfoldable pub certificates_at : List ℕ → ℕ → ℕ → Result (List CertificateView) Refusal
certificates_at b address size = if holds b address size then certificates_from b (address + size) size address else Err CertificateTable
