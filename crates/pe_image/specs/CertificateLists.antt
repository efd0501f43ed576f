-- The certificates that a writer writes: those that a caller has, or some of a table of the file, which are read while they are
-- written and so take no memory.
use Rattle.std.specs.Prelude.{◌≡◌, ℕ, zero, suc, List, [], ◌∷◌, map, Option, Some, None, Ok, unwrap_or}
use Rattle.pe_core.specs.Refusals.{◌>>=◌}
use Rattle.pe_records.specs.Certificates.{CertificateView, certificate_at, certificate_view}
use Rattle.pe_records.specs.declared.certificate_table.AttributeCertificate.{AttributeCertificate}
use Rattle.pe_image.specs.Core.{value_or_none}
use Rattle.pe_image.specs.declared.write.certificate_list.CertificateList.{CertificateList}
use Rattle.pe_image.specs.declared.write.certificate_list.CertificateList.TheVariants as lists

-- n certificates of the bytes, one after the other from offset p on; those before the first that is refused
unfoldable pub listed : List ℕ → ℕ → ℕ → List CertificateView
listed b zero p = []
listed b (suc n) p = unwrap_or (value_or_none (certificate_at b p >>= λ c. Ok (c.0 ∷ listed b n c.1))) []

-- the certificates of a list
abbrev pub certificate_views : CertificateList → List CertificateView
certificate_views (lists.Values cs) = map certificate_view cs.now
certificate_views (lists.Table b p n) = listed b.now n p

-- the first of some certificates and a list of those after it; none is left where there is no first one
abbrev pub IsFirst : List CertificateView → Option (AttributeCertificate × CertificateList) → Type 0
IsFirst cs None = cs ≡ []
IsFirst cs (Some first) = cs ≡ certificate_view first.0 ∷ certificate_views first.1
