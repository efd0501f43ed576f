-- The headers, section headers and certificates of an image, each as it is read of the bytes.
use Rattle.std.proofs.Common.{◌≡◌, ℕ, List, Result, Ok, Err, refl, sym, ap, subst, ◌∙◌, arith}
use Rattle.pe_image.proofs.Cited.{header_at, Refusal, sections_of, ParseOptions, CertificateView, CoreView, core_of}
use Rattle.pe_image.proofs.Cited.{certificate_field, list_by_mode, IsAfterCore, IsImage, ImageView, before_resources}
use Rattle.pe_image.proofs.Cited.{certificates_of, core_part, demanded, first_fields_demanded}
use Rattle.pe_image.proofs.Permissive.{certificates_alone, core_of_image}
use Rattle.pe_image.proofs.SectionsFirst.{core_before, headers_of_core}
use Rattle.pe_image.proofs.Steps.{first_passed}

-- the core of an image; no field before its resources refuses it
record HasCore (b : List ℕ) (o : ParseOptions) : Type 0 where
  pub core : CoreView
  pub is : core_of b o ≡ Ok core
  pub first : first_fields_demanded b o core ≡ Ok tt

by_core : (b : List ℕ) (o : ParseOptions) (x : ImageView) (r : Result CoreView Refusal) → before_resources b o ≡ r → IsAfterCore b o r (Ok x) → HasCore b o
unfolding before_resources
by_core b o x (Ok c) h is =
    let core : core_of b o ≡ Ok c = core_before b o (core_of b o) c h in
    record { core = c; is = core; first = (first_passed (first_fields_demanded b o c) (λ u. Ok c) c (rw core at h)) }
by_core b o x (Err e) h is = absurd cc

has_core : (b : List ℕ) (o : ParseOptions) (x : ImageView) → IsImage b o (Ok x) → HasCore b o
has_core b o x is = by_core b o x (before_resources b o) refl is

same_core : (b : List ℕ) (o : ParseOptions) (x : ImageView) (is : IsImage b o (Ok x)) → (has_core b o x is).core ≡ core_part x
same_core b o x is = let has = has_core b o x is in sym (core_of_image b o has.core x has.is is)

-- ---- headers and section headers

pub header_is : (b : List ℕ) (o : ParseOptions) (x : ImageView) → IsImage b o (Ok x) → header_at b o.parse_mode ≡ Ok x.header
header_is b o x is =
    let has = has_core b o x is in
    (headers_of_core b o has.core has.is).0 ∙ ap (λ (c : CoreView). Ok c.header) (same_core b o x is)

pub sections_are : (b : List ℕ) (o : ParseOptions) (x : ImageView) → IsImage b o (Ok x) → sections_of b x.header ≡ Ok x.sections
sections_are b o x is =
    let has = has_core b o x is in
    subst (λ (c : CoreView). sections_of b c.header ≡ Ok c.sections) (same_core b o x is) (headers_of_core b o has.core has.is).1

-- ---- certificates

pub certificates_are : (b : List ℕ) (o : ParseOptions) (x : ImageView) → IsImage b o (Ok x) → list_by_mode o.parse_mode (certificate_field b o x.header.optional_header) ≡ Ok x.certificates
certificates_are b o x is =
    let has = has_core b o x is in
    let passed : demanded o.parse_mode (certificates_of b o has.core) ≡ Ok tt = grind (arith, has.first) in
    let read : list_by_mode o.parse_mode (certificates_of b o has.core) ≡ Ok x.certificates = grind arith ∙ ap (λ (cs : List CertificateView). Ok cs) (sym (certificates_alone b o has.core x has.is is)) in
    subst (λ (c : CoreView). list_by_mode o.parse_mode (certificate_field b o c.header.optional_header) ≡ Ok x.certificates) (same_core b o x is) read
