-- What is written is read again.
use Rattle.std.proofs.Common.{[], ◌∷◌, ◌≡◌, true, ℕ, ◌+◌, ◌-◌, ◌/◌, ◌%◌, ◌^◌, ◌<◌, ◌≤◌, List, ◌++◌, length, take, drop, get_or, Ok, refl, ap, sym, ◌∙◌, subst, append_assoc, add-zero, length-append, length-take, length-drop, length-take-le, arith}
use Rattle.std.proofs.lemmas.Bool.Decides.{nat_tests}
use Rattle.std.proofs.lemmas.List.{take_at, drop_at, get_or-append-add}
use Rattle.pe_core.proofs.NumberBytes.{le_small}
use Rattle.pe_core.proofs.Ranges.{length_range}
use Rattle.pe_core.specs.Bytes.{AreBytes, le, bytes_of, range, splice}
use Rattle.pe_core.specs.SectionMap.{rounded_up}
use Rattle.pe_records.specs.declared.certificate_table.AttributeCertificateRevision.{AttributeCertificateRevision}
use Rattle.pe_records.specs.declared.certificate_table.AttributeCertificateType.{AttributeCertificateType}
use Rattle.pe_records.specs.Certificates.{CertificateView, certificate_at, certificate, certificate_tests, IsListing, revision_number, type_number, revision_of, type_of, is_revision, is_type}
use Rattle.pe_records.proofs.CertificateListings.{StandFrom, unplaced, listing}
use Rattle.pe_records.proofs.CertificatePieces.{length_written}
use Rattle.pe_records.specs.CertificateWriting.{spell_certificate, padding, written_certificate, written_certificates, written_length, IsWhole}

-- an element after a front
after : (f xs : List ℕ) (p i k : ℕ) → length f ≡ p → k ≡ p + i → get_or (f ++ xs) k 0 ≡ get_or xs i 0
after f xs p i k e j = subst (λ (n : ℕ). get_or (f ++ xs) n 0 ≡ get_or xs i 0) (ap (λ (n : ℕ). n + i) e ∙ sym j) (get_or-append-add f xs i 0)

-- the numbers that stand after a front
le_four : (f xs : List ℕ) (p i n : ℕ) → length f ≡ p → get_or xs i 0 ≡ n % 256 → get_or xs (i + 1) 0 ≡ n / 256 % 256 → get_or xs (i + 2) 0 ≡ n / 256 / 256 % 256 → get_or xs (i + 3) 0 ≡ n / 256 / 256 / 256 % 256 → n < 2 ^ 32 → le (f ++ xs) (p + i) 4 ≡ n
unfolding le
le_four f xs p i n e a0 a1 a2 a3 small = grind (arith, after)

le_two : (f xs : List ℕ) (p i n : ℕ) → length f ≡ p → get_or xs i 0 ≡ n % 256 → get_or xs (i + 1) 0 ≡ n / 256 % 256 → n < 2 ^ 16 → le (f ++ xs) (p + i) 2 ≡ n
unfolding le
le_two f xs p i n e a0 a1 small = grind (arith, after)

pub record RevisionKept (r : AttributeCertificateRevision) : Type 0 where
  pub is : is_revision (revision_number r) ≡ true
  pub same : revision_of (revision_number r) ≡ r
  pub small : revision_number r < 2 ^ 16

revision_kept : (r : AttributeCertificateRevision) → RevisionKept r
revision_kept r = grind arith

pub record TypeKept (t : AttributeCertificateType) : Type 0 where
  pub is : is_type (type_number t) ≡ true
  pub same : type_of (type_number t) ≡ t
  pub small : type_number t < 2 ^ 16

type_kept : (t : AttributeCertificateType) → TypeKept t
type_kept t = grind arith

-- a certificate that is spelled by the bytes at p is the one at p
certificate_from : (b : List ℕ) (p : ℕ) (c : CertificateView) (q : ℕ) → le b p 4 ≡ c.length → le b (p + 4) 2 ≡ revision_number c.revision → le b (p + 6) 2 ≡ type_number c.certificate_type → p + 8 ≤ length b → p + 8 + (c.length - 8) ≤ length b → range b (p + 8) (c.length - 8) ≡ c.body → rounded_up (p + 8 + (c.length - 8)) 8 ≡ q → certificate_at b p ≡ Ok (c, q)
unfolding certificate_at certificate certificate_tests
certificate_from b p c q l r t h k body next = grind (arith, revision_kept, type_kept, nat_tests)

-- the body that stands after eight bytes
body_is : (f h m z : List ℕ) (p n : ℕ) → length f ≡ p → length h ≡ 8 → length m ≡ n → range (f ++ (h ++ (m ++ z))) (p + 8) n ≡ m
body_is f h m z p n e l k =
    let d : drop (p + 8) (f ++ (h ++ (m ++ z))) ≡ m ++ z = ap (drop (p + 8)) (sym (append_assoc f h (m ++ z))) ∙ drop_at (f ++ h) (m ++ z) (p + 8) (simp length-append (omega arith)) in
    let s : p + 8 + n - (p + 8) ≡ n = omega arith in
    ap (λ (i : ℕ). take i (drop (p + 8) (f ++ (h ++ (m ++ z))))) s ∙ ap (take n) d ∙ take_at m z n k

-- a certificate that is written after a front
read_after : (f tail : List ℕ) (p : ℕ) (c : CertificateView) → IsWhole c → p % 8 ≡ 0 → length f ≡ p → certificate_at (f ++ (written_certificate c ++ tail)) p ≡ Ok (c, p + written_length c)
unfolding spell_certificate bytes_of
read_after f tail p c w m front =
    let fits : c.length < 2 ^ 32 = w.fits in
    let size : length c.body ≡ c.length - 8 = w.body in
    let h : List ℕ = spell_certificate c in
    let z : List ℕ = padding c in
    let whole : f ++ (written_certificate c ++ tail) ≡ f ++ (h ++ (c.body ++ (z ++ tail))) = ap (λ (x : List ℕ). f ++ (h ++ x)) (append_assoc c.body z tail) in
    let long : length (f ++ (h ++ (c.body ++ (z ++ tail)))) ≡ p + 8 + length c.body + length (z ++ tail) = simp length-append (omega arith) in
    ap (λ (x : List ℕ). certificate_at x p) whole
    ∙ certificate_from (f ++ (h ++ (c.body ++ (z ++ tail)))) p c (p + written_length c)
    (ap (λ (i : ℕ). le (f ++ (h ++ (c.body ++ (z ++ tail)))) i 4) (sym (add-zero p)) ∙ le_four f (h ++ (c.body ++ (z ++ tail))) p 0 c.length front refl refl refl refl fits)
    (le_two f (h ++ (c.body ++ (z ++ tail))) p 4 (revision_number c.revision) front refl refl (revision_kept c.revision).small)
    (le_two f (h ++ (c.body ++ (z ++ tail))) p 6 (type_number c.certificate_type) front refl refl (type_kept c.certificate_type).small)
    (omega arith) (omega arith)
    (body_is f h c.body (z ++ tail) p (c.length - 8) front refl size)
    (omega arith)

pub read_again : (b : List ℕ) (p : ℕ) (c : CertificateView) → IsWhole c → p % 8 ≡ 0 → p + written_length c ≤ length b → certificate_at (splice b p (written_certificate c)) p ≡ Ok (c, p + written_length c)
unfolding splice
read_again b p c w m room = read_after (take p b) (drop (p + length (written_certificate c)) b) p c w m (length-take-le p b (omega arith))

-- ---- what is read is whole

pub record Read (b : List ℕ) (p : ℕ) (c : CertificateView) (q : ℕ) : Type 0 where
  pub size : c.length ≡ le b p 4
  pub inside : p + 8 + (c.length - 8) ≤ length b
  pub body : c.body ≡ range b (p + 8) (c.length - 8)
  pub next : q ≡ rounded_up (p + 8 + (c.length - 8)) 8

pub read : (b : List ℕ) (p : ℕ) (c : CertificateView) (q : ℕ) → certificate_at b p ≡ Ok (c, q) → Read b p c q
unfolding certificate_at certificate certificate_tests
read b p c q e = record { size = grind (arith, nat_tests); inside = grind (arith, nat_tests); body = grind (arith, nat_tests); next = grind (arith, nat_tests) }

pub whole : (b : List ℕ) (p : ℕ) (c : CertificateView) (q : ℕ) → AreBytes b → certificate_at b p ≡ Ok (c, q) → IsWhole c
whole b p c q small e = grind (arith, read, le_small, length_range)

pub next_offset : (b : List ℕ) (p : ℕ) (c : CertificateView) (q : ℕ) → AreBytes b → p % 8 ≡ 0 → certificate_at b p ≡ Ok (c, q) → q ≡ p + written_length c
next_offset b p c q small m e = grind (arith, read, whole)

-- ---- certificates that are written one after the other

listed_after : (b : List ℕ) (end p : ℕ) (cs : List CertificateView) (q : ℕ) (f tail : List ℕ) → AreBytes b → StandFrom b end p cs q → p % 8 ≡ 0 → length f ≡ p → StandFrom (f ++ (written_certificates cs ++ tail)) end p cs q
listed_after b end p [] q f tail small s m front = s
listed_after b end p (c ∷ cs) q f tail small s m front =
    let w : IsWhole c = whole b p c s.1 small s.2 in
    let next : s.1 ≡ p + written_length c = next_offset b p c s.1 small m s.2 in
    let rest : List ℕ = written_certificates cs in
    let bytes : f ++ (written_certificates (c ∷ cs) ++ tail) ≡ f ++ (written_certificate c ++ (rest ++ tail)) = ap (λ (x : List ℕ). f ++ x) (append_assoc (written_certificate c) rest tail) in
    let moved : (f ++ written_certificate c) ++ (rest ++ tail) ≡ f ++ (written_certificates (c ∷ cs) ++ tail) = append_assoc f (written_certificate c) (rest ++ tail) ∙ sym bytes in
    let here : certificate_at (f ++ (written_certificates (c ∷ cs) ++ tail)) p ≡ Ok (c, s.1) = rw (bytes, next) (read_after f (rest ++ tail) p c w m front) in
    let long : length (f ++ written_certificate c) ≡ s.1 = omega (arith, length-append f (written_certificate c), length_written c, front, next) in
    (s.0, s.1, here, subst (λ (x : List ℕ). StandFrom x end s.1 cs q) moved (listed_after b end s.1 cs q (f ++ written_certificate c) tail small s.3 (omega (arith, next, m)) long))

pub listed_again : (b old : List ℕ) (address size : ℕ) (cs : List CertificateView) → AreBytes b → address % 8 ≡ 0 → IsListing b address size cs → address + size ≤ length old → address + length (written_certificates cs) ≤ length old → IsListing (splice old address (written_certificates cs)) address size cs
unfolding splice
listed_again b old address size cs small m l room fit =
    let s : StandFrom b (address + size) address cs (l.offset (length cs)) = rw l.first at (unplaced b (address + size) l.offset cs l.stand) in
    let tail : List ℕ = drop (address + length (written_certificates cs)) old in
    let long : address + size ≤ length (take address old ++ (written_certificates cs ++ tail)) = simp (length-append, length-take, length-drop) (omega arith) in
    listing (take address old ++ (written_certificates cs ++ tail)) address size (address + size) cs (l.offset (length cs)) long refl
    (listed_after b (address + size) address cs (l.offset (length cs)) (take address old) tail small s m (length-take-le address old (omega arith))) l.last
