-- Bytes that are written over others.
use Rattle.std.proofs.Common.{◌≡◌, ℕ, ◌+◌, ◌-◌, ◌≤◌, Err, List, [], ◌∷◌, ◌++◌, length, take, drop, refl, ap, sym, ◌∙◌, append_assoc, length-append, length-take, length-drop, arith}
use Rattle.std.proofs.lemmas.List.{take_at, drop_all, append-nil, length-replicate}
use borrow.Rule.Slice.PartMut.{put_mid}
use Rattle.pe_core.proofs.Splices.{length-bytes_of, splice-splice}
use Rattle.pe_core.specs.Bytes.{splice, put, fit_at}
use Rattle.pe_core.specs.Refusals.{Refusal}
use Rattle.pe_records.specs.Certificates.{CertificateView}
use Rattle.pe_records.specs.CertificateWriting.{spell_certificate, written_certificate, written_certificates, written_length, padding}

pub length-spell : (c : CertificateView) → length (spell_certificate c) ≡ 8
unfolding spell_certificate
length-spell c = simp (length-append, length-bytes_of) refl

pub length_written : (c : CertificateView) → length (written_certificate c) ≡ written_length c
length_written c = simp (length-append, length-replicate) (omega (arith, length-spell c))

-- a piece whose front, middle and end are written one after the other
pub piece_is : (p h g b c z x : List ℕ) → g ≡ h → c ≡ b → length h ≡ 8 → x ≡ put_mid 8 (8 + length b - 8) (g ++ drop 8 p) c → put_mid (8 + length b) (length x - (8 + length b)) x z ≡ h ++ b ++ z
piece_is p h g b c z x i j l e =
    let r : List ℕ = drop (8 + length b - 8) (drop 8 (g ++ drop 8 p)) in
    let begin : take 8 (g ++ drop 8 p) ≡ h = ap (λ (t : List ℕ). take 8 (t ++ drop 8 p)) i ∙ take_at h (drop 8 p) 8 l in
    let front : x ≡ (h ++ b) ++ r = e ∙ ap (λ (t : List ℕ). t ++ (c ++ r)) begin ∙ ap (λ (t : List ℕ). h ++ (t ++ r)) j ∙ sym (append_assoc h b r) in
    let t : take (8 + length b) x ≡ h ++ b = ap (take (8 + length b)) front ∙ take_at (h ++ b) r (8 + length b) (omega (arith, length-append {A = ℕ})) in
    let d : drop (length x - (8 + length b)) (drop (8 + length b) x) ≡ [] = drop_all (length x - (8 + length b)) (drop (8 + length b) x) (omega (arith, length-drop (8 + length b) x)) in
    ap (λ (u : List ℕ). u ++ (z ++ drop (length x - (8 + length b)) (drop (8 + length b) x))) t ∙ ap (λ (u : List ℕ). (h ++ b) ++ (z ++ u)) d ∙ ap (λ (u : List ℕ). (h ++ b) ++ u) (append-nil z)

-- how long its end is
pub end_length : (p h g b c x : List ℕ) → g ≡ h → c ≡ b → length h ≡ 8 → 8 + length b ≤ length p → x ≡ put_mid 8 (8 + length b - 8) (g ++ drop 8 p) c → length (take (length x - (8 + length b)) (drop (8 + length b) x)) ≡ length p - (8 + length b)
end_length p h g b c x i j l room e =
    let gl : length g ≡ length h = ap length i in
    let cl : length c ≡ length b = ap length j in
    let s : length x ≡ length p = ap length e ∙ simp (length-append, length-take, length-drop) (omega arith) in
    simp (length-take, length-drop) (omega arith)

-- a certificate that does not fit is not put
pub kept : (b : List ℕ) (p n : ℕ) (c : CertificateView) (r : Refusal) → n ≡ written_length c → fit_at b p n ≡ Err r → b ≡ put b p (written_certificate c)
kept b p n c r same e = grind (arith, length_written)

pub three_pieces : (b : List ℕ) (p : ℕ) (c : CertificateView) → p ≤ length b → splice b p (written_certificate c) ≡ splice (splice (splice b p (spell_certificate c)) (p + 8) c.body) (p + 8 + length c.body) (padding c)
three_pieces b p c h =
    let h8 : length (spell_certificate c) ≡ 8 = length-spell c in
    let two : splice (splice b p (spell_certificate c)) (p + 8) c.body ≡ splice b p (spell_certificate c ++ c.body) =
    ap (λ (n : ℕ). splice (splice b p (spell_certificate c)) (p + n) c.body) (sym h8) ∙ splice-splice b p (spell_certificate c) c.body h in
    let offset : p + 8 + length c.body ≡ p + length (spell_certificate c ++ c.body) = simp length-append (omega arith) in
    sym (rw (two, offset) (splice-splice b p (spell_certificate c ++ c.body) (padding c) h))

-- the first of several certificates, and then the others
pub in_turn : (b : List ℕ) (p : ℕ) (c : CertificateView) (cs : List CertificateView) → p ≤ length b → splice b p (written_certificates (c ∷ cs)) ≡ splice (splice b p (written_certificate c)) (p + written_length c) (written_certificates cs)
in_turn b p c cs h = sym (ap (λ (n : ℕ). splice (splice b p (written_certificate c)) (p + n) (written_certificates cs)) (sym (length_written c)) ∙ splice-splice b p (written_certificate c) (written_certificates cs) h)
