-- Certificates as pieces.
use Rattle.std.proofs.Common.{◌≡◌, ℕ, ◌+◌, ◌≤◌, true, Err, List, [], ◌∷◌, ◌++◌, length, ap, sym, ◌∙◌, arith}
use Rattle.pe_image.proofs.Cited.{nat_le, nat_tests, length-append, holds, put, splice, Refusal, CertificateView, padding}
use Rattle.pe_image.proofs.Cited.{spell_certificate, written_certificate, written_end, written_length, length-spell, length_written}
use Rattle.pe_image.proofs.Cited.{three_pieces, all_fit, certificate_pieces, in_a_row, put_in_turn}
use Rattle.pe_image.proofs.Rows.{Goes, goes_fits, goes_next, goes_last, unfit_if}

-- a certificate fits exactly if its bytes are there
pub fit_is : (b : List ℕ) (p : ℕ) (c : CertificateView) → all_fit (length b) (certificate_pieces p c) ≡ holds b p (written_length c)
fit_is b p c =
    let head : length (spell_certificate c) ≡ 8 = length-spell c in
    let whole : length (spell_certificate c) + length c.body + length (padding c) ≡ written_length c =
    ap (λ (n : ℕ). n + length (padding c)) (sym (length-append (spell_certificate c) c.body)) ∙ sym (length-append (spell_certificate c ++ c.body) (padding c)) ∙ length_written c in
    let end : p + 8 + length c.body + length (padding c) ≡ p + written_length c = omega (arith, head, whole) in
    grind (arith, nat_tests) ∙ ap (λ k. nat_le k (length b)) end

-- its three pieces put in turn are its bytes put at once
pub put_at_once : (b : List ℕ) (p : ℕ) (c : CertificateView) → p ≤ length b → put_in_turn b (certificate_pieces p c) ≡ splice b p (written_certificate c)
unfolding put_in_turn
put_at_once b p c h = sym (three_pieces b p c h)

pub put_in_three : (b new : List ℕ) (p : ℕ) (c : CertificateView) → all_fit (length b) (certificate_pieces p c) ≡ true → new ≡ put b p (written_certificate c) → new ≡ put_in_turn b (certificate_pieces p c)
put_in_three b new p c h e = grind (arith, fit_is, length_written, nat_tests, put_at_once)

pub never_refused : (b : List ℕ) (p : ℕ) (c : CertificateView) (r : Refusal) → all_fit (length b) (certificate_pieces p c) ≡ true → written_end b p c ≡ Err r → p ≡ p + written_length c
never_refused b p c r h e = grind (arith, unfit_if, fit_is)

-- ---- the writing, certificate by certificate

abbrev pub GoesCertificates : List ℕ → ℕ → List CertificateView → List ℕ → ℕ → List CertificateView → Type 0
GoesCertificates b start cs now offset rest = Goes certificate_pieces written_length b start cs now offset rest

pub next_goes : (b : List ℕ) (start : ℕ) (cs : List CertificateView) (now next : List ℕ) (offset end : ℕ) (c : CertificateView) (left rest : List CertificateView) → left ≡ c ∷ rest → GoesCertificates b start cs now offset left → next ≡ put_in_turn now (certificate_pieces offset c) → end ≡ offset + written_length c → GoesCertificates b start cs next end rest
next_goes b start cs now next offset end c left rest is g e f = rw f (goes_next certificate_pieces written_length b start cs now next offset c rest (rw is at g) e)

pub all_gone : (b : List ℕ) (start : ℕ) (cs : List CertificateView) (now : List ℕ) (offset : ℕ) (left : List CertificateView) → left ≡ [] → GoesCertificates b start cs now offset left → now ≡ put_in_turn b (in_a_row certificate_pieces written_length start cs)
all_gone b start cs now offset left is g = goes_last certificate_pieces written_length b start cs now offset (rw is at g)
