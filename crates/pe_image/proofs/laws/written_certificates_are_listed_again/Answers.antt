use Rattle.std.proofs.Common.{◌≡◌, ℕ, ◌+◌, ◌%◌, ◌≤◌, Bool, true, Result, Ok, Err, ◌&&◌, List, [], ◌∷◌, length, Some, ap, sym, ◌∙◌, arith}
use Rattle.pe_image.proofs.Cited.{nat_tests, length-append, take-append-drop, AreBytes, splice, OptionalHeaderView, Refusal}
use Rattle.pe_image.proofs.Cited.{WriteFit, outcome, DataDirectory, CertificateView, IsListing, written_certificate}
use Rattle.pe_image.proofs.Cited.{written_certificates, written_length, in_turn, length-spell, length_written, ImageView, Piece}
use Rattle.pe_image.proofs.Cited.{all_fit, overlay, certificate_pieces, certificates_end, in_a_row, certificate_directory}
use Rattle.pe_image.proofs.Cited.{certificates_over, certificates_written, put_in_turn, length-splice}
use Rattle.pe_image.proofs.Overlays.{overlay_in_turn, put_append}
use Rattle.pe_image.proofs.Rows.{all_fit_append, and_left, and_right, fits_if}
use Rattle.pe_image.proofs.WrittenCertificates.{put_at_once}
use Rattle.pe_image.proofs.laws.written_certificates_are_listed_again.Goals as goal

-- Certificates that are written are listed again.
abbrev row : ℕ → List CertificateView → List Piece
row p cs = in_a_row certificate_pieces written_length p cs

-- a certificate and those after it
both_fit : (n p : ℕ) (c : CertificateView) (cs : List CertificateView) → all_fit n (row p (c ∷ cs)) ≡ true → (all_fit n (certificate_pieces p c) && all_fit n (row (p + written_length c) cs)) ≡ true
both_fit n p c cs h = sym (all_fit_append n (certificate_pieces p c) (row (p + written_length c) cs)) ∙ h

first_fits : (n p : ℕ) (c : CertificateView) (cs : List CertificateView) → all_fit n (row p (c ∷ cs)) ≡ true → p + length (written_certificate c) ≤ n
first_fits n p c cs h = grind (arith, and_left, both_fit, length-spell, length-append, nat_tests)

others_fit : (n p : ℕ) (c : CertificateView) (cs : List CertificateView) → all_fit n (row p (c ∷ cs)) ≡ true → all_fit n (row (p + written_length c) cs) ≡ true
others_fit n p c cs h = and_right _ _ (both_fit n p c cs h)

-- certificates that all fit end inside the buffer
row_inside : (n p : ℕ) (cs : List CertificateView) → p ≤ n → all_fit n (row p cs) ≡ true → p + length (written_certificates cs) ≤ n
row_inside n p [] h f = omega arith
row_inside n p (c ∷ cs) h f =
    let here : p + length (written_certificate c) ≤ n = first_fits n p c cs f in
    let l : length (written_certificate c) ≡ written_length c = length_written c in
    let rest : p + written_length c + length (written_certificates cs) ≤ n = row_inside n (p + written_length c) cs (omega arith) (others_fit n p c cs f) in
    omega (arith, length-append (written_certificate c) (written_certificates cs))

-- certificates that are put one after the other are all of them put at once
row_at_once : (b : List ℕ) (p : ℕ) (cs : List CertificateView) → p ≤ length b → all_fit (length b) (row p cs) ≡ true → put_in_turn b (row p cs) ≡ splice b p (written_certificates cs)
unfolding put_in_turn splice
row_at_once b p [] h f = let z : p + 0 ≡ p = omega arith in rw z (sym (take-append-drop p b))
row_at_once b p (c ∷ cs) h f =
    let here : p + length (written_certificate c) ≤ length b = first_fits (length b) p c cs f in
    let w : length (written_certificate c) ≡ written_length c = length_written c in
    let l : length (splice b p (written_certificate c)) ≡ length b = length-splice b p (written_certificate c) here in
    let rest : all_fit (length (splice b p (written_certificate c))) (row (p + written_length c) cs) ≡ true = rw l (others_fit (length b) p c cs f) in
    let first : put_in_turn b (row p (c ∷ cs)) ≡ put_in_turn (splice b p (written_certificate c)) (row (p + written_length c) cs) =
    put_append (certificate_pieces p c) (row (p + written_length c) cs) b ∙ ap (λ (x : List ℕ). put_in_turn x (row (p + written_length c) cs)) (put_at_once b p c h) in
    first ∙ row_at_once (splice b p (written_certificate c)) (p + written_length c) cs (omega arith) rest ∙ sym (in_turn b p c cs h)

-- the bytes of an answer
abbrev bytes_in : List ℕ → Result (ℕ × List ℕ) Refusal → List ℕ
bytes_in none (Ok x) = x.1
bytes_in none (Err e) = none

left_by : (t : Bool) (m n : ℕ) (old new : List ℕ) → outcome {Y = ℕ × List ℕ} ((t, WriteFit) ∷ []) (m, old) ≡ Ok (n, new) → new ≡ old
left_by t m n old new h = grind arith

-- what a successful write of certificates leaves
left_after : (old new : List ℕ) (d : DataDirectory) (cs : List CertificateView) (n : ℕ) → d.virtual_address ≤ length old → certificates_over (Some d) cs old ≡ Ok (n, new) →
    (d.virtual_address + length (written_certificates cs) ≤ length old) × (new ≡ splice old d.virtual_address (written_certificates cs))
left_after old new d cs n h e =
    let p : ℕ = d.virtual_address in
    let t : Bool = all_fit (length old) (row p cs) in
    let fit : all_fit (length old) (row p cs) ≡ true = fits_if {Y = ℕ × List ℕ} t (certificates_end (Some d) cs, overlay old (row p cs)) (n, new) e in
    let same : new ≡ overlay old (row p cs) = left_by t (certificates_end (Some d) cs) n (overlay old (row p cs)) new e in
    (row_inside (length old) p cs h fit, same ∙ (sym (overlay_in_turn (row p cs) old fit) ∙ row_at_once old p cs h fit))

by_directory : (x : ImageView) (o : OptionalHeaderView) (d : DataDirectory) (old : List ℕ) → x.header.optional_header ≡ Some o → certificate_directory o ≡ Some d → certificates_written x old ≡ certificates_over (Some d) x.certificates old
by_directory x o d old e f = grind arith

listed_again : ((b buffer : List ℕ) (address size : ℕ) (cs : List CertificateView) → AreBytes b → address % 8 ≡ 0 → IsListing b address size cs → address + size ≤ length buffer → address + length (written_certificates cs) ≤ length buffer → IsListing (splice buffer address (written_certificates cs)) address size cs) →
    (b old new : List ℕ) (x : ImageView) (o : OptionalHeaderView) (d : DataDirectory) (n : ℕ) → x.header.optional_header ≡ Some o → certificate_directory o ≡ Some d → d.virtual_address % 8 ≡ 0 → AreBytes b → IsListing b d.virtual_address d.size x.certificates → d.virtual_address + d.size ≤ length old → certificates_written x old ≡ Ok (n, new) → IsListing new d.virtual_address d.size x.certificates
listed_again law b old new x o d n e f m small listing room w = grind (arith, left_after, by_directory)

pub returns : goal.returns
returns c = λ b old new x d n has. listed_again c.written_listings_are_listed_again.ensures.again b old new x has.0 d n has.1 has.2
