use Rattle.std.proofs.Common.{arith, ◌≡◌, ℕ, ◌&&◌, true, List, ◌++◌, ap, sym, ◌∙◌, rules}
use Rattle.pe_image.proofs.Cited.{Option, HeaderView, OptionalHeaderView, sections_offset, DataDirectory, SectionTable}
use Rattle.pe_image.proofs.Cited.{CertificateView, Piece, all_fit, all_certificate_pieces, all_section_pieces, header_pieces}
use Rattle.pe_image.proofs.Cited.{certificate_directory, padded_pieces, put_in_turn}
use Rattle.pe_image.proofs.Overlays.{put_append}
use Rattle.pe_image.proofs.Rows.{all_fit_append, and_left, and_right}
use Rattle.pe_image.proofs.write.image.ImageWriter.set_pieces.Goals as goal

-- All pieces of an image.

-- what is handed to the writer of the sections is of the image
record IsOf (u : Option ℕ) (b : List ℕ) (h : HeaderView) (sections : List SectionTable) (source : List ℕ) (unit : Option ℕ) (offset : ℕ) (given : List SectionTable) : Type 0 where
  source_is : source ≡ b
  unit_is : unit ≡ u
  offset_is : offset ≡ sections_offset h
  sections_are : given ≡ sections

-- the three parts of the pieces
parts_fit : (n : ℕ) (xs ys zs : List Piece) → all_fit n ((xs ++ ys) ++ zs) ≡ true → ((all_fit n xs && all_fit n ys) && all_fit n zs) ≡ true
parts_fit n xs ys zs h = sym (all_fit_append n (xs ++ ys) zs ∙ ap (λ b. b && all_fit n zs) (all_fit_append n xs ys)) ∙ h

abbrev section_part : Option ℕ → List ℕ → HeaderView → List SectionTable → List Piece
section_part u b h sections = all_section_pieces b u (sections_offset h) sections

headers_fit_too : (n : ℕ) (u : Option ℕ) (b : List ℕ) (h : HeaderView) (o : OptionalHeaderView) (sections : List SectionTable) (cs : List CertificateView) → all_fit n (padded_pieces u b h o sections cs) ≡ true → all_fit n (header_pieces h o) ≡ true
unfolding padded_pieces
headers_fit_too n u b h o sections cs f =
    and_left _ _ (and_left _ _ (parts_fit n (header_pieces h o) (section_part u b h sections) (all_certificate_pieces (certificate_directory o) cs) f))

sections_fit_too : (n m : ℕ) (u : Option ℕ) (b : List ℕ) (h : HeaderView) (o : OptionalHeaderView) (sections : List SectionTable) (cs : List CertificateView) (source : List ℕ) (unit : Option ℕ) (offset : ℕ) (given : List SectionTable) → m ≡ n → IsOf u b h sections source unit offset given → all_fit n (padded_pieces u b h o sections cs) ≡ true → all_fit m (all_section_pieces source unit offset given) ≡ true
unfolding padded_pieces
sections_fit_too n m u b h o sections cs source unit offset given same is f =
    rw (same, is.source_is, is.unit_is, is.offset_is, is.sections_are)
    (and_right _ _ (and_left _ _ (parts_fit n (header_pieces h o) (section_part u b h sections) (all_certificate_pieces (certificate_directory o) cs) f)))

certificates_fit_too : (n m : ℕ) (u : Option ℕ) (b : List ℕ) (h : HeaderView) (o : OptionalHeaderView) (sections : List SectionTable) (cs given : List CertificateView) (d : Option DataDirectory) → m ≡ n → d ≡ certificate_directory o → given ≡ cs → all_fit n (padded_pieces u b h o sections cs) ≡ true → all_fit m (all_certificate_pieces d given) ≡ true
unfolding padded_pieces
certificates_fit_too n m u b h o sections cs given d same e k f =
    rw (same, e, k) (and_right _ _ (parts_fit n (header_pieces h o) (section_part u b h sections) (all_certificate_pieces (certificate_directory o) cs) f))

-- the three parts are put one after the other
put_image : (old one two three : List ℕ) (u : Option ℕ) (b : List ℕ) (h : HeaderView) (o : OptionalHeaderView) (sections : List SectionTable) (cs given : List CertificateView) (d : Option DataDirectory) (source : List ℕ) (unit : Option ℕ) (offset : ℕ) (ss : List SectionTable) → IsOf u b h sections source unit offset ss → d ≡ certificate_directory o → given ≡ cs → one ≡ put_in_turn old (header_pieces h o) → two ≡ put_in_turn one (all_section_pieces source unit offset ss) → three ≡ put_in_turn two (all_certificate_pieces d given) → three ≡ put_in_turn old (padded_pieces u b h o sections cs)
unfolding padded_pieces
put_image old one two three u b h o sections cs given d source unit offset ss is e k f g i = grind (arith, put_append)

pub set_headers-requires : goal.set_headers-requires
set_headers-requires c = search (rules, arith, headers_fit_too)

pub set-requires-clause-fit : goal.set-requires-clause-fit
set-requires-clause-fit c = search (rules, arith, sections_fit_too)

pub set_table-requires : goal.set_table-requires
set_table-requires c = search (rules, arith, certificates_fit_too)

pub returns : goal.returns
returns c = search (rules, arith, put_image)
