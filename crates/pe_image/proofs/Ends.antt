-- The ends of pieces: the greatest of them decides whether all fit.
use Rattle.std.proofs.Common.{◌≡◌, ℕ, ◌+◌, ◌*◌, ◌≤◌, ◌<◌, ◌&&◌, Bool, true, false, Ok, Err, List, [], ◌∷◌, ◌++◌, length, get_or, drop, refl, ap, sym, ◌∙◌, arith}
use Rattle.pe_image.proofs.Cited.{Option, None, Some, is_ok, nat_le, max, ◌==◌, length-append, length-replicate, length-between}
use Rattle.pe_image.proofs.Cited.{nat_tests, holds, HeaderView, OptionalHeaderView, Refusal, NoOptionalHeader, WriteAlignment}
use Rattle.pe_image.proofs.Cited.{WriteFit, WriteOverlap, WriteSection, WriteSymbols, outcome, raw_end, sections_offset}
use Rattle.pe_image.proofs.Cited.{spell_optional, DataDirectory, SectionTable, CertificateView, padding, spell_certificate}
use Rattle.pe_image.proofs.Cited.{written_length, length-spell, length_written, length-bytes_of, le_is, le_is_not, ImageView, Piece}
use Rattle.pe_image.proofs.Cited.{all_fit, fits, greatest_end, longest, overlay, all_certificate_pieces, all_section_pieces}
use Rattle.pe_image.proofs.Cited.{certificate_pieces, certificates_end, header_pieces, in_a_row, lacking, row_end, section_pieces}
use Rattle.pe_image.proofs.Cited.{all_in_source, certificate_directory, clash_free, image_by, image_end, image_length}
use Rattle.pe_image.proofs.Cited.{image_length_by, image_pieces, image_tests, image_written, padded_pieces, section_tests, whole_by}
use Rattle.pe_image.proofs.Cited.{whole_length, whole_length_by, whole_pieces, whole_written, all_end, possible}
use Rattle.std.specs.Int.{is_power_of_two}
use Rattle.pe_image.proofs.Laid.{length_coff, length_dos, length_section}
use Rattle.pe_image.proofs.Rows.{fits_if, unfit_if, refused_if, rest_at}
use Rattle.pe_image.proofs.Steps.{accepted_if, value_if}

-- all pieces fit exactly if the greatest end does
pub fit_by_end : (n : ℕ) (xs : List Piece) → all_fit n xs ≡ nat_le (greatest_end xs) n
fit_by_end n [] = grind (arith, nat_tests)
fit_by_end n (x ∷ xs) = ap (λ t. fits n x && t) (fit_by_end n xs) ∙ grind (arith, nat_tests)

pub end_append : (xs ys : List Piece) → greatest_end (xs ++ ys) ≡ max (greatest_end xs) (greatest_end ys)
end_append [] ys = omega arith
end_append (x ∷ xs) ys = rw (end_append xs ys) (omega arith)

-- ---- what a buffer may have

-- where a buffer can't have m bytes, it can't have more
pub impossible : {Y Z : Type 0} (m n : ℕ) (y : Y) (z : Z) (r : Refusal) → m ≤ n → possible m y ≡ Err r → possible n z ≡ Err r
impossible m n y z r h e = grind (arith, refused_if, unfit_if, nat_tests)

pub within : {Y : Type 0} (n : ℕ) (x y : Y) → possible n x ≡ Ok y → n ≤ longest
within n x y e = grind (arith, fits_if, nat_tests)

-- ---- headers

-- the headers reach to the end of the stub, or of the optional header
pub headers_reach : (h : HeaderView) (o : OptionalHeaderView) → length h.dos_header.rest ≡ 58 → greatest_end (header_pieces h o) ≡ max (64 + length h.dos_stub) (h.dos_header.pe_pointer + 24 + length (spell_optional o))
unfolding header_pieces
headers_reach h o e = rw (length_dos h.dos_header e, length-bytes_of 4 h.signature, length_coff h.coff_header) (omega arith)

-- ---- sections

-- a section reaches to the end of its zeros, or of its header
pub section_reach : (b : List ℕ) (unit : Option ℕ) (offset : ℕ) (s : SectionTable) → length s.name ≡ 8 → holds b s.pointer_to_raw_data s.size_of_raw_data ≡ true → greatest_end (section_pieces b unit offset s) ≡ max (raw_end s + lacking s.size_of_raw_data unit) (offset + 40)
unfolding section_pieces
section_reach b unit offset s h i = grind (arith, nat_tests, length-between, length-replicate, length_section)

-- a header that no buffer can have is one of a section that none can
pub header_impossible : (b : List ℕ) (unit : Option ℕ) (offset : ℕ) (s : SectionTable) (r : Refusal) → length s.name ≡ 8 → holds b s.pointer_to_raw_data s.size_of_raw_data ≡ true → possible (offset + 40) (offset + 40) ≡ Err r → all_end (section_pieces b unit offset s) ≡ Err r
header_impossible b unit offset s r h i e = grind (arith, impossible, section_reach)

-- what is passed and what is left reach as far as all of them
pub record Reach (b : List ℕ) (unit : Option ℕ) (start : ℕ) (sections : List SectionTable) (end offset i : ℕ) : Type 0 where
  pub at : offset ≡ start + 40 * i
  pub all : max end (greatest_end (all_section_pieces b unit offset (drop i sections))) ≡ greatest_end (all_section_pieces b unit start sections)
  pub small : end ≤ longest

rest_reach : (b : List ℕ) (unit : Option ℕ) (start : ℕ) (sections : List SectionTable) (end offset i : ℕ) (d : SectionTable) → i < length sections → Reach b unit start sections end offset i → max (max end (greatest_end (section_pieces b unit offset (get_or sections i d)))) (greatest_end (all_section_pieces b unit (offset + 40) (drop (i + 1) sections))) ≡ greatest_end (all_section_pieces b unit start sections)
rest_reach b unit start sections end offset i d h r = grind (arith, rest_at, end_append)

pub reach_next : (b : List ℕ) (unit : Option ℕ) (start : ℕ) (sections : List SectionTable) (end offset i next far : ℕ) (d : SectionTable) → i < length sections → far ≡ max end next → Reach b unit start sections end offset i → possible (greatest_end (section_pieces b unit offset (get_or sections i d))) (greatest_end (section_pieces b unit offset (get_or sections i d))) ≡ Ok next → Reach b unit start sections far (offset + 40) (i + 1)
reach_next b unit start sections end offset i next far d h f r e = grind (arith, value_if, within, rest_reach)

pub reach_refused : {Z : Type 0} (b : List ℕ) (unit : Option ℕ) (start : ℕ) (sections : List SectionTable) (end offset i : ℕ) (d : SectionTable) (z : Z) (k : Refusal) → i < length sections → Reach b unit start sections end offset i → possible (greatest_end (section_pieces b unit offset (get_or sections i d))) (greatest_end (section_pieces b unit offset (get_or sections i d))) ≡ Err k → possible (greatest_end (all_section_pieces b unit start sections)) z ≡ Err k
reach_refused b unit start sections end offset i d z k h r e =
    let n : ℕ = greatest_end (section_pieces b unit offset (get_or sections i d)) in
    impossible n (greatest_end (all_section_pieces b unit start sections)) n z k (omega (arith, rest_reach b unit start sections end offset i d h r)) e

-- ---- certificates

-- a certificate reaches to the end of its zeros
certificate_reach : (p : ℕ) (c : CertificateView) → greatest_end (certificate_pieces p c) ≡ p + written_length c
certificate_reach p c =
    let head : length (spell_certificate c) ≡ 8 = length-spell c in
    let whole : length (spell_certificate c) + length c.body + length (padding c) ≡ written_length c =
    ap (λ (n : ℕ). n + length (padding c)) (sym (length-append (spell_certificate c) c.body)) ∙ sym (length-append (spell_certificate c ++ c.body) (padding c)) ∙ length_written c in
    omega (arith, head, whole)

pub row_end_after : (cs : List CertificateView) (p : ℕ) → p ≤ row_end written_length p cs
row_end_after [] p = omega arith
row_end_after (c ∷ cs) p = omega (arith, row_end_after cs (p + written_length c))

row_reach : (cs : List CertificateView) (c : CertificateView) (p : ℕ) → greatest_end (in_a_row certificate_pieces written_length p (c ∷ cs)) ≡ row_end written_length p (c ∷ cs)
row_reach [] c p = grind (arith, end_append, certificate_reach)
row_reach (d ∷ cs) c p =
    let rest = row_reach cs d (p + written_length c) in
    end_append (certificate_pieces p c) (in_a_row certificate_pieces written_length (p + written_length c) (d ∷ cs))
    ∙ omega (arith, certificate_reach p c, rest, row_end_after (d ∷ cs) (p + written_length c))

-- certificates reach to where they end
pub certificates_reach : (d : Option DataDirectory) (cs : List CertificateView) → greatest_end (all_certificate_pieces d cs) ≡ certificates_end d cs
certificates_reach None cs = refl
certificates_reach (Some d) [] = refl
certificates_reach (Some d) (c ∷ cs) = row_reach cs c d.virtual_address ∙ grind (arith, nat_tests)

-- what is left ends where all of them do
pub record RowLeft (start : ℕ) (cs : List CertificateView) (offset : ℕ) (rest : List CertificateView) : Type 0 where
  pub ends : row_end written_length offset rest ≡ row_end written_length start cs
  pub small : offset ≤ longest

pub row_refused : {Z : Type 0} (start : ℕ) (cs : List CertificateView) (offset : ℕ) (c : CertificateView) (left rest : List CertificateView) (z : Z) (k : Refusal) → left ≡ c ∷ rest → RowLeft start cs offset left → possible (offset + written_length c) (offset + written_length c) ≡ Err k → possible (row_end written_length start cs) z ≡ Err k
row_refused start cs offset c left rest z k is r e = grind (arith, impossible, row_end_after)

-- ---- the whole

-- the greatest end of the three parts of an image
pub image_reach : (u : Option ℕ) (b : List ℕ) (h : HeaderView) (o : OptionalHeaderView) (sections : List SectionTable) (cs : List CertificateView) → greatest_end (padded_pieces u b h o sections cs) ≡ max (max (greatest_end (header_pieces h o)) (greatest_end (all_section_pieces b u (sections_offset h) sections))) (certificates_end (certificate_directory o) cs)
unfolding padded_pieces
image_reach u b h o sections cs = grind (arith, end_append, certificates_reach)

pub stub_within : (h : HeaderView) (o : OptionalHeaderView) → 64 + length h.dos_stub ≤ greatest_end (header_pieces h o)
unfolding header_pieces
stub_within h o = grind arith

-- an image of which no buffer can have a part is one that none can have
pub headers_impossible : {Y Z : Type 0} (u : Option ℕ) (b : List ℕ) (h : HeaderView) (o : OptionalHeaderView) (sections : List SectionTable) (cs : List CertificateView) (y : Y) (z : Z) (r : Refusal) → possible (greatest_end (header_pieces h o)) y ≡ Err r → possible (greatest_end (padded_pieces u b h o sections cs)) z ≡ Err r
headers_impossible u b h o sections cs y z r e = grind (arith, impossible, image_reach)

pub sections_impossible : {Y Z : Type 0} (u : Option ℕ) (b : List ℕ) (h : HeaderView) (o : OptionalHeaderView) (sections : List SectionTable) (cs : List CertificateView) (y : Y) (z : Z) (r : Refusal) → possible (greatest_end (all_section_pieces b u (sections_offset h) sections)) y ≡ Err r → possible (greatest_end (padded_pieces u b h o sections cs)) z ≡ Err r
sections_impossible u b h o sections cs y z r e = grind (arith, impossible, image_reach)

pub certificates_impossible : {Y Z : Type 0} (u : Option ℕ) (b : List ℕ) (h : HeaderView) (o : OptionalHeaderView) (sections : List SectionTable) (cs : List CertificateView) (y : Y) (z : Z) (r : Refusal) → possible (certificates_end (certificate_directory o) cs) y ≡ Err r → possible (greatest_end (padded_pieces u b h o sections cs)) z ≡ Err r
certificates_impossible u b h o sections cs y z r e = grind (arith, impossible, image_reach)

-- ---- the test of the length is the last one

beyond : (m n k : ℕ) → n ≤ k → nat_le m k ≡ false → nat_le m n ≡ false
beyond m n k h e = grind (arith, nat_tests)

-- what no buffer can have does not fit into one
pub too_long : {Y Z : Type 0} (n : ℕ) (xs : List Piece) (y : Y) (z : Z) (r : Refusal) → n ≤ longest → possible (greatest_end xs) y ≡ Err r → outcome ((all_fit n xs, WriteFit) ∷ []) z ≡ Err r
too_long n xs y z r h e = grind (arith, refused_if, fit_by_end, beyond, unfit_if)

then_refused : {Y : Type 0} (tests more : List (Bool × Refusal)) (u : Unit {0}) (z : Y) (r : Refusal) → outcome tests (tt {0}) ≡ Ok u → outcome more z ≡ Err r → outcome (tests ++ more) z ≡ Err r
then_refused [] more u z r h e = e
then_refused ((true, k) ∷ tests) more u z r h e = then_refused tests more u z r h e
then_refused ((false, k) ∷ tests) more u z r h e = absurd cc

no_longer : longest ≤ longest
no_longer = omega arith

pub image_too_long : {Y Z : Type 0} (b : List ℕ) (h : HeaderView) (o : OptionalHeaderView) (sections : List SectionTable) (xs : List Piece) (u : Unit {0}) (y : Y) (z : Z) (r : Refusal) → outcome ((is_power_of_two o.windows_fields.file_alignment, WriteAlignment) ∷ (h.coff_header.pointer_to_symbol_table == 0, WriteSymbols) ∷ (clash_free sections, WriteOverlap) ∷ (all_in_source b sections, WriteSection) ∷ []) (tt {0}) ≡ Ok u → possible (greatest_end xs) y ≡ Err r → outcome (image_tests b h o sections longest xs) z ≡ Err r
unfolding image_tests
image_too_long b h o sections xs u y z r passed e = grind (arith, then_refused, too_long, no_longer)

pub whole_too_long : {Y Z : Type 0} (b source : List ℕ) (sections given : List SectionTable) (xs : List Piece) (u : Unit {0}) (y : Y) (z : Z) (r : Refusal) → source ≡ b → given ≡ sections → outcome ((clash_free given, WriteOverlap) ∷ (all_in_source source given, WriteSection) ∷ []) (tt {0}) ≡ Ok u → possible (greatest_end xs) y ≡ Err r → outcome (section_tests b sections longest xs) z ≡ Err r
whole_too_long b source sections given xs u y z r s g passed e = grind (arith, then_refused, too_long, no_longer)

-- ---- what the length decides, after some tests

enough : {Z : Type 0} (tests : List (Bool × Refusal)) (xs : List Piece) (m n : ℕ) (z : Z) → outcome (tests ++ (all_fit longest xs, WriteFit) ∷ []) (greatest_end xs) ≡ Ok n → n ≤ m → outcome (tests ++ (all_fit m xs, WriteFit) ∷ []) z ≡ Ok z
enough [] xs m n z e h = grind (arith, accepted_if, fit_by_end, le_is, value_if)
enough ((true, k) ∷ tests) xs m n z e h = enough tests xs m n z e h
enough ((false, k) ∷ tests) xs m n z e h = absurd cc

too_short : {Z : Type 0} (tests : List (Bool × Refusal)) (xs : List Piece) (m n : ℕ) (z : Z) → outcome (tests ++ (all_fit longest xs, WriteFit) ∷ []) (greatest_end xs) ≡ Ok n → m < n → outcome (tests ++ (all_fit m xs, WriteFit) ∷ []) z ≡ Err WriteFit
too_short [] xs m n z e h = grind (arith, fit_by_end, le_is_not, value_if)
too_short ((true, k) ∷ tests) xs m n z e h = too_short tests xs m n z e h
too_short ((false, k) ∷ tests) xs m n z e h = absurd cc

never : {Z : Type 0} (tests : List (Bool × Refusal)) (xs : List Piece) (m : ℕ) (z : Z) (r : Refusal) → outcome (tests ++ (all_fit longest xs, WriteFit) ∷ []) (greatest_end xs) ≡ Err r → m ≤ longest → outcome (tests ++ (all_fit m xs, WriteFit) ∷ []) z ≡ Err r
never [] xs m z r e h = grind (arith, refused_if, fit_by_end, beyond, unfit_if)
never ((true, k) ∷ tests) xs m z r e h = never tests xs m z r e h
never ((false, k) ∷ tests) xs m z r e h = let same : k ≡ r = cc in ap (λ r. Err r) same

abbrev first_tests : List ℕ → HeaderView → OptionalHeaderView → List SectionTable → List (Bool × Refusal)
first_tests b h o sections = (is_power_of_two o.windows_fields.file_alignment, WriteAlignment) ∷ (h.coff_header.pointer_to_symbol_table == 0, WriteSymbols) ∷ (clash_free sections, WriteOverlap) ∷ (all_in_source b sections, WriteSection) ∷ []

abbrev data_tests : List ℕ → List SectionTable → List (Bool × Refusal)
data_tests b sections = (clash_free sections, WriteOverlap) ∷ (all_in_source b sections, WriteSection) ∷ []

image_enough_by : (k : Option OptionalHeaderView) (b old : List ℕ) (h : HeaderView) (sections : List SectionTable) (cs : List CertificateView) (n : ℕ) → image_length_by k b h sections cs ≡ Ok n → n ≤ length old → is_ok (image_by k b h sections cs old) ≡ true
unfolding image_tests
image_enough_by None b old h sections cs n e l = absurd cc
image_enough_by (Some o) b old h sections cs n e l =
    let xs : List Piece = image_pieces b h o sections cs in
    ap is_ok (enough (first_tests b h o sections) xs (length old) n (image_end h o sections cs, overlay old xs) e l)

image_short_by : (k : Option OptionalHeaderView) (b old : List ℕ) (h : HeaderView) (sections : List SectionTable) (cs : List CertificateView) (n : ℕ) → image_length_by k b h sections cs ≡ Ok n → length old < n → image_by k b h sections cs old ≡ Err WriteFit
unfolding image_tests
image_short_by None b old h sections cs n e l = absurd cc
image_short_by (Some o) b old h sections cs n e l =
    let xs : List Piece = image_pieces b h o sections cs in
    too_short (first_tests b h o sections) xs (length old) n (image_end h o sections cs, overlay old xs) e l

image_never_by : (k : Option OptionalHeaderView) (b old : List ℕ) (h : HeaderView) (sections : List SectionTable) (cs : List CertificateView) (r : Refusal) → image_length_by k b h sections cs ≡ Err r → length old ≤ longest → image_by k b h sections cs old ≡ Err r
unfolding image_tests
image_never_by None b old h sections cs r e l = let same : NoOptionalHeader ≡ r = cc in ap (λ r. Err r) same
image_never_by (Some o) b old h sections cs r e l =
    let xs : List Piece = image_pieces b h o sections cs in
    never (first_tests b h o sections) xs (length old) (image_end h o sections cs, overlay old xs) r e l

whole_enough_by : (k : Option OptionalHeaderView) (b old : List ℕ) (h : HeaderView) (sections : List SectionTable) (cs : List CertificateView) (n : ℕ) → whole_length_by k b h sections cs ≡ Ok n → n ≤ length old → is_ok (whole_by k b h sections cs old) ≡ true
whole_enough_by None b old h sections cs n e l = absurd cc
whole_enough_by (Some o) b old h sections cs n e l =
    let xs : List Piece = whole_pieces b h o sections cs in
    ap is_ok (enough (data_tests b sections) xs (length old) n (max (length b) (image_end h o sections cs), overlay old xs) e l)

whole_short_by : (k : Option OptionalHeaderView) (b old : List ℕ) (h : HeaderView) (sections : List SectionTable) (cs : List CertificateView) (n : ℕ) → whole_length_by k b h sections cs ≡ Ok n → length old < n → whole_by k b h sections cs old ≡ Err WriteFit
whole_short_by None b old h sections cs n e l = absurd cc
whole_short_by (Some o) b old h sections cs n e l =
    let xs : List Piece = whole_pieces b h o sections cs in
    too_short (data_tests b sections) xs (length old) n (max (length b) (image_end h o sections cs), overlay old xs) e l

whole_never_by : (k : Option OptionalHeaderView) (b old : List ℕ) (h : HeaderView) (sections : List SectionTable) (cs : List CertificateView) (r : Refusal) → whole_length_by k b h sections cs ≡ Err r → length old ≤ longest → whole_by k b h sections cs old ≡ Err r
whole_never_by None b old h sections cs r e l = let same : NoOptionalHeader ≡ r = cc in ap (λ r. Err r) same
whole_never_by (Some o) b old h sections cs r e l =
    let xs : List Piece = whole_pieces b h o sections cs in
    never (data_tests b sections) xs (length old) (max (length b) (image_end h o sections cs), overlay old xs) r e l

pub image_enough : (b old : List ℕ) (x : ImageView) (n : ℕ) → image_length b x ≡ Ok n → n ≤ length old → is_ok (image_written b x old) ≡ true
image_enough b old x n e l = image_enough_by x.header.optional_header b old x.header x.sections x.certificates n e l

pub image_short : (b old : List ℕ) (x : ImageView) (n : ℕ) → image_length b x ≡ Ok n → length old < n → image_written b x old ≡ Err WriteFit
image_short b old x n e l = image_short_by x.header.optional_header b old x.header x.sections x.certificates n e l

pub image_never : (b old : List ℕ) (x : ImageView) (r : Refusal) → image_length b x ≡ Err r → length old ≤ longest → image_written b x old ≡ Err r
image_never b old x r e l = image_never_by x.header.optional_header b old x.header x.sections x.certificates r e l

pub whole_enough : (b old : List ℕ) (x : ImageView) (n : ℕ) → whole_length b x ≡ Ok n → n ≤ length old → is_ok (whole_written b x old) ≡ true
whole_enough b old x n e l = whole_enough_by x.header.optional_header b old x.header x.sections x.certificates n e l

pub whole_short : (b old : List ℕ) (x : ImageView) (n : ℕ) → whole_length b x ≡ Ok n → length old < n → whole_written b x old ≡ Err WriteFit
whole_short b old x n e l = whole_short_by x.header.optional_header b old x.header x.sections x.certificates n e l

pub whole_never : (b old : List ℕ) (x : ImageView) (r : Refusal) → whole_length b x ≡ Err r → length old ≤ longest → whole_written b x old ≡ Err r
whole_never b old x r e l = whole_never_by x.header.optional_header b old x.header x.sections x.certificates r e l
