-- What writing an image over a copy of its bytes changes is zero.
use Rattle.std.proofs.Common.{◌≡◌, ℕ, zero, suc, ◌+◌, ◌-◌, ◌*◌, ◌%◌, ◌<◌, ◌≤◌, ◌||◌, ◌⊎◌, inl, inr, Bool, true, false, cond, nat_le, Result, Ok, Err, List, [], ◌∷◌, ◌++◌, length, get_or, replicate, Option, Some, None, refl, ap, sym, ◌∙◌, subst, arith, rules}
use Rattle.pe_image.proofs.Cited.{filter, max, slice_index, slice_range, unwrap_or, ◌==◌, last_or, nat_tests, places}
use Rattle.pe_image.proofs.Cited.{length-replicate, inside_if_held, AreBytes, le, bytes_of, holds, range, HeaderView}
use Rattle.pe_image.proofs.Cited.{OptionalHeaderView, header, header_at, header_tests, optional_header_tests, optional_header_at}
use Rattle.pe_image.proofs.Cited.{is_permissive, dos_header, coff_header, section_table, Refusal, Short, BadMagic, HeaderPointer}
use Rattle.pe_image.proofs.Cited.{WriteFit, WriteOverlap, WriteSection, outcome, raw_end, sections_of, sections_offset, spell_dos}
use Rattle.pe_image.proofs.Cited.{spell_coff, spell_optional, spell_section, DataDirectory, ParseMode, ParseOptions, SectionTable}
use Rattle.pe_image.proofs.Cited.{CertificateView, certificate_at, certificate, certificate_tests, certificates_at, IsListing}
use Rattle.pe_image.proofs.Cited.{is_revision, is_type, revision_number, revision_of, type_number, type_of, spell_certificate}
use Rattle.pe_image.proofs.Cited.{written_length, StandFrom, is_listing, unplaced, CoreView, core_of, field, given_value, ImageView}
use Rattle.pe_image.proofs.Cited.{before_resources, IsAfterCore, IsImage, directory, Piece, EndsInZeros, all_fit, has_byte}
use Rattle.pe_image.proofs.Cited.{byte_after, overlay, piece, all_certificate_pieces, all_section_pieces, certificate_pieces}
use Rattle.pe_image.proofs.Cited.{header_pieces, in_a_row, lacking, section_pieces, AreAligned, all_in_source}
use Rattle.pe_image.proofs.Cited.{certificate_directory, clash_free, image_by, image_end, image_pieces, image_tests, image_written}
use Rattle.pe_image.proofs.Cited.{padded_pieces, whole_by, whole_written, get_or-each, length-each}
use Rattle.pe_core.proofs.NumberBytes.{bytes_of-le, range_join}
use Rattle.pe_core.proofs.SpelledOptional.{spelled_optional}
use Rattle.pe_core.proofs.SpelledRecords.{spelled_dos, spelled_coff, spelled_section}
use Rattle.pe_records.proofs.CertificatesReadAgain.{next_offset}
use Rattle.pe_image.proofs.Overlays.{byte_after_cons}
use Rattle.pe_image.proofs.Permissive.{certificates_alone, core_of_image}
use Rattle.pe_image.proofs.Rows.{accepted_too}
use Rattle.pe_image.proofs.SectionsFirst.{core_before, sections_of_core, core_header}

-- bytes that are to stand from offset p on are those of b there
abbrev AreThose : List ℕ → ℕ → List ℕ → Type 0
AreThose b p s = (i : ℕ) → i < length s → get_or s i 0 ≡ get_or b (p + i) 0

-- or they are zeros, where z holds
abbrev Kept : Type 0 → List ℕ → ℕ → List ℕ → Type 0
Kept z b p s = AreThose b p s ⊎ (z × (s ≡ replicate (length s) 0))

kept_range : (z : Type 0) (b s : List ℕ) (p q : ℕ) → s ≡ slice_range b p q → Kept z b p s
kept_range z b s p q e = grind (arith, places)

kept_zeros : (z : Type 0) (b : List ℕ) (p n : ℕ) → z → Kept z b p (replicate n 0)
kept_zeros z b p n may = inr (may, ap (λ (m : ℕ). replicate m 0) (sym (length-replicate n 0)))

-- all pieces are such
abbrev AllKept : Type 0 → List ℕ → List Piece → Type 0
AllKept z b [] = Unit {0}
AllKept z b (x ∷ xs) = Kept z b x.offset x.content × AllKept z b xs

all_append : (z : Type 0) (b : List ℕ) (xs ys : List Piece) → AllKept z b xs → AllKept z b ys → AllKept z b (xs ++ ys)
all_append z b [] ys h k = k
all_append z b (x ∷ xs) ys h k = (h.0, all_append z b xs ys h.1 k)

-- a piece that is such and has a byte for offset q, if it is there
abbrev CoversKept : Type 0 → List ℕ → ℕ → Option Piece → Type 0
CoversKept z b q None = Unit {0}
CoversKept z b q (Some x) = Kept z b x.offset x.content × (has_byte q x ≡ true)

-- the last of some pieces is such, if the one before them is
last_kept : (z : Type 0) (b : List ℕ) (q : ℕ) (xs : List Piece) (before : Option Piece) → AllKept z b xs → CoversKept z b q before → CoversKept z b q (last_or before (filter (has_byte q) xs))
last_kept z b q [] before h k = k
last_kept z b q (x ∷ xs) before h k =
    let then : (before : Option Piece) → CoversKept z b q before → CoversKept z b q (last_or before (filter (has_byte q) xs)) = λ before k. last_kept z b q xs before h.1 k in
    grind (arith, h.0)

-- a byte that is written over b at offset q is the one there, or it is zero and the piece that it is from is one of zeros
abbrev KeptByte : Type 0 → List ℕ → List Piece → ℕ → ℕ → Type 0
KeptByte z b pieces q x = (x ≡ get_or b q 0) ⊎ (z × ((x ≡ 0) × EndsInZeros pieces q))

zero_at : (n i : ℕ) → get_or {A = ℕ} (replicate n 0) i 0 ≡ 0
zero_at zero i = refl
zero_at (suc n) zero = refl
zero_at (suc n) (suc i) = zero_at n i

after_kept : (z : Type 0) (b : List ℕ) (xs : List Piece) (q : ℕ) → AllKept z b xs → KeptByte z b xs q (byte_after xs q (get_or b q 0))
unfolding byte_after
after_kept z b xs q h = grind (arith, nat_tests, zero_at, last_kept z b q xs None h tt)

overlay_kept : (z : Type 0) (b : List ℕ) (xs : List Piece) (q : ℕ) → AllKept z b xs → q < length b → KeptByte z b xs q (get_or (overlay b xs) q 0)
unfolding overlay
overlay_kept z b xs q h lt =
    subst (KeptByte z b xs q) (sym (get_or-each (λ k. byte_after xs k (slice_index b k)) (length b) q 0 lt)) (after_kept z b xs q h)

-- ---- the headers

passed_first : {Y : Type 0} (t : Bool) (k : Refusal) (tests : List (Bool × Refusal)) (v y : Y) → outcome ((t, k) ∷ tests) v ≡ Ok y → (t ≡ true) × (outcome tests v ≡ Ok y)
passed_first t k tests v y h = grind arith

pub value_is : {Y : Type 0} (tests : List (Bool × Refusal)) (v y : Y) → outcome tests v ≡ Ok y → v ≡ y
value_is [] v y h = cc
value_is ((true, k) ∷ tests) v y h = value_is tests v y h
value_is ((false, k) ∷ tests) v y h = absurd cc

parts_kept : (z : Type 0) (b : List ℕ) (o : OptionalHeaderView) → AreBytes b → 64 ≤ length b → (dos_header b 0).pe_pointer + 24 ≤ length b → optional_header_at b ((dos_header b 0).pe_pointer + 24) ≡ Ok o → AllKept z b (header_pieces (header b) o)
unfolding header_pieces header
parts_kept z b o small d c e =
    let p : ℕ = (dos_header b 0).pe_pointer in
    let dos = kept_range z b (spell_dos (dos_header b 0)) 0 64 (spelled_dos b 0 small d) in
    let stub = kept_range z b (slice_range b 64 p) 64 p refl in
    let sign = kept_range z b (bytes_of 4 (le b p 4)) p (p + 4) (bytes_of-le b p 4 small (omega arith)) in
    let coff = kept_range z b (spell_coff (coff_header b (p + 4))) (p + 4) (p + 4 + 20) (spelled_coff b (p + 4) small (omega arith)) in
    let last = kept_range z b (spell_optional o) (p + 24) (p + 24 + length (spell_optional o)) (sym (spelled_optional b (p + 24) o small e)) in
    (dos, (stub, (sign, (coff, (last, tt)))))

headers_kept : (z : Type 0) (b : List ℕ) (mode : ParseMode) (h : HeaderView) (o : OptionalHeaderView) → AreBytes b → header_at b mode ≡ Ok h → h.optional_header ≡ Some o → AllKept z b (header_pieces h o)
unfolding header_at header_tests header
headers_kept z b mode h o small e f =
    let p : ℕ = (dos_header b 0).pe_pointer in
    let rest : List (Bool × Refusal) = cond ((coff_header b (p + 4)).size_of_optional_header == 0) [] (optional_header_tests b (p + 24)) in
    let from_coff : List (Bool × Refusal) = (holds b (p + 4) 20, Short) ∷ rest in
    let from_signed : List (Bool × Refusal) = (le b p 4 == 0x4550, BadMagic) ∷ from_coff in
    let from_sign : List (Bool × Refusal) = (holds b p 4, Short) ∷ from_signed in
    let from_above : List (Bool × Refusal) = (nat_le 64 p || is_permissive mode, HeaderPointer) ∷ from_sign in
    let from_magic : List (Bool × Refusal) = ((dos_header b 0).signature == 0x5A4D, BadMagic) ∷ from_above in
    let dos = passed_first (holds b 0 64) Short from_magic (header b) h e in
    let magic = passed_first ((dos_header b 0).signature == 0x5A4D) BadMagic from_above (header b) h dos.1 in
    let above = passed_first (nat_le 64 p || is_permissive mode) HeaderPointer from_sign (header b) h magic.1 in
    let sign = passed_first (holds b p 4) Short from_signed (header b) h above.1 in
    let signed = passed_first (le b p 4 == 0x4550) BadMagic from_coff (header b) h sign.1 in
    let coff = passed_first (holds b (p + 4) 20) Short rest (header b) h signed.1 in
    let same : header b ≡ h = value_is rest (header b) h coff.1 in
    let there : (header b).optional_header ≡ Some o = ap (λ (x : HeaderView). x.optional_header) same ∙ f in
    let given : optional_header_at b (p + 24) ≡ Ok o =
    grind (arith, accepted_too, coff.1) in
    let long : p + 4 + 20 ≤ length b = inside_if_held b (p + 4) 20 coff.0 in
    subst (λ (x : HeaderView). AllKept z b (header_pieces x o)) same (parts_kept z b o small (inside_if_held b 0 64 dos.0) (omega arith) given)

-- ---- sections

-- the zeros after each section are kept
abbrev KeepsPadding : Type 0 → List ℕ → Option ℕ → Type 0
KeepsPadding z b unit = (s : SectionTable) → Kept z b (raw_end s) (replicate (lacking s.size_of_raw_data unit) 0)

section_kept : (z : Type 0) (b : List ℕ) (unit : Option ℕ) (offset : ℕ) (s : SectionTable) → KeepsPadding z b unit → AreBytes b → s ≡ section_table b offset → offset + 40 ≤ length b → AllKept z b (section_pieces b unit offset s)
unfolding section_pieces
section_kept z b unit offset s pads small e h =
    let data_kept = kept_range z b (range b s.pointer_to_raw_data s.size_of_raw_data) s.pointer_to_raw_data (s.pointer_to_raw_data + s.size_of_raw_data) refl in
    let head = kept_range z b (spell_section s) offset (offset + 40) (ap spell_section e ∙ spelled_section b offset small h) in
    (data_kept, (head, (pads s, tt)))

row_kept : (z : Type 0) (b : List ℕ) (unit : Option ℕ) (p : ℕ) (ss : List SectionTable) → KeepsPadding z b unit → AreBytes b → ((i : ℕ) → i < length ss → get_or ss i (section_table b 0) ≡ section_table b (p + 40 * i)) → (0 < length ss → p + 40 * length ss ≤ length b) → AllKept z b (all_section_pieces b unit p ss)
row_kept z b unit p [] pads small is room = tt
row_kept z b unit p (s ∷ ss) pads small is room =
    let first : p + 40 * 0 ≡ p = omega arith in
    let here : s ≡ section_table b p = is 0 (omega arith) ∙ ap (section_table b) first in
    all_append z b (section_pieces b unit p s) (all_section_pieces b unit (p + 40) ss)
    (section_kept z b unit p s pads small here (omega arith))
    (row_kept z b unit (p + 40) ss pads small
    (λ i lt. let offset : p + 40 * suc i ≡ p + 40 + 40 * i = omega arith in is (suc i) (omega arith) ∙ ap (section_table b) offset)
    (λ some. omega arith))

room_for : (n p l : ℕ) → (n == 0 || nat_le (p + 40 * n) l) ≡ true → 0 < n → p + 40 * n ≤ l
room_for n p l h some = grind (arith, nat_tests)

sections_kept : (z : Type 0) (b : List ℕ) (unit : Option ℕ) (h : HeaderView) (ss : List SectionTable) → KeepsPadding z b unit → AreBytes b → sections_of b h ≡ Ok ss → AllKept z b (all_section_pieces b unit (sections_offset h) ss)
sections_kept z b unit h ss pads small e = grind (arith, passed_first, value_is, length-each, row_kept, get_or-each, room_for)

-- ---- certificates

-- a certificate that is read: its fields, and its tests
record ReadAt (b : List ℕ) (p : ℕ) (c : CertificateView) : Type 0 where
  size : c.length ≡ le b p 4
  revision : c.revision ≡ revision_of (le b (p + 4) 2)
  has_revision : is_revision (le b (p + 4) 2) ≡ true
  kind : c.certificate_type ≡ type_of (le b (p + 6) 2)
  has_kind : is_type (le b (p + 6) 2) ≡ true
  head : p + 8 ≤ length b
  body : c.body ≡ range b (p + 8) (c.length - 8)

read_at : (b : List ℕ) (p : ℕ) (c : CertificateView) (q : ℕ) → certificate_at b p ≡ Ok (c, q) → ReadAt b p c
unfolding certificate_at certificate certificate_tests
read_at b p c q e = record { size = grind (arith, nat_tests); revision = grind (arith, nat_tests); has_revision = grind (arith, nat_tests); kind = grind (arith, nat_tests); has_kind = grind (arith, nat_tests); head = grind (arith, nat_tests); body = grind (arith, nat_tests) }

spelled_certificate : (b : List ℕ) (p : ℕ) (c : CertificateView) → AreBytes b → ReadAt b p c → spell_certificate c ≡ slice_range b p (p + 8)
unfolding spell_certificate
spelled_certificate b p c small r =
    let inside : p + 8 ≤ length b = r.head in
    let revision : revision_number c.revision ≡ le b (p + 4) 2 = ap revision_number r.revision ∙ (grind (arith, nat_tests, r.has_revision)) in
    let kind : type_number c.certificate_type ≡ le b (p + 6) 2 = ap type_number r.kind ∙ (grind (arith, nat_tests, r.has_kind)) in
    let six : p + 4 + 2 ≡ p + 6 = omega arith in
    let eight : p + 6 + 2 ≡ p + 8 = omega arith in
    let first : bytes_of 4 (le b p 4) ≡ slice_range b p (p + 4) = bytes_of-le b p 4 small (omega arith) in
    let second : bytes_of 2 (le b (p + 4) 2) ≡ slice_range b (p + 4) (p + 6) = bytes_of-le b (p + 4) 2 small (omega arith) ∙ ap (slice_range b (p + 4)) six in
    let third : bytes_of 2 (le b (p + 6) 2) ≡ slice_range b (p + 6) (p + 8) = bytes_of-le b (p + 6) 2 small (omega arith) ∙ ap (slice_range b (p + 6)) eight in
    rw (r.size, revision, kind, first, second, third, range_join b p (p + 4) (p + 6) (omega arith) (omega arith) (omega arith)) (range_join b p (p + 6) (p + 8) (omega arith) (omega arith) inside)

certificate_kept : (z : Type 0) (b : List ℕ) (p : ℕ) (c : CertificateView) (q : ℕ) → z → AreBytes b → certificate_at b p ≡ Ok (c, q) → AllKept z b (certificate_pieces p c)
certificate_kept z b p c q may small e =
    let r : ReadAt b p c = read_at b p c q e in
    let head : Kept z b p (spell_certificate c) = kept_range z b (spell_certificate c) p (p + 8) (spelled_certificate b p c small r) in
    let body : Kept z b (p + 8) c.body = kept_range z b c.body (p + 8) (p + 8 + (c.length - 8)) r.body in
    (head, (body, (kept_zeros z b (p + 8 + length c.body) (written_length c - (8 + length c.body)) may, tt)))

stand_kept : (z : Type 0) (b : List ℕ) (end p : ℕ) (cs : List CertificateView) (q : ℕ) → z → AreBytes b → (0 < length cs → p % 8 ≡ 0) → StandFrom b end p cs q → AllKept z b (in_a_row certificate_pieces written_length p cs)
stand_kept z b end p [] q may small m s = tt
stand_kept z b end p (c ∷ cs) q may small m s =
    let here : p % 8 ≡ 0 = m (omega arith) in
    let next : s.1 ≡ p + written_length c = next_offset b p c s.1 small here s.2 in
    all_append z b (certificate_pieces p c) (in_a_row certificate_pieces written_length (p + written_length c) cs)
    (certificate_kept z b p c s.1 may small s.2)
    (stand_kept z b end (p + written_length c) cs q may small (λ some. omega arith) (subst (λ (n : ℕ). StandFrom b end n cs q) next s.3))

table_kept : (z : Type 0) (b : List ℕ) (address size : ℕ) (cs : List CertificateView) → z → AreBytes b → (0 < length cs → address % 8 ≡ 0) → certificates_at b address size ≡ Ok cs → AllKept z b (in_a_row certificate_pieces written_length address cs)
table_kept z b address size cs may small m e =
    let l : IsListing b address size cs = is_listing b address size cs e in
    let s : StandFrom b (address + size) address cs (l.offset (length cs)) = rw l.first at (unplaced b (address + size) l.offset cs l.stand) in
    stand_kept z b (address + size) address cs (l.offset (length cs)) may small m s

none_kept : (z : Type 0) (b : List ℕ) (p : ℕ) (cs : List CertificateView) → cs ≡ [] → AllKept z b (in_a_row certificate_pieces written_length p cs)
none_kept z b p cs e = subst (λ (cs : List CertificateView). AllKept z b (in_a_row certificate_pieces written_length p cs)) (sym e) tt

read_kept : (z : Type 0) (b : List ℕ) (address size : ℕ) (cs : List CertificateView) (r : Result (List CertificateView) Refusal) → z → AreBytes b → (0 < length cs → address % 8 ≡ 0) → certificates_at b address size ≡ r → cs ≡ unwrap_or (given_value (Some r)) [] → AllKept z b (in_a_row certificate_pieces written_length address cs)
read_kept z b address size cs (Ok ds) may small m e same = table_kept z b address size cs may small m (e ∙ ap (λ ds. Ok ds) (sym same))
read_kept z b address size cs (Err k) may small m e same = none_kept z b address cs same

field_kept : (z : Type 0) (b : List ℕ) (listed : Bool) (d : Option DataDirectory) (cs : List CertificateView) → z → AreBytes b → ((e : DataDirectory) → d ≡ Some e → 0 < length cs → e.virtual_address % 8 ≡ 0) → cs ≡ unwrap_or (given_value (cond listed (field (λ e. certificates_at b e.virtual_address e.size) d) None)) [] → AllKept z b (all_certificate_pieces d cs)
field_kept z b listed None cs may small m same = tt
field_kept z b false (Some d) cs may small m same = none_kept z b d.virtual_address cs same
field_kept z b true (Some d) cs may small m same = read_kept z b d.virtual_address d.size cs (certificates_at b d.virtual_address d.size) may small (m d refl) refl same

-- ---- the image

core_after : (b : List ℕ) (o : ParseOptions) (r : Result CoreView Refusal) (x : ImageView) → before_resources b o ≡ r → IsAfterCore b o r (Ok x) → (c : CoreView) × (core_of b o ≡ Ok c)
unfolding before_resources
core_after b o r x h is = grind (arith, core_before)

-- headers and sections of an image are those of its file, and so are its certificates
laid_kept : (z : Type 0) (b : List ℕ) (unit : Option ℕ) (o : ParseOptions) (x : ImageView) (h : OptionalHeaderView) → KeepsPadding z b unit → AreBytes b → IsImage b o (Ok x) → x.header.optional_header ≡ Some h → AllKept z b (all_certificate_pieces (certificate_directory h) x.certificates) → AllKept z b (padded_pieces unit b x.header h x.sections x.certificates)
unfolding padded_pieces core_of
laid_kept z b unit o x h pads small is e listed =
    let (c, core) = core_after b o (before_resources b o) x refl is in
    let same = core_of_image b o c x core is in
    let head : x.header ≡ c.header = ap (λ (c : CoreView). c.header) same in
    let rows : x.sections ≡ c.sections = ap (λ (c : CoreView). c.sections) same in
    let at_core : header_at b o.parse_mode ≡ Ok c.header = grind (arith, core_header) in
    let at_image : header_at b o.parse_mode ≡ Ok x.header = at_core ∙ ap (λ (h : HeaderView). Ok h) (sym head) in
    let read : sections_of b x.header ≡ Ok x.sections =
    rw at_image at (sections_of_core b o c core ∙ ap (λ (ss : List SectionTable). Ok ss) (sym rows)) in
    let sections : List Piece = all_section_pieces b unit (sections_offset x.header) x.sections in
    all_append z b (header_pieces x.header h ++ sections) (all_certificate_pieces (certificate_directory h) x.certificates)
    (all_append z b (header_pieces x.header h) sections (headers_kept z b o.parse_mode x.header h small at_image e) (sections_kept z b unit x.header x.sections pads small read))
    listed

listed_kept : (b : List ℕ) (o : ParseOptions) (x : ImageView) (h : OptionalHeaderView) → AreBytes b → IsImage b o (Ok x) → AreAligned x → x.header.optional_header ≡ Some h → AllKept (Unit {0}) b (all_certificate_pieces (certificate_directory h) x.certificates)
listed_kept b o x h small is m e =
    let (c, core) = core_after b o (before_resources b o) x refl is in
    let head : x.header ≡ c.header = ap (λ (c : CoreView). c.header) (core_of_image b o c x core is) in
    let there : c.header.optional_header ≡ Some h = sym (ap (λ (h : HeaderView). h.optional_header) head) ∙ e in
    let listed : x.certificates ≡ unwrap_or (given_value (cond o.parse_attribute_certificates (field (λ d. certificates_at b d.virtual_address d.size) (certificate_directory h)) None)) [] =
    certificates_alone b o c x core is ∙ ap (λ (k : Option OptionalHeaderView). unwrap_or (given_value (cond o.parse_attribute_certificates (field (λ d. certificates_at b d.virtual_address d.size) (directory 4 k)) None)) []) there in
    field_kept (Unit {0}) b o.parse_attribute_certificates (certificate_directory h) x.certificates tt small (λ d found some. m d (ap (directory 4) e ∙ found) some) listed

-- zeros may be written after sections and certificates
pieces_kept : (b : List ℕ) (unit : Option ℕ) (o : ParseOptions) (x : ImageView) (h : OptionalHeaderView) → AreBytes b → IsImage b o (Ok x) → AreAligned x → x.header.optional_header ≡ Some h → AllKept (Unit {0}) b (padded_pieces unit b x.header h x.sections x.certificates)
pieces_kept b unit o x h small is m e = search (rules, arith, laid_kept, kept_zeros, listed_kept)

unsigned_kept : (b : List ℕ) (o : ParseOptions) (x : ImageView) (h : OptionalHeaderView) → AreBytes b → IsImage b o (Ok x) → x.certificates ≡ [] → x.header.optional_header ≡ Some h → AllKept ⊥ b (padded_pieces None b x.header h x.sections x.certificates)
unsigned_kept b o x h small is none e =
    laid_kept ⊥ b None o x h (λ s. inl (λ i lt. absurd (omega arith))) small is e
    (grind (arith, none_kept))

written_by : (k : Option OptionalHeaderView) (b : List ℕ) (x : ImageView) (h : OptionalHeaderView) (n q : ℕ) (new : List ℕ) → k ≡ Some h → image_by k b x.header x.sections x.certificates b ≡ Ok (n, new) → AllKept (Unit {0}) b (image_pieces b x.header h x.sections x.certificates) → q < length b → KeptByte (Unit {0}) b (image_pieces b x.header h x.sections x.certificates) q (get_or new q 0)
written_by None b x h n q new there e kept lt = absurd cc
written_by (Some o) b x h n q new there e kept lt =
    let pieces : List Piece = image_pieces b x.header h x.sections x.certificates in
    let is : image_by (Some h) b x.header x.sections x.certificates b ≡ Ok (n, new) = ap (λ (k : Option OptionalHeaderView). image_by k b x.header x.sections x.certificates b) (sym there) ∙ e in
    let same = value_is {Y = ℕ × List ℕ} (image_tests b x.header h x.sections (length b) pieces) (image_end x.header h x.sections x.certificates, overlay b pieces) (n, new) is in
    subst (λ (s : List ℕ). KeptByte (Unit {0}) b pieces q (get_or s q 0)) (ap (λ (r : ℕ × List ℕ). r.1) same) (overlay_kept (Unit {0}) b pieces q kept lt)

-- zeros may be there, or may not
where_zeros : {A B : Type 0} → A ⊎ (Unit {0} × B) → A ⊎ B
where_zeros e = grind arith

pub rewritten : (b new : List ℕ) (o : ParseOptions) (x : ImageView) (h : OptionalHeaderView) (n q : ℕ) → AreBytes b → IsImage b o (Ok x) → AreAligned x → x.header.optional_header ≡ Some h → image_written b x b ≡ Ok (n, new) → q < length b → (slice_index new q ≡ slice_index b q) ⊎ ((slice_index new q ≡ 0) × EndsInZeros (image_pieces b x.header h x.sections x.certificates) q)
rewritten b new o x h n q small is m there e lt = grind (arith, where_zeros, written_by, pieces_kept)

-- ---- the whole file

-- a byte of the file, with pieces over the file
over_file : (b old : List ℕ) (rest : List Piece) (q : ℕ) → length b ≤ length old → q < length b → get_or (overlay old (piece 0 b ∷ rest)) q 0 ≡ byte_after rest q (get_or b q 0)
unfolding overlay
over_file b old rest q room lt =
    let covers : has_byte q (piece 0 b) ≡ true = grind (arith, nat_tests) in
    let from_start : q - 0 ≡ q = omega arith in
    get_or-each (λ k. byte_after (piece 0 b ∷ rest) k (slice_index old k)) (length old) q 0 (omega arith)
    ∙ (sym (byte_after_cons (piece 0 b) rest q (get_or old q 0))
    ∙ (ap (λ (n : ℕ). byte_after rest q (cond (has_byte q (piece 0 b)) (get_or b n 0) (get_or old q 0))) from_start
    ∙ ap (λ t. byte_after rest q (cond t (get_or b q 0) (get_or old q 0))) covers))

whole_written_by : (z : Type 0) (k : Option OptionalHeaderView) (b old : List ℕ) (x : ImageView) (h : OptionalHeaderView) (n q : ℕ) (new : List ℕ) → k ≡ Some h → whole_by k b x.header x.sections x.certificates old ≡ Ok (n, new) → AllKept z b (padded_pieces None b x.header h x.sections x.certificates) → q < length b → KeptByte z b (padded_pieces None b x.header h x.sections x.certificates) q (get_or new q 0)
whole_written_by z None b old x h n q new there e kept lt = absurd cc
whole_written_by z (Some o) b old x h n q new there e kept lt =
    let rest : List Piece = padded_pieces None b x.header h x.sections x.certificates in
    let pieces : List Piece = piece 0 b ∷ rest in
    let defined : ℕ × List ℕ = (max (length b) (image_end x.header h x.sections x.certificates), overlay old pieces) in
    let is : whole_by (Some h) b x.header x.sections x.certificates old ≡ Ok (n, new) = ap (λ (k : Option OptionalHeaderView). whole_by k b x.header x.sections x.certificates old) (sym there) ∙ e in
    let fit : List (Bool × Refusal) = (all_fit (length old) pieces, WriteFit) ∷ [] in
    let apart = passed_first (clash_free x.sections) WriteOverlap ((all_in_source b x.sections, WriteSection) ∷ fit) defined (n, new) is in
    let inside = passed_first (all_in_source b x.sections) WriteSection fit defined (n, new) apart.1 in
    let fits = passed_first (all_fit (length old) pieces) WriteFit [] defined (n, new) inside.1 in
    let same : defined ≡ (n, new) = value_is [] defined (n, new) fits.1 in
    let byte : get_or (overlay old pieces) q 0 ≡ byte_after rest q (get_or b q 0) = over_file b old rest q (grind (arith, nat_tests, fits.0)) lt in
    let kept_there : KeptByte z b rest q (get_or (overlay old pieces) q 0) = subst (KeptByte z b rest q) (sym byte) (after_kept z b rest q kept) in
    subst (λ (s : List ℕ). KeptByte z b rest q (get_or s q 0)) (ap (λ (r : ℕ × List ℕ). r.1) same) kept_there

pub whole_changes : (b old new : List ℕ) (o : ParseOptions) (x : ImageView) (h : OptionalHeaderView) (n q : ℕ) → AreBytes b → IsImage b o (Ok x) → AreAligned x → x.header.optional_header ≡ Some h → whole_written b x old ≡ Ok (n, new) → q < length b → (slice_index new q ≡ slice_index b q) ⊎ ((slice_index new q ≡ 0) × EndsInZeros (padded_pieces None b x.header h x.sections x.certificates) q)
whole_changes b old new o x h n q small is m there e lt =
    where_zeros (whole_written_by (Unit {0}) x.header.optional_header b old x h n q new there e (pieces_kept b None o x h small is m there) lt)

pub whole_unsigned : (b old new : List ℕ) (o : ParseOptions) (x : ImageView) (h : OptionalHeaderView) (n q : ℕ) → AreBytes b → IsImage b o (Ok x) → x.certificates ≡ [] → x.header.optional_header ≡ Some h → whole_written b x old ≡ Ok (n, new) → q < length b → slice_index new q ≡ slice_index b q
whole_unsigned b old new o x h n q small is none there e lt =
    grind
    (arith, whole_written_by ⊥ x.header.optional_header b old x h n q new there e (unsigned_kept b o x h small is none there) lt)
