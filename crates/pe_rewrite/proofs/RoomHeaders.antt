-- The headers of a file with room for resources.
use Rattle.std.proofs.Common.{◌≡◌, ℕ, ◌+◌, ◌*◌, ◌<◌, ◌≤◌, ◌==◌, ◌||◌, Bool, true, false, List, [], length, get_or, set, Ok, Some, None, refl, ap, sym, ◌∙◌, arith}
use Rattle.pe_rewrite.proofs.Cited.{slice_range, if◌then◌else◌, AreBytes, le, absent_directory, kept, HeaderView}
use Rattle.pe_rewrite.proofs.Cited.{OptionalHeaderView, directories_offset, is_pe32_plus, optional_header, optional_header_tests}
use Rattle.pe_rewrite.proofs.Cited.{header, header_at, dos_header, coff_header, standard_fields_32, standard_fields_64}
use Rattle.pe_rewrite.proofs.Cited.{windows_fields_32, windows_fields_64, data_directory, outcome, rows, ParseMode, le_is, le-same}
use Rattle.pe_rewrite.proofs.Cited.{directories_end, directories_end_after, range_below, range_past, end_is, magic_is, minus}
use Rattle.pe_rewrite.proofs.Cited.{one_set, Parsed, parsed, plus, same_range, some_optional, wide, RoomLies, roomy_file}
use Rattle.pe_rewrite.proofs.Cited.{coff_roomy, entry_of, headers_roomy, optional_roomy, Room, Leaf, length_of_section}
use Rattle.pe_core.specs.Header.{header_tests}
use Rattle.pe_sign.proofs.Tests.{passed}
use Rattle.pe_rewrite.proofs.Roomy.{HasRoom, room_lies}
use Rattle.pe_rewrite.proofs.RoomBytes.{RoomRead, SmallRoom, room_read, roomy_byte}
use Rattle.pe_rewrite.proofs.RoomWrites.{roomy_length}
use Rattle.pe_rewrite.proofs.Stays.{Past}

-- before offset n two files have the same bytes, but for four fields of an image with PE pointer q, and the entry at offset e
pub record Same (f b : List ℕ) (q e n : ℕ) : Type 0 where
  pub sum : q + 92 ≤ e
  pub entry : e + 8 ≤ n
  pub inside : n ≤ length f
  pub inside_before : n ≤ length b
  pub stub : (k : ℕ) → k < q + 6 → get_or f k 0 ≡ get_or b k 0
  pub time : (k : ℕ) → q + 8 ≤ k → k < q + 12 → get_or f k 0 ≡ get_or b k 0
  pub count : (k : ℕ) → q + 16 ≤ k → k < q + 32 → get_or f k 0 ≡ get_or b k 0
  pub middle : (k : ℕ) → q + 36 ≤ k → k < q + 80 → get_or f k 0 ≡ get_or b k 0
  pub after : (k : ℕ) → q + 84 ≤ k → k < e → get_or f k 0 ≡ get_or b k 0
  pub last : (k : ℕ) → e + 8 ≤ k → k < n → get_or f k 0 ≡ get_or b k 0

between : (f b : List ℕ) (lo hi p w : ℕ) → ((k : ℕ) → lo ≤ k → k < hi → get_or f k 0 ≡ get_or b k 0) → lo ≤ p → p + w ≤ hi → le f p w ≡ le b p w
between f b lo hi p w same from to = le-same f b p p w (λ k lt. same (p + k) (omega (arith, from)) (omega (arith, to, lt)))

in_stub : (f b : List ℕ) (q e n : ℕ) → Same f b q e n → (p w : ℕ) → p + w ≤ q + 6 → le f p w ≡ le b p w
in_stub f b q e n s p w to = between f b 0 (q + 6) p w (λ k from lt. s.stub k lt) (omega arith) to

in_count : (f b : List ℕ) (q e n : ℕ) → Same f b q e n → (p w : ℕ) → q + 16 ≤ p → p + w ≤ q + 32 → le f p w ≡ le b p w
in_count f b q e n s p w from to = between f b (q + 16) (q + 32) p w s.count from to

in_middle : (f b : List ℕ) (q e n : ℕ) → Same f b q e n → (p w : ℕ) → q + 36 ≤ p → p + w ≤ q + 80 → le f p w ≡ le b p w
in_middle f b q e n s p w from to = between f b (q + 36) (q + 80) p w s.middle from to

in_after : (f b : List ℕ) (q e n : ℕ) → Same f b q e n → (p w : ℕ) → q + 84 ≤ p → p + w ≤ e → le f p w ≡ le b p w
in_after f b q e n s p w from to = between f b (q + 84) e p w s.after from to

-- ---- records

dos_same : (f b : List ℕ) (q e n : ℕ) → Same f b q e n → 64 ≤ q + 6 → dos_header f 0 ≡ dos_header b 0
unfolding dos_header
dos_same f b q e n s h =
    rw (
      in_stub f b q e n s 0 2 (omega (arith, h)),
      same_range f b 2 60 (omega (arith, h, s.sum, s.entry, s.inside)) (omega (arith, h, s.sum, s.entry, s.inside_before)) (λ k from lt. s.stub k (omega (arith, lt, h))),
      in_stub f b q e n s 60 4 (omega (arith, h)),
    ) refl

coff_same : (f b : List ℕ) (q e n : ℕ) (m : Room) → Same f b q e n → RoomRead f q m → coff_header f (q + 4) ≡ coff_roomy m (coff_header b (q + 4))
unfolding coff_header
coff_same f b q e n m s r = grind (arith, in_stub, between, in_count)

standard_same_64 : (f b : List ℕ) (q e n : ℕ) (m : Room) → Same f b q e n → RoomRead f q m → (p : ℕ) → p ≡ q + 24 → standard_fields_64 f p ≡ record (standard_fields_64 b p) { size_of_initialized_data = m.size_of_initialized_data }
unfolding standard_fields_64
standard_same_64 f b q e n m s r p at =
    let initialized : le f (p + 8) 4 ≡ m.size_of_initialized_data = ap (λ (k : ℕ). le f k 4) (omega (arith, at)) ∙ r.initialized in
    rw (
      in_count f b q e n s p 2 (omega (arith, at)) (omega (arith, at)),
      in_count f b q e n s (p + 2) 1 (omega (arith, at)) (omega (arith, at)),
      in_count f b q e n s (p + 3) 1 (omega (arith, at)) (omega (arith, at)),
      in_count f b q e n s (p + 4) 4 (omega (arith, at)) (omega (arith, at)),
      initialized,
      in_middle f b q e n s (p + 12) 4 (omega (arith, at)) (omega (arith, at)),
      in_middle f b q e n s (p + 16) 4 (omega (arith, at)) (omega (arith, at)),
      in_middle f b q e n s (p + 20) 4 (omega (arith, at)) (omega (arith, at)),
    ) refl

standard_same_32 : (f b : List ℕ) (q e n : ℕ) (m : Room) → Same f b q e n → RoomRead f q m → (p : ℕ) → p ≡ q + 24 → standard_fields_32 f p ≡ record (standard_fields_32 b p) { size_of_initialized_data = m.size_of_initialized_data }
unfolding standard_fields_32
standard_same_32 f b q e n m s r p at = rw (standard_same_64 f b q e n m s r p at, in_middle f b q e n s (p + 24) 4 (omega (arith, at)) (omega (arith, at))) refl

windows_same_32 : (f b : List ℕ) (q e n : ℕ) (m : Room) → Same f b q e n → RoomRead f q m → (p : ℕ) → p ≡ q + 52 → p + 68 ≤ e → windows_fields_32 f p ≡ record (windows_fields_32 b p) { size_of_image = m.size_of_image }
unfolding windows_fields_32
windows_same_32 f b q e n m s r p at h =
    let image : le f (p + 28) 4 ≡ m.size_of_image = ap (λ (k : ℕ). le f k 4) (omega (arith, at)) ∙ r.image in
    rw (
      in_middle f b q e n s p 4 (omega (arith, at)) (omega (arith, at)),
      in_middle f b q e n s (p + 4) 4 (omega (arith, at)) (omega (arith, at)),
      in_middle f b q e n s (p + 8) 4 (omega (arith, at)) (omega (arith, at)),
      in_middle f b q e n s (p + 12) 2 (omega (arith, at)) (omega (arith, at)),
      in_middle f b q e n s (p + 14) 2 (omega (arith, at)) (omega (arith, at)),
      in_middle f b q e n s (p + 16) 2 (omega (arith, at)) (omega (arith, at)),
      in_middle f b q e n s (p + 18) 2 (omega (arith, at)) (omega (arith, at)),
      in_middle f b q e n s (p + 20) 2 (omega (arith, at)) (omega (arith, at)),
      in_middle f b q e n s (p + 22) 2 (omega (arith, at)) (omega (arith, at)),
      in_middle f b q e n s (p + 24) 4 (omega (arith, at)) (omega (arith, at)),
      image,
      in_after f b q e n s (p + 32) 4 (omega (arith, at)) (omega (arith, h)),
      in_after f b q e n s (p + 36) 4 (omega (arith, at)) (omega (arith, h)),
      in_after f b q e n s (p + 40) 2 (omega (arith, at)) (omega (arith, h)),
      in_after f b q e n s (p + 42) 2 (omega (arith, at)) (omega (arith, h)),
      in_after f b q e n s (p + 44) 4 (omega (arith, at)) (omega (arith, h)),
      in_after f b q e n s (p + 48) 4 (omega (arith, at)) (omega (arith, h)),
      in_after f b q e n s (p + 52) 4 (omega (arith, at)) (omega (arith, h)),
      in_after f b q e n s (p + 56) 4 (omega (arith, at)) (omega (arith, h)),
      in_after f b q e n s (p + 60) 4 (omega (arith, at)) (omega (arith, h)),
      in_after f b q e n s (p + 64) 4 (omega (arith, at)) (omega (arith, h)),
    ) refl

windows_same_64 : (f b : List ℕ) (q e n : ℕ) (m : Room) → Same f b q e n → RoomRead f q m → (p : ℕ) → p ≡ q + 48 → p + 88 ≤ e → windows_fields_64 f p ≡ record (windows_fields_64 b p) { size_of_image = m.size_of_image }
unfolding windows_fields_64
windows_same_64 f b q e n m s r p at h =
    let image : le f (p + 32) 4 ≡ m.size_of_image = ap (λ (k : ℕ). le f k 4) (omega (arith, at)) ∙ r.image in
    rw (
      in_middle f b q e n s p 8 (omega (arith, at)) (omega (arith, at)),
      in_middle f b q e n s (p + 8) 4 (omega (arith, at)) (omega (arith, at)),
      in_middle f b q e n s (p + 12) 4 (omega (arith, at)) (omega (arith, at)),
      in_middle f b q e n s (p + 16) 2 (omega (arith, at)) (omega (arith, at)),
      in_middle f b q e n s (p + 18) 2 (omega (arith, at)) (omega (arith, at)),
      in_middle f b q e n s (p + 20) 2 (omega (arith, at)) (omega (arith, at)),
      in_middle f b q e n s (p + 22) 2 (omega (arith, at)) (omega (arith, at)),
      in_middle f b q e n s (p + 24) 2 (omega (arith, at)) (omega (arith, at)),
      in_middle f b q e n s (p + 26) 2 (omega (arith, at)) (omega (arith, at)),
      in_middle f b q e n s (p + 28) 4 (omega (arith, at)) (omega (arith, at)),
      image,
      in_after f b q e n s (p + 36) 4 (omega (arith, at)) (omega (arith, h)),
      in_after f b q e n s (p + 40) 4 (omega (arith, at)) (omega (arith, h)),
      in_after f b q e n s (p + 44) 2 (omega (arith, at)) (omega (arith, h)),
      in_after f b q e n s (p + 46) 2 (omega (arith, at)) (omega (arith, h)),
      in_after f b q e n s (p + 48) 8 (omega (arith, at)) (omega (arith, h)),
      in_after f b q e n s (p + 56) 8 (omega (arith, at)) (omega (arith, h)),
      in_after f b q e n s (p + 64) 8 (omega (arith, at)) (omega (arith, h)),
      in_after f b q e n s (p + 72) 8 (omega (arith, at)) (omega (arith, h)),
      in_after f b q e n s (p + 80) 4 (omega (arith, at)) (omega (arith, h)),
      in_after f b q e n s (p + 84) 4 (omega (arith, at)) (omega (arith, h)),
    ) refl

-- ---- the directories

row_before : (f b : List ℕ) (q e n : ℕ) → Same f b q e n → (p : ℕ) → q + 84 ≤ p → p + 8 ≤ e → data_directory f p ≡ data_directory b p
unfolding data_directory
row_before f b q e n s p from to = rw (in_after f b q e n s p 4 from (omega (arith, to)), in_after f b q e n s (p + 4) 4 (omega (arith, from)) (omega (arith, to))) refl

row_after : (f b : List ℕ) (q e n : ℕ) → Same f b q e n → (p : ℕ) → e + 8 ≤ p → p + 8 ≤ n → data_directory f p ≡ data_directory b p
unfolding data_directory
row_after f b q e n s p from to = rw (between f b (e + 8) n p 4 s.last from (omega (arith, to)), between f b (e + 8) n (p + 4) 4 s.last (omega (arith, from)) (omega (arith, to))) refl

rows_same : (f b : List ℕ) (q n : ℕ) (m : Room) → Same f b q m.place.entry n → RoomRead f q m → (p c : ℕ) → q + 84 ≤ p → m.place.entry ≡ p + 8 * 2 → n ≡ p + 8 * c →
    rows (data_directory f) 8 p c ≡ set (rows (data_directory b) 8 p c) 2 (entry_of m.place)
unfolding data_directory
rows_same f b q n m s r p c from at to =
    one_set (λ k. data_directory f (p + 8 * k)) (λ k. data_directory b (p + 8 * k)) c 2 (entry_of m.place) absent_directory (omega (arith, s.entry, at, to))
    (ap (λ (k : ℕ). data_directory f k) (sym at) ∙ (rw (r.address, r.size) refl))
    (λ k lt. row_before f b q m.place.entry n s (p + 8 * k) (omega (arith, from)) (omega (arith, at, lt)))
    (λ k gt lt. row_after f b q m.place.entry n s (p + 8 * k) (omega (arith, at, gt)) (omega (arith, to, lt)))

-- ---- the optional header

optional_64 : (f b : List ℕ) (q n : ℕ) (m : Room) → Same f b q m.place.entry n → RoomRead f q m → (p : ℕ) → p ≡ q + 24 → m.place.entry ≡ p + 112 + 8 * 2 → is_pe32_plus b p ≡ true →
    n ≡ p + 112 + 8 * kept (windows_fields_64 b (p + 24)).number_of_rva_and_sizes → optional_header f p ≡ optional_roomy m (optional_header b p)
unfolding optional_header
optional_64 f b q n m s r p at at_e w to =
    let magic : is_pe32_plus f p ≡ true = ap (λ (v : ℕ). v == 0x20B) (in_count f b q m.place.entry n s p 2 (omega (arith, at)) (omega (arith, at))) ∙ w in
    let fields = windows_same_64 f b q m.place.entry n m s r (p + 24) (omega (arith, at)) (omega (arith, at_e)) in
    let table = rows_same f b q n m s r (p + 112) (kept (windows_fields_64 b (p + 24)).number_of_rva_and_sizes) (omega (arith, at)) at_e to in
    rw (magic, w, standard_same_64 f b q m.place.entry n m s r p at, fields, table) refl

optional_32 : (f b : List ℕ) (q n : ℕ) (m : Room) → Same f b q m.place.entry n → RoomRead f q m → (p : ℕ) → p ≡ q + 24 → m.place.entry ≡ p + 96 + 8 * 2 → is_pe32_plus b p ≡ false →
    n ≡ p + 96 + 8 * kept (windows_fields_32 b (p + 28)).number_of_rva_and_sizes → optional_header f p ≡ optional_roomy m (optional_header b p)
unfolding optional_header
optional_32 f b q n m s r p at at_e w to =
    let magic : is_pe32_plus f p ≡ false = ap (λ (v : ℕ). v == 0x20B) (in_count f b q m.place.entry n s p 2 (omega (arith, at)) (omega (arith, at))) ∙ w in
    let fields = windows_same_32 f b q m.place.entry n m s r (p + 28) (omega (arith, at)) (omega (arith, at_e)) in
    let table = rows_same f b q n m s r (p + 96) (kept (windows_fields_32 b (p + 28)).number_of_rva_and_sizes) (omega (arith, at)) at_e to in
    rw (magic, w, standard_same_32 f b q m.place.entry n m s r p at, fields, table) refl

-- ---- the tests

optional_accepted : (f b : List ℕ) (p : ℕ) (m : Room) → le f p 2 ≡ le b p 2 → optional_header f p ≡ optional_roomy m (optional_header b p) →
    (le b p 2 == 0x10B || is_pe32_plus b p) ≡ true → p + directories_offset (is_pe32_plus b p) + 8 * kept (optional_header b p).windows_fields.number_of_rva_and_sizes ≤ length f →
    (y : HeaderView) → outcome (optional_header_tests f p) y ≡ Ok y
unfolding optional_header_tests
optional_accepted f b p m two same magic room y = grind (arith, le_is, wide)

magic_tested : (t : Bool) (b : List ℕ) (q : ℕ) (x h : HeaderView) → t ≡ false → outcome (if t then [] else optional_header_tests b q) x ≡ Ok h → (le b q 2 == 0x10B || is_pe32_plus b q) ≡ true
unfolding optional_header_tests
magic_tested t b q x h is e = grind (arith, passed)

-- ---- the headers

header_is : (f b : List ℕ) (mode : ParseMode) (h : HeaderView) (m : Room) → Parsed b mode h →
    ((coff_header b ((dos_header b 0).pe_pointer + 4)).size_of_optional_header == 0) ≡ false → 64 ≤ (dos_header b 0).pe_pointer + 6 →
    m.place.entry ≡ (dos_header b 0).pe_pointer + 24 + directories_offset (is_pe32_plus b ((dos_header b 0).pe_pointer + 24)) + 8 * 2 →
    Same f b (dos_header b 0).pe_pointer m.place.entry (directories_end (header b)) → RoomRead f (dos_header b 0).pe_pointer m →
    header_at f mode ≡ Ok (headers_roomy m (header b))
unfolding header_at header_tests header
header_is f b mode h m a some far at_e s r =
    let p : ℕ = (dos_header b 0).pe_pointer in
    let q : ℕ = p + 24 in
    let e : ℕ = m.place.entry in
    let t : Bool = (coff_header b (p + 4)).size_of_optional_header == 0 in
    let n : ℕ = directories_end_after p (if t then None else Some (optional_header b q)) in
    let to = end_is t b p some in
    let magic = magic_tested t b q (header b) h some a.optional in
    let optional : optional_header f q ≡ optional_roomy m (optional_header b q) = grind (arith, optional_64, plus, optional_32, minus) in
    let accepted = optional_accepted f b q m (in_count f b p e n s q 2 (omega arith) (omega arith)) optional magic (omega (arith, to, s.inside)) in
    let stub : slice_range f 64 p ≡ slice_range b 64 p = same_range f b 64 p (omega (arith, s.sum, s.entry, s.inside)) (omega (arith, s.sum, s.entry, s.inside_before)) (λ k from lt. s.stub k (omega (arith, lt))) in
    rw (
      dos_same f b p e n s far,
      stub,
      in_stub f b p e n s p 4 (omega arith),
      coff_same f b p e n m s r,
      some,
      le_is 64 (length f) (omega (arith, far, s.sum, s.entry, s.inside)),
      a.magic,
      a.pointer,
      le_is (p + 4) (length f) (omega (arith, s.sum, s.entry, s.inside)),
      a.signature,
      le_is (p + 4 + 20) (length f) (omega (arith, s.sum, s.entry, s.inside)),
      optional,
    ) (accepted _)

header_with : (f b : List ℕ) (mode : ParseMode) (h : HeaderView) (o : OptionalHeaderView) (m : Room) → Parsed b mode h → (header b).optional_header ≡ Some o → 64 ≤ (header b).dos_header.pe_pointer →
    m.place.entry ≡ (header b).dos_header.pe_pointer + 24 + directories_offset (o.standard_fields.magic == 0x20B) + 8 * 2 →
    Same f b (header b).dos_header.pe_pointer m.place.entry (directories_end (header b)) → RoomRead f (header b).dos_header.pe_pointer m → header_at f mode ≡ Ok (headers_roomy m (header b))
unfolding header
header_with f b mode h o m a e far at_e s r = grind (arith, some_optional, magic_is, header_is)

pub headers_with_room : (f b : List ℕ) (mode : ParseMode) (h : HeaderView) (o : OptionalHeaderView) (m : Room) → header_at b mode ≡ Ok h → h.optional_header ≡ Some o → 64 ≤ h.dos_header.pe_pointer →
    m.place.entry ≡ h.dos_header.pe_pointer + 24 + directories_offset (o.standard_fields.magic == 0x20B) + 8 * 2 →
    Same f b h.dos_header.pe_pointer m.place.entry (directories_end h) → RoomRead f h.dos_header.pe_pointer m → header_at f mode ≡ Ok (headers_roomy m h)
headers_with_room f b mode h o m e some far at_e s r = grind (arith, parsed, header_with)

-- ---- the file that is written

-- before n a byte of f that is in no field is that of b
pub same_by : (m : Room) (f b : List ℕ) (q n : ℕ) → ((k : ℕ) → k < n → Past (q + 6) 2 k → Past (q + 12) 4 k → Past (q + 32) 4 k → Past (q + 80) 4 k → Past m.place.entry 8 k → get_or f k 0 ≡ get_or b k 0) → q + 92 ≤ m.place.entry → m.place.entry + 8 ≤ n →
    n ≤ length f → n ≤ length b → Same f b q m.place.entry n
same_by m f b q n stays sum from inside inside_before = grind (arith, range_below, range_past)

-- b has the bytes of c before the section header
same_of : (h : HeaderView) (m : Room) (c b : List ℕ) (n : ℕ) → ((k : ℕ) → k < m.place.row → get_or c k 0 ≡ get_or b k 0) → length c ≡ length b → RoomLies h m (length c) → m.place.entry + 8 ≤ n → n ≤ m.place.row → Same (roomy_file h m c) b h.dos_header.pe_pointer m.place.entry n
same_of h m c b n head size l from to =
    same_by m (roomy_file h m c) b h.dos_header.pe_pointer n
    (λ k lt a i d e f. roomy_byte h m c k l (omega (arith, lt, to, l.row)) a i d e f (range_below m.place.row 40 k (omega (arith, lt, to))) ∙ head k (omega (arith, lt, to)))
    l.sum from (omega (arith, roomy_length h m c l, to, l.row, l.end)) (omega (arith, to, l.row, l.end, size))

pub small_room : (b : List ℕ) (h : HeaderView) (xs : List Leaf) (m : Room) → AreBytes b → HasRoom b h xs m → SmallRoom m
small_room b h xs m small x = grind (arith, length_of_section)

pub read_of : (b : List ℕ) (h : HeaderView) (xs : List Leaf) (m : Room) → AreBytes b → HasRoom b h xs m → RoomRead (roomy_file h m b) h.dos_header.pe_pointer m
read_of b h xs m small x =
    room_read h m b (room_lies b h xs m x) (small_room b h xs m small x)

-- where the entry is, and the directories end
pub record EntryLies (h : HeaderView) (o : OptionalHeaderView) (m : Room) : Type 0 where
  pub at : m.place.entry ≡ h.dos_header.pe_pointer + 24 + directories_offset (o.standard_fields.magic == 0x20B) + 8 * 2
  pub inside : m.place.entry + 8 ≤ directories_end h
  pub end : directories_end h ≤ m.place.row

pub entry_lies : (b : List ℕ) (h : HeaderView) (xs : List Leaf) (m : Room) (x : HasRoom b h xs m) → EntryLies h x.of.optional m
entry_lies b h xs m x = grind arith

-- the headers of an image b are parsed in a file c with the same headers, when it has room
pub roomy_headers : (mode : ParseMode) (c b : List ℕ) (h : HeaderView) (xs : List Leaf) (m : Room) → AreBytes c → ((k : ℕ) → k < m.place.row → get_or c k 0 ≡ get_or b k 0) → length c ≡ length b → header_at b mode ≡ Ok h → HasRoom c h xs m →
    header_at (roomy_file h m c) mode ≡ Ok (headers_roomy m h)
roomy_headers mode c b h xs m small head size e x =
    let lies : EntryLies h x.of.optional m = entry_lies c h xs m x in
    headers_with_room (roomy_file h m c) b mode h x.of.optional m e x.of.some x.fits.dos lies.at (same_of h m c b (directories_end h) head size (room_lies c h xs m x) lies.inside lies.end) (read_of c h xs m small x)
