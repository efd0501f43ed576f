-- An image with room for resources has a place for them: an edit writes into it as into any other image.
use Rattle.std.proofs.Common.{◌≡◌, ℕ, zero, suc, ◌+◌, ◌*◌, ◌%◌, ◌<◌, ◌≤◌, ◌≢◌, ◌==◌, ◌&&◌, ◌||◌, Bool, true, false, List, length, get_or, max, refl, ap, sym, ◌∙◌, subst, ⊎_elim, arith}
use Rattle.pe_rewrite.proofs.Cited.{nat_le, nat_lt, list_all, cases_lt, nat_tests, get_or-set_other, get_or-set_same, length-set}
use Rattle.pe_rewrite.proofs.Cited.{AreBytes, le, absent_directory, HeaderView, OptionalHeaderView, directories_offset}
use Rattle.pe_rewrite.proofs.Cited.{section_table, each, raw_end, sections_offset, DataDirectory, SectionTable, Leaf, range_below}
use Rattle.pe_rewrite.proofs.Cited.{range_past, all_more, RoomLies, roomy_file, data_apart, directory_at, headers_end, is_apart}
use Rattle.pe_rewrite.proofs.Cited.{section_header, sections_apart, target_by, is_before, is_before_or_same, table_end, entry_of}
use Rattle.pe_rewrite.proofs.Cited.{headers_roomy, optional_roomy, Place, Target, Room, or_right}
use Rattle.pe_rewrite.proofs.Placed.{Made, Placed, SectionIs}
use Rattle.pe_rewrite.proofs.RoomBytes.{RoomRead, roomy_byte}
use Rattle.pe_rewrite.proofs.RoomHeaders.{EntryLies, entry_lies, read_of}
use Rattle.pe_rewrite.proofs.RoomWrites.{roomy_length}
use Rattle.pe_rewrite.proofs.Roomy.{HasRoom, room_lies, room_made}
use Rattle.pe_rewrite.proofs.Stays.{number_stays}
use Rattle.pe_rewrite.proofs.WrittenHeaders.{row_resized}
use Rattle.pe_rewrite.proofs.WrittenSections.{all_by, other_index, resized_same}

-- ---- the optional header

own_directory : (o : OptionalHeaderView) (m : Room) → 2 < length o.data_directories → directory_at (optional_roomy m o) 2 ≡ entry_of m.place
own_directory o m lt = get_or-set_same o.data_directories 2 (entry_of m.place) absent_directory lt

-- ---- the section table

pub record TableIs (b : List ℕ) (h : HeaderView) (xs : List Leaf) (m : Room) (x : HasRoom b h xs m) : Type 0 where
  pub count : m.number_of_sections ≡ max h.coff_header.number_of_sections (x.section.index + 1)
  pub row : m.place.row ≡ sections_offset h + 40 * x.section.index
  pub start : sections_offset h + 40 * m.number_of_sections ≤ m.place.section.pointer_to_raw_data
  pub end : m.place.section.pointer_to_raw_data ≤ m.end
  pub entry : m.place.entry + 8 ≤ sections_offset h
  pub address : m.place.section.virtual_address ≡ x.section.section.virtual_address
  pub pointer : m.place.section.pointer_to_raw_data ≡ x.section.section.pointer_to_raw_data
  pub size : m.place.section.size_of_raw_data ≡ x.section.section.size_of_raw_data + x.section.more

pub table_is : (b : List ℕ) (h : HeaderView) (xs : List Leaf) (m : Room) (x : HasRoom b h xs m) → TableIs b h xs m x
table_is b h xs m x = grind (arith, entry_lies)

-- the header of the section is that of the room
pub own_header : (b : List ℕ) (h : HeaderView) (xs : List Leaf) (m : Room) (x : HasRoom b h xs m) → AreBytes b → section_header (roomy_file h m b) (headers_roomy m h) x.section.index ≡ m.place.section
own_header b h xs m x small =
    let t : TableIs b h xs m x = table_is b h xs m x in
    let r : RoomRead (roomy_file h m b) h.dos_header.pe_pointer m = read_of b h xs m small x in
    ap (λ (p : ℕ). section_table (roomy_file h m b) p) (sym t.row) ∙ r.row

-- the other section headers stay
pub other_header : (b : List ℕ) (h : HeaderView) (xs : List Leaf) (m : Room) (x : HasRoom b h xs m) (k : ℕ) → k < h.coff_header.number_of_sections → k ≢ x.section.index → section_header (roomy_file h m b) (headers_roomy m h) k ≡ section_header b h k
unfolding section_table
other_header b h xs m x k lt other =
    let t : TableIs b h xs m x = table_is b h xs m x in
    let l : RoomLies h m (length b) = room_lies b h xs m x in
    let f : List ℕ = roomy_file h m b in
    let q : ℕ = sections_offset h + 40 * k in
    let apart : (j : ℕ) → q ≤ j → j < q + 40 → (nat_le m.place.row j && nat_lt j (m.place.row + 40)) ≡ false = λ j from to. ⊎_elim
    (λ (less : k < x.section.index). range_below m.place.row 40 j (omega (arith, to, less, t.row)))
    (λ (more : x.section.index ≤ k). range_past m.place.row 40 j (omega (arith, from, more, other, t.row)))
    (cases_lt k x.section.index) in
    let byte : (j : ℕ) → q ≤ j → j < q + 40 → get_or f j 0 ≡ get_or b j 0 = λ j from to. (grind (arith, table_is, room_lies, roomy_byte, range_past, apart j from to)) in
    let inside : q + 40 ≤ length b = omega (arith, lt, t.count, t.start, t.end, l.end) in
    row_resized f b q (omega (arith, roomy_length h m b l, inside)) inside (λ j from to out. byte j from to)
    ∙ resized_same (le f (q + 8) 4) (section_table b q) (number_stays f b (q + 8) (λ j from to. byte j (omega (arith, from)) (omega (arith, to))))

-- ---- the other sections are apart

-- each other section is before it
pub before_last : (b : List ℕ) (h : HeaderView) (xs : List Leaf) (m : Room) (x : HasRoom b h xs m) (k : ℕ) → k < h.coff_header.number_of_sections → k ≢ x.section.index → is_before x.target.file_alignment (table_end h x.section.index) x.section.section (section_header b h k) ≡ true
before_last b h xs m x k lt other =
    other_index k x.section.index (is_before x.target.file_alignment (table_end h x.section.index) x.section.section (section_header b h k)) other
    (all_by (is_before_or_same b h x.target x.section k) (is_before_or_same b h x.target x.section) h.coff_header.number_of_sections k lt refl x.fits.last)

pub all_each : (p : ℕ → Bool) (n : ℕ) → ((k : ℕ) → k < n → p k ≡ true) → list_all p (each (λ j. j) n) ≡ true
unfolding each
all_each p zero h = refl
all_each p (suc n) h = all_more p (λ j. j) n (all_each p n (λ k lt. h k (omega (arith, lt)))) (h n (omega arith))

same_true : (k i : ℕ) (u : Bool) → k ≡ i → (k == i || u) ≡ true
same_true k i u e = let is : (k == i) ≡ true = grind (arith, nat_tests, e) in ap (λ (t : Bool). t || u) is

one_apart : (b : List ℕ) (h : HeaderView) (xs : List Leaf) (m : Room) (x : HasRoom b h xs m) → AreBytes b → (k : ℕ) → k < m.number_of_sections → is_apart (roomy_file h m b) (headers_roomy m h) x.target.file_alignment x.section.index k ≡ true
one_apart b h xs m x small k lt =
    let t : TableIs b h xs m x = table_is b h xs m x in
    let g : List ℕ = roomy_file h m b in
    let h2 : HeaderView = headers_roomy m h in
    let i : ℕ = x.section.index in
    let a : ℕ = x.target.file_alignment in
    let rest : Bool = data_apart a h2 (section_header g h2 i) (section_header g h2 k) in
    let apart : k ≢ i → rest ≡ true = λ other.
    let old : k < h.coff_header.number_of_sections = omega (arith, lt, t.count, other, x.is.index) in
    let u : SectionTable = section_header b h k in
    ap (λ (s : SectionTable). data_apart a h2 s (section_header g h2 k)) (own_header b h xs m x small)
    ∙ ap (λ (v : SectionTable). data_apart a h2 m.place.section v) (other_header b h xs m x k old other)
    ∙ subst (λ (r : Room). data_apart a (headers_roomy r h) r.place.section u ≡ true) x.value (grind (arith, before_last b h xs m x k old other)) in
    ⊎_elim
    (λ (less : k < i). or_right (k == i) rest (apart (omega (arith, less))))
    (λ (from : i ≤ k). ⊎_elim
    (λ (more : i < k). or_right (k == i) rest (apart (omega (arith, more))))
    (λ (to : k ≤ i). same_true k i rest (omega (arith, from, to)))
    (cases_lt i k))
    (cases_lt k i)

-- ---- the place

place_is : (e row n : ℕ) (s : SectionTable) (p : Place) → e ≡ p.entry → row ≡ p.row → s ≡ p.section → n ≡ p.length → ◌≡◌ {A = Place} (record { entry = e; row = row; section = s; length = n }) p
place_is e row n s p i j k l = rw (i, j, k, l) refl

section_is : (b : List ℕ) (h : HeaderView) (xs : List Leaf) (m : Room) (x : HasRoom b h xs m) → AreBytes b → (alignment : ℕ) → alignment ≡ x.target.file_alignment → SectionIs (roomy_file h m b) (headers_roomy m h) alignment x.section.index m.place.length
section_is b h xs m x small alignment same =
    let t : TableIs b h xs m x = table_is b h xs m x in
    let l : RoomLies h m (length b) = room_lies b h xs m x in
    let g : List ℕ = roomy_file h m b in
    let h2 : HeaderView = headers_roomy m h in
    let own : m.place.section ≡ section_header g h2 x.section.index = sym (own_header b h xs m x small) in
    let after : headers_end h2 ≤ m.place.section.pointer_to_raw_data = t.start in
    let inside : raw_end m.place.section ≤ length g = omega (arith, l.section, l.end, roomy_length h m b l) in
    record {
      after = subst (λ (s : SectionTable). headers_end h2 ≤ s.pointer_to_raw_data) own after;
      sector = ap (λ (s : SectionTable). s.pointer_to_raw_data % 512 == 0) (sym own) ∙ ap (λ (n : ℕ). n % 512 == 0) t.pointer ∙ x.fits.sector;
      inside = subst (λ (s : SectionTable). raw_end s ≤ length g) own inside;
      apart = ap (λ (n : ℕ). sections_apart g h2 n x.section.index) same ∙ all_each (is_apart g h2 x.target.file_alignment x.section.index) m.number_of_sections (one_apart b h xs m x small);
      room = subst (λ (s : SectionTable). m.place.length ≤ s.size_of_raw_data) own l.room;
    }

pub roomy_placed : (b : List ℕ) (h : HeaderView) (xs : List Leaf) (m : Room) → AreBytes b → HasRoom b h xs m → Placed (roomy_file h m b) (headers_roomy m h) xs m.place
roomy_placed b h xs m small x =
    let t : TableIs b h xs m x = table_is b h xs m x in
    let o : OptionalHeaderView = x.of.optional in
    let g : List ℕ = roomy_file h m b in
    let h2 : HeaderView = headers_roomy m h in
    let lies : EntryLies h o m = entry_lies b h xs m x in
    let rva : (directory_at (optional_roomy m o) 2).virtual_address ≡ m.place.section.virtual_address = ap (λ (d : DataDirectory). d.virtual_address) (own_directory o m x.of.many) in
    let own : section_header g h2 x.section.index ≡ m.place.section = own_header b h xs m x small in
    record {
      target = target_by h.dos_header.pe_pointer (optional_roomy m o);
      length_of = m.place.length;
      index = x.section.index;
      of = grind (arith, length-set, get_or-set_other);
      leaves = subst (λ (a : ℕ). Made a m.place.length xs) (sym rva) (room_made b h xs m x);
      headers = grind (arith, table_is, room_lies, length-set, roomy_length);
      section = record { below = omega (arith, t.count); address = ap (λ (s : SectionTable). s.virtual_address) own ∙ sym rva };
      free = section_is b h xs m x small o.windows_fields.file_alignment (ap (λ (y : Target). y.file_alignment) x.of.value);
      value = place_is (h.dos_header.pe_pointer + 24 + directories_offset (o.standard_fields.magic == 0x20B) + 16) (sections_offset h + 40 * x.section.index) m.place.length (section_header g h2 x.section.index) m.place
          (omega (arith, lies.at)) (sym t.row) own refl;
    }
