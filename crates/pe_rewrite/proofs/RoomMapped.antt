-- The section map of an image whose resources are at its end, and the bytes that it leads to.
use Rattle.std.proofs.Common.{◌≡◌, ℕ, ◌+◌, ◌<◌, ◌≤◌, ◌≢◌, ◌==◌, Bool, true, false, List, length, get_or, Option, Some, None, refl, ap, sym, ◌∙◌, arith}
use Rattle.pe_rewrite.proofs.Cited.{if◌then◌else◌, is_power_of_two, nat_tests, AreBytes, HeaderView, each, covers, offset_by}
use Rattle.pe_rewrite.proofs.Cited.{offset_of, sections_offset, SectionTable, positive, Leaf, range_past, RoomLies, roomy_file}
use Rattle.pe_rewrite.proofs.Cited.{is_outside, pages_end, section_header, section_headers, is_before, table_end, headers_roomy}
use Rattle.pe_rewrite.proofs.Cited.{Room}
use Rattle.pe_rewrite.proofs.Mapped.{Covered, Found, by_each, covered_end, covered_of, covers_none, first_some, found_each, maps_but_one, offset_none}
use Rattle.pe_rewrite.proofs.RoomBytes.{roomy_byte}
use Rattle.pe_rewrite.proofs.RoomPlaced.{TableIs, before_last, other_header, own_header, table_is}
use Rattle.pe_rewrite.proofs.Roomy.{HasRoom, room_lies}
use Rattle.pe_rewrite.proofs.WrittenSections.{out_of}

old_outside : (b : List ℕ) (h : HeaderView) (xs : List Leaf) (m : Room) (x : HasRoom b h xs m) (a : ℕ) → is_outside m.place.section a ≡ true → x.section.section.virtual_address ≤ a → pages_end x.section.section ≤ a
old_outside b h xs m x a out from =
    let t : TableIs b h xs m x = table_is b h xs m x in
    omega (arith, t.address, t.size, out_of m.place.section a out (omega (arith, t.address, from)))

-- outside of the section the map is that of the image
pub roomy_map : (b : List ℕ) (h : HeaderView) (xs : List Leaf) (m : Room) (x : HasRoom b h xs m) (resolve : Bool) (alignment a : ℕ) → AreBytes b → is_outside m.place.section a ≡ true →
    offset_of resolve alignment (section_headers (roomy_file h m b) (headers_roomy m h)) a ≡ offset_of resolve alignment (section_headers b h) a
roomy_map b h xs m x resolve alignment a small out =
    let t : TableIs b h xs m x = table_is b h xs m x in
    let f : ℕ → SectionTable = section_header (roomy_file h m b) (headers_roomy m h) in
    let i : ℕ = x.section.index in
    maps_but_one resolve alignment f (section_header b h) m.number_of_sections h.coff_header.number_of_sections i a t.count x.is.index
    (λ k lt other. ap (offset_by alignment a) (other_header b h xs m x k lt other))
    (ap (offset_by alignment a) (own_header b h xs m x small) ∙ offset_none alignment a m.place.section (out_of m.place.section a out))
    (λ lt. ap (offset_by alignment a) (x.is.row lt) ∙ offset_none alignment a x.section.section (old_outside b h xs m x a out))

-- ---- the bytes of the other sections

-- a file offset that another section is mapped to is after the headers, and before the section's data
pub within : (t : Bool) (alignment end a q : ℕ) (s u : SectionTable) → 0 < alignment → (u.size_of_raw_data == 0) ≡ t → is_before alignment end s u ≡ true → Covered alignment a q u → (end ≤ q) × (q < s.pointer_to_raw_data)
within t alignment end a q s u some e d c = grind (arith, nat_tests, covers_none, covered_end)

pub roomy_mapped : (b : List ℕ) (h : HeaderView) (xs : List Leaf) (m : Room) (x : HasRoom b h xs m) (alignment a q : ℕ) → alignment ≡ x.target.file_alignment → is_power_of_two alignment ≡ true → is_outside m.place.section a ≡ true →
    offset_of true alignment (section_headers b h) a ≡ Some q → get_or (roomy_file h m b) q 0 ≡ get_or b q 0
roomy_mapped b h xs m x alignment a q same power out e =
    let g : ℕ → Option ℕ = λ k. offset_by alignment a (section_header b h k) in
    let n : ℕ = h.coff_header.number_of_sections in
    let found : Found g n q = found_each g n q (sym (by_each true alignment (section_header b h) n a ∙ ap (λ (t : Bool). if t then first_some (each g n) else None) power) ∙ e) in
    let u : SectionTable = section_header b h found.index in
    let c : Covered alignment a q u = covered_of alignment a q u found.is in
    let other : found.index ≢ x.section.index = λ is.
    let own : u ≡ x.section.section = ap (section_header b h) is ∙ x.is.row (omega (arith, is, found.below)) in
    let no : covers alignment a u ≡ false = ap (covers alignment a) own ∙ covers_none alignment a x.section.section (old_outside b h xs m x a out) in
    let yes : covers alignment a u ≡ true = c.covers in
    cc in
    let before : is_before alignment (table_end h x.section.index) x.section.section u ≡ true = ap (λ (j : ℕ). is_before j (table_end h x.section.index) x.section.section u) same ∙ before_last b h xs m x found.index found.below other in
    let w = within (u.size_of_raw_data == 0) alignment (table_end h x.section.index) a q x.section.section u (positive alignment power) refl before c in
    let t : TableIs b h xs m x = table_is b h xs m x in
    let l : RoomLies h m (length b) = room_lies b h xs m x in
    let p : ℕ = h.dos_header.pe_pointer in
    let from : sections_offset h ≤ q = omega (arith, w.0) in
    roomy_byte h m b q l (omega (arith, w.1, t.pointer, t.end)) (range_past (p + 6) 2 q (omega (arith, from, t.entry, l.sum))) (range_past (p + 12) 4 q (omega (arith, from, t.entry, l.sum)))
    (range_past (p + 32) 4 q (omega (arith, from, t.entry, l.sum))) (range_past (p + 80) 4 q (omega (arith, from, t.entry, l.sum))) (range_past m.place.entry 8 q (omega (arith, from, t.entry))) (range_past m.place.row 40 q (omega (arith, w.0, t.row)))
