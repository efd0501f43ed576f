-- The debug entries of a file that an edit writes with its resources at the end, and their data.
use Rattle.std.proofs.Common.{◌≡◌, ℕ, ◌+◌, ◌*◌, ◌%◌, ◌^◌, ◌<◌, ◌≤◌, true, List, length, get_or, take, drop, Some, Ok, refl, ap, sym, ◌∙◌, ⊎_elim, arith}
use Rattle.pe_rewrite.proofs.Cited.{cases_lt, nat_tests, ext_get_or, get_or-drop, length-drop, AreBytes, le, range, HeaderView}
use Rattle.pe_rewrite.proofs.Cited.{OptionalHeaderView, section_map, sections_offset, ParseOptions, le-same, le_small, Leaf}
use Rattle.pe_rewrite.proofs.Cited.{debug_entry_at, range_below, range_past, RoomLies, at_end, moved_pointer, pointer_at}
use Rattle.pe_rewrite.proofs.Cited.{with_pointers, debug_entries, directory_at, section_headers, moved, room_of, entries_at}
use Rattle.pe_rewrite.proofs.Cited.{entry_offset, moved_entry, Target, Room, same_some}
use Rattle.pe_rewrite.proofs.WrittenSections.{four_false}
use Rattle.pe_rewrite.proofs.Placed.{TargetIs}
use Rattle.pe_rewrite.proofs.Pointers.{byte_with, data_before_end, entries_end, entries_in, pointer_read, pointers_fit}
use Rattle.pe_rewrite.proofs.RoomBytes.{roomy_byte}
use Rattle.pe_rewrite.proofs.RoomImages.{IsMoved, bytes_after, is_moved, length_moved, roomy_stays}
use Rattle.pe_rewrite.proofs.RoomPlaced.{TableIs, table_is}
use Rattle.pe_rewrite.proofs.Roomy.{HasDebug, has_debug, room_lies}

-- a byte of an entry is that of the image with the pointers moved
entry_byte : (b : List ℕ) (h : HeaderView) (xs : List Leaf) (m : Room) (f : List ℕ) (k j : ℕ) → IsMoved b h xs m f → k < m.debug.count → entry_offset m k ≤ j → j < entry_offset m k + 28 → get_or f j 0 ≡ get_or (with_pointers m b) j 0
entry_byte b h xs m f k j y lt from to =
    let c : List ℕ = with_pointers m b in
    let t : TableIs b h xs m y.old = table_is b h xs m y.old in
    let l : RoomLies h m (length c) = room_lies c h xs m y.room in
    let lie = entries_in b h xs m y.old (omega (arith, lt)) in
    let p : ℕ = h.dos_header.pe_pointer in
    let start : sections_offset h + 40 * m.number_of_sections ≤ j = omega (arith, lie.0, from) in
    let row : m.place.row + 40 ≤ j = omega (arith, start, t.row, t.count) in
    let entry : m.place.entry + 8 ≤ j = omega (arith, start, t.entry) in
    let end : j < m.place.section.pointer_to_raw_data = omega (arith, to, lt, lie.1) in
    roomy_stays b h xs m f j y
    (four_false _ _ _ _ (range_below m.place.section.pointer_to_raw_data m.place.section.size_of_raw_data j end) (range_past (m.place.row + 8) 4 j (omega (arith, row)))
    (range_past m.place.entry 8 j entry) (range_past (p + 88) 4 j (omega (arith, l.sum, entry))))
    ∙ roomy_byte h m c j l (omega (arith, end, data_before_end b h xs m y.old)) (range_past (p + 6) 2 j (omega (arith, l.sum, entry))) (range_past (p + 12) 4 j (omega (arith, l.sum, entry)))
    (range_past (p + 32) 4 j (omega (arith, l.sum, entry))) (range_past (p + 80) 4 j (omega (arith, l.sum, entry))) (range_past m.place.entry 8 j entry) (range_past m.place.row 40 j row)

-- a byte of another field is that of the image
field_byte : (b : List ℕ) (h : HeaderView) (xs : List Leaf) (m : Room) (f : List ℕ) (k j : ℕ) → IsMoved b h xs m f → k < m.debug.count → entry_offset m k ≤ j → j < entry_offset m k + 24 → get_or f j 0 ≡ get_or b j 0
field_byte b h xs m f k j y lt from to =
    entry_byte b h xs m f k j y lt from (omega (arith, to))
    ∙ byte_with b h xs m j y.old
    (λ i below. ⊎_elim
    (λ (less : i < k). range_past (pointer_at m.debug i) 4 j (omega (arith, less, from)))
    (λ (more : k ≤ i). range_below (pointer_at m.debug i) 4 j (omega (arith, more, to)))
    (cases_lt i k))

field : (b : List ℕ) (h : HeaderView) (xs : List Leaf) (m : Room) (f : List ℕ) (k q n : ℕ) → IsMoved b h xs m f → k < m.debug.count → q + n ≤ 24 → le f (entry_offset m k + q) n ≡ le b (entry_offset m k + q) n
field b h xs m f k q n y lt fits =
    le-same f b (entry_offset m k + q) (entry_offset m k + q) n (λ j small. field_byte b h xs m f k (entry_offset m k + q + j) y lt (omega arith) (omega (arith, fits, small)))

pointer : (b : List ℕ) (h : HeaderView) (xs : List Leaf) (m : Room) (f : List ℕ) (k : ℕ) → IsMoved b h xs m f → HasDebug b h m → k < m.debug.count → le f (entry_offset m k + 24) 4 ≡ moved_pointer m b k
pointer b h xs m f k y d lt =
    le-same f (with_pointers m b) (entry_offset m k + 24) (entry_offset m k + 24) 4 (λ j small. entry_byte b h xs m f k (entry_offset m k + 24 + j) y lt (omega arith) (omega (arith, small)))
    ∙ pointer_read m b m.debug.count b k (entries_end b h xs m y.old) (pointers_fit b h m d k lt) lt

pub small_reduced : (n : ℕ) → n < 2 ^ 32 → (n + 2 ^ 32) % 2 ^ 32 ≡ n
small_reduced n h = omega (arith, h)

pub entry_moved : (b : List ℕ) (h : HeaderView) (xs : List Leaf) (m : Room) (f : List ℕ) (k : ℕ) → AreBytes b → room_of b h xs ≡ Ok m → at_end b h xs ≡ Ok f → k < m.debug.count →
    debug_entry_at 0 f (entry_offset m k) ≡ moved_entry m (debug_entry_at 0 b (entry_offset m k))
unfolding debug_entry_at
entry_moved b h xs m f k small e i lt =
    let y : IsMoved b h xs m f = is_moved b h xs m f small e i in
    let d : HasDebug b h m = has_debug b h xs m e in
    let p : ℕ = entry_offset m k in
    let old : (le b (p + 24) 4 + 2 ^ 32) % 2 ^ 32 ≡ le b (p + 24) 4 = small_reduced (le b (p + 24) 4) (omega (arith, le_small b (p + 24) small)) in
    let new : (moved_pointer m b k + 2 ^ 32) % 2 ^ 32 ≡ moved_pointer m b k = small_reduced (moved_pointer m b k) (pointers_fit b h m d k lt) in
    rw (
      le-same f b p p 4 (λ j s. field_byte b h xs m f k (p + j) y lt (omega arith) (omega (arith, s))),
      field b h xs m f k 4 4 y lt (omega arith),
      field b h xs m f k 8 2 y lt (omega arith),
      field b h xs m f k 10 2 y lt (omega arith),
      field b h xs m f k 12 4 y lt (omega arith),
      field b h xs m f k 16 4 y lt (omega arith),
      field b h xs m f k 20 4 y lt (omega arith),
      pointer b h xs m f k y d lt,
      new,
      old,
    ) refl

-- what is after the sections' data, from a file offset on
pub rest_moved : (b : List ℕ) (h : HeaderView) (xs : List Leaf) (m : Room) (f : List ℕ) (p : ℕ) → AreBytes b → room_of b h xs ≡ Ok m → at_end b h xs ≡ Ok f → m.end ≤ p → drop (p + m.more) f ≡ drop p b
rest_moved b h xs m f p small e i from =
    ext_get_or 0 (drop (p + m.more) f) (drop p b) (length-drop (p + m.more) f ∙ omega (arith, length_moved b h xs m f small e i) ∙ sym (length-drop p b))
    (λ k lt. get_or-drop (p + m.more) f k 0 ∙ ap (λ (q : ℕ). get_or f q 0) (omega arith) ∙ bytes_after b h xs m f (p + k) small e i (omega (arith, from)) ∙ sym (get_or-drop p b k 0))

pub moved_on : (end more p : ℕ) → end ≤ p → moved end more p ≡ p + more
moved_on end more p from = grind (arith, nat_tests)

same_bytes : (f b : List ℕ) (q p n : ℕ) → drop q f ≡ drop p b → range f q n ≡ range b p n
same_bytes f b q p n e = ap (λ (k : ℕ). take k (drop q f)) (omega arith) ∙ ap (λ (l : List ℕ). take n l) e ∙ ap (λ (k : ℕ). take k (drop p b)) (omega arith)

pub data_moved : (b : List ℕ) (h : HeaderView) (xs : List Leaf) (m : Room) (f : List ℕ) (p n : ℕ) → AreBytes b → room_of b h xs ≡ Ok m → at_end b h xs ≡ Ok f → m.end ≤ p → range f (moved m.end m.more p) n ≡ range b p n
data_moved b h xs m f p n small e i from = ap (λ (q : ℕ). range f q n) (moved_on m.end m.more p from) ∙ same_bytes f b (p + m.more) p n (rest_moved b h xs m f p small e i from)

-- where they are
pub entries_there : (o : ParseOptions) (b : List ℕ) (h : HeaderView) (t : Target) (of : TargetIs h t) (w : OptionalHeaderView) (q : ℕ) → h.optional_header ≡ Some w → o.resolve_rva ≡ true →
    section_map o (section_headers b h) w.windows_fields.file_alignment (directory_at w 6).virtual_address ≡ Some q → debug_entries b h t ≡ entries_at q (directory_at w 6)
entries_there o b h t of w q some resolves there = grind (arith, same_some)

pub entries_are : (o : ParseOptions) (b : List ℕ) (h : HeaderView) (xs : List Leaf) (m : Room) (w : OptionalHeaderView) (q : ℕ) → room_of b h xs ≡ Ok m → h.optional_header ≡ Some w → o.resolve_rva ≡ true →
    section_map o (section_headers b h) w.windows_fields.file_alignment (directory_at w 6).virtual_address ≡ Some q → m.debug ≡ entries_at q (directory_at w 6)
entries_are o b h xs m w q e some resolves there =
    let d : HasDebug b h m = has_debug b h xs m e in
    d.debug ∙ d.entries ∙ entries_there o b h d.target d.of w q some resolves there
