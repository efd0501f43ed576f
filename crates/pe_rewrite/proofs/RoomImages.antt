-- The laws, of a file that an edit writes with its resources at the end.
use Rattle.std.proofs.Common.{◌≡◌, ℕ, suc, ◌+◌, ◌-◌, ◌*◌, ◌%◌, ◌^◌, ◌<◌, ◌≤◌, ◌≢◌, ◌&&◌, ◌||◌, ◌⊎◌, Bool, true, false, List, ◌∷◌, ◌++◌, length, get_or, take, drop, map, max, Option, Some, Result, Ok, ap, sym, ◌∙◌, ⊎_elim, arith, length-append}
use Rattle.pe_rewrite.proofs.Cited.{nat_le, nat_lt, is_power_of_two, option_map, cases_lt, ext_get_or, get_or_append_left}
use Rattle.pe_rewrite.proofs.Cited.{get_or-append_right, get_or-drop, get_or-take, length-drop, length-take-le, AreBytes, bytes_of}
use Rattle.pe_rewrite.proofs.Cited.{splice, HeaderView, OptionalHeaderView, header_at, ◌>>=◌, each, offset_of, section_map}
use Rattle.pe_rewrite.proofs.Cited.{sections_offset, ParseMode, ParseOptions, SectionTable, get_or-each, length-each, file_bytes}
use Rattle.pe_rewrite.proofs.Cited.{Each, Leaf, Numbers, section, range_past, RoomLies, at_end, edited_file, edited_of, grown_size}
use Rattle.pe_rewrite.proofs.Cited.{in_place, is_moved_over, is_pointer, is_written, moved_file, roomy_file, sum_by, sum_of}
use Rattle.pe_rewrite.proofs.Cited.{with_pointers, with_resources, with_sum, is_outside, place_of, section_header, section_headers}
use Rattle.pe_rewrite.proofs.Cited.{RewriteRefusal, room_of, edited_headers, entry_of, headers_roomy, leaves_of_image}
use Rattle.pe_rewrite.proofs.Cited.{optional_roomy, resized, sections_with, Place, Room, or_parts, same_some, same_ok}
use Rattle.pe_rewrite.proofs.Placed.{Placed, placed_value}
use Rattle.pe_rewrite.proofs.Pointers.{byte_with, head_with, length_with, pointer_missed, room_with, rows_with, small_with, tail_with}
use Rattle.pe_rewrite.proofs.RoomBytes.{roomy_byte, roomy_byte_after}
use Rattle.pe_rewrite.proofs.RoomHeaders.{roomy_headers, small_room}
use Rattle.pe_rewrite.proofs.RoomMapped.{roomy_map, roomy_mapped}
use Rattle.pe_rewrite.proofs.RoomPlaced.{TableIs, other_header, roomy_placed, table_is}
use Rattle.pe_rewrite.proofs.RoomWrites.{roomy_length}
use Rattle.pe_rewrite.proofs.Roomy.{HasRoom, has_room, room_lies}
use Rattle.pe_rewrite.proofs.WrittenImages.{IsFile, bytes_stay_placed, directory_read_placed, headers_parsed_placed, length_stays_placed, map_is_same_placed, mapped_byte_placed}
use Rattle.pe_rewrite.proofs.WrittenSections.{IsEdited, is_edited, other_row, own_row, four_false}
use Rattle.pe_rewrite.proofs.WrittenTrees.{leaves_found_placed}

-- ---- the file

-- the file is that with these leaves, if there is this room
moved_is : (b : List ℕ) (h : HeaderView) (xs : List Leaf) (m : Room) (f : List ℕ) → room_of b h xs ≡ Ok m → at_end b h xs ≡ Ok f → moved_file h m xs b ≡ f
moved_is b h xs m f e i = same_ok (at_end b h xs) (moved_file h m xs b) f (ap (λ (r : Result Room RewriteRefusal). r >>= λ n. Ok (moved_file h n xs b)) e) i

-- the checksum is by the same field
pub sum_roomy : (p : ℕ) (o : Option OptionalHeaderView) (m : Room) (f : List ℕ) → sum_by p (option_map (optional_roomy m) o) f ≡ sum_by p o f
sum_roomy p o m f = grind arith

pub file_roomy : (h : HeaderView) (m : Room) (f : List ℕ) → with_sum (headers_roomy m h) f ≡ with_sum h f
unfolding with_sum
file_roomy h m f = ap (λ (n : ℕ). splice f (h.dos_header.pe_pointer + 88) (bytes_of 4 n)) (sum_roomy h.dos_header.pe_pointer h.optional_header m f)

alignment_of : (b : List ℕ) (h : HeaderView) (xs : List Leaf) (m : Room) (x : HasRoom b h xs m) (w : OptionalHeaderView) → h.optional_header ≡ Some w → w.windows_fields.file_alignment ≡ x.target.file_alignment
alignment_of b h xs m x w some = grind (arith, same_some)

-- f is the file with the leaves in this room
pub record IsMoved (b : List ℕ) (h : HeaderView) (xs : List Leaf) (m : Room) (f : List ℕ) : Type 0 where
  pub old : HasRoom b h xs m
  pub small : AreBytes (with_pointers m b)
  pub room : HasRoom (with_pointers m b) h xs m
  pub file : IsFile (roomy_file h m (with_pointers m b)) (headers_roomy m h) xs m.place f

pub is_moved : (b : List ℕ) (h : HeaderView) (xs : List Leaf) (m : Room) (f : List ℕ) → AreBytes b → room_of b h xs ≡ Ok m → at_end b h xs ≡ Ok f → IsMoved b h xs m f
is_moved b h xs m f small e i =
    let old : HasRoom b h xs m = has_room b h xs m e in
    let c : List ℕ = with_pointers m b in
    let now : AreBytes c = small_with b h xs m old small in
    let x : HasRoom c h xs m = room_with b h xs m small old in
    record {
      old = old;
      small = now;
      room = x;
      file = record {
        placed = roomy_placed c h xs m now x;
        file = file_roomy h m (with_resources m.place (section m.place.section.virtual_address xs) (roomy_file h m c)) ∙ moved_is b h xs m f e i;
      };
    }

size_in_memory : (b : List ℕ) (h : HeaderView) (xs : List Leaf) (m : Room) → AreBytes b → HasRoom b h xs m → m.place.section.virtual_size < 2 ^ 32
size_in_memory b h xs m small x = (small_room b h xs m small x).row.virtual_size

-- ---- what stays, and what moves

pub length_moved : (b : List ℕ) (h : HeaderView) (xs : List Leaf) (m : Room) (f : List ℕ) → AreBytes b → room_of b h xs ≡ Ok m → at_end b h xs ≡ Ok f → length f ≡ length b + m.more
length_moved b h xs m f small e i =
    let y : IsMoved b h xs m f = is_moved b h xs m f small e i in
    let c : List ℕ = with_pointers m b in
    length_stays_placed (roomy_file h m c) (headers_roomy m h) xs m.place f y.file ∙ roomy_length h m c (room_lies c h xs m y.room)
    ∙ ap (λ (n : ℕ). n + m.more) (length_with b h xs m y.old)

-- a byte of the file with room, in no field that changes, is that of the file that is written
pub roomy_stays : (b : List ℕ) (h : HeaderView) (xs : List Leaf) (m : Room) (f : List ℕ) (k : ℕ) → IsMoved b h xs m f → is_written h m.place k ≡ false → get_or f k 0 ≡ get_or (roomy_file h m (with_pointers m b)) k 0
roomy_stays b h xs m f k y out = bytes_stay_placed (roomy_file h m (with_pointers m b)) (headers_roomy m h) xs m.place f k y.file out

pub six_of : (a b c d e w : Bool) → (a || (b || (c || (d || (e || w))))) ≡ false → (a ≡ false) × ((b ≡ false) × ((c ≡ false) × ((d ≡ false) × ((e ≡ false) × (w ≡ false)))))
six_of a b c d e w h = grind arith

pub bytes_before : (b : List ℕ) (h : HeaderView) (xs : List Leaf) (m : Room) (f : List ℕ) (k : ℕ) → AreBytes b → room_of b h xs ≡ Ok m → at_end b h xs ≡ Ok f → k < m.end → is_moved_over h m k ≡ false → get_or f k 0 ≡ get_or b k 0
bytes_before b h xs m f k small e i lt over =
    let y : IsMoved b h xs m f = is_moved b h xs m f small e i in
    let p : ℕ = h.dos_header.pe_pointer in
    let apart = or_parts (is_pointer m.debug k) _ over in
    let s = six_of (nat_le (p + 6) k && nat_lt k (p + 6 + 2)) (nat_le (p + 12) k && nat_lt k (p + 12 + 4)) (nat_le (p + 32) k && nat_lt k (p + 32 + 4)) (nat_le (p + 80) k && nat_lt k (p + 80 + 4)) (nat_le m.place.row k && nat_lt k (m.place.row + 40)) (is_written h m.place k) apart.1 in
    let c : List ℕ = with_pointers m b in
    roomy_stays b h xs m f k y s.1.1.1.1.1
    ∙ roomy_byte h m c k (room_lies c h xs m y.room) lt s.0 s.1.0 s.1.1.0 s.1.1.1.0 (grind (arith, s.1.1.1.1.1)) s.1.1.1.1.0
    ∙ byte_with b h xs m k y.old (pointer_missed m.debug k apart.0)

pub bytes_after : (b : List ℕ) (h : HeaderView) (xs : List Leaf) (m : Room) (f : List ℕ) (k : ℕ) → AreBytes b → room_of b h xs ≡ Ok m → at_end b h xs ≡ Ok f → m.end ≤ k → get_or f (k + m.more) 0 ≡ get_or b k 0
bytes_after b h xs m f k small e i from =
    let y : IsMoved b h xs m f = is_moved b h xs m f small e i in
    let c : List ℕ = with_pointers m b in
    let l : RoomLies h m (length c) = room_lies c h xs m y.room in
    let p : ℕ = h.dos_header.pe_pointer in
    let q : ℕ = k + m.more in
    roomy_stays b h xs m f q y
    (four_false _ _ _ _ (range_past m.place.section.pointer_to_raw_data m.place.section.size_of_raw_data q (omega (arith, l.section, from))) (range_past (m.place.row + 8) 4 q (omega (arith, l.row, from)))
    (range_past m.place.entry 8 q (omega (arith, l.entry, l.row, from))) (range_past (p + 88) 4 q (omega (arith, l.sum, l.entry, l.row, from))))
    ∙ roomy_byte_after h m c k l from ∙ tail_with b h xs m k y.old from

pub more_multiple : (b : List ℕ) (h : HeaderView) (xs : List Leaf) (m : Room) (w : OptionalHeaderView) → room_of b h xs ≡ Ok m → h.optional_header ≡ Some w → m.more % w.windows_fields.file_alignment ≡ 0
more_multiple b h xs m w e some =
    let x : HasRoom b h xs m = has_room b h xs m e in
    ap (λ (n : ℕ). n % w.windows_fields.file_alignment) (ap (λ (r : Room). r.more) (sym x.value)) ∙ ap (λ (u : ℕ). x.section.more % u) (alignment_of b h xs m x w some) ∙ x.is.multiple

-- ---- the headers

pub headers_moved : (mode : ParseMode) (b : List ℕ) (h : HeaderView) (xs : List Leaf) (m : Room) (f : List ℕ) → AreBytes b → header_at b mode ≡ Ok h → room_of b h xs ≡ Ok m → at_end b h xs ≡ Ok f → header_at f mode ≡ Ok (edited_headers m.place (sum_of h f) (headers_roomy m h))
headers_moved mode b h xs m f small parsed e i =
    let y : IsMoved b h xs m f = is_moved b h xs m f small e i in
    let c : List ℕ = with_pointers m b in
    let head : (k : ℕ) → k < m.place.row → get_or c k 0 ≡ get_or b k 0 = λ k lt. head_with b h xs m k y.old (omega (arith, lt, (table_is b h xs m y.old).row, (table_is b h xs m y.old).count)) in
    headers_parsed_placed mode (roomy_file h m c) (headers_roomy m h) xs m.place f (roomy_headers mode c b h xs m y.small head (length_with b h xs m y.old) parsed y.room) y.file
    ∙ ap (λ (n : ℕ). Ok (edited_headers m.place n (headers_roomy m h))) (sum_roomy h.dos_header.pe_pointer h.optional_header m f)

-- ---- the sections

list_with : {X : Type 0} (f g : ℕ → X) (n m i : ℕ) (x : X) → m ≡ max n (i + 1) → i ≤ n → ((k : ℕ) → k < n → k ≢ i → f k ≡ g k) → f i ≡ x → each f m ≡ take i (each g n) ++ (x ∷ drop (i + 1) (each g n))
list_with f g n m i x count le same own =
    let l = each g n in
    let size : length l ≡ n = length-each g n in
    let start : length (take i l) ≡ i = length-take-le i l (omega (arith, size, le)) in
    let rest : length (drop (i + 1) l) ≡ n - (i + 1) = length-drop (i + 1) l ∙ ap (λ (k : ℕ). k - (i + 1)) size in
    let whole : length (take i l ++ (x ∷ drop (i + 1) l)) ≡ i + (1 + (n - (i + 1))) = length-append (take i l) (x ∷ drop (i + 1) l) ∙ omega (arith, start, rest) in
    ext_get_or x (each f m) (take i l ++ (x ∷ drop (i + 1) l)) (length-each f m ∙ omega (arith, count, le, whole))
    (λ k lt.
    let small : k < m = omega (arith, lt, length-each f m) in
    get_or-each f m k x small ∙ ⊎_elim
    (λ (less : k < i).
    let below : k < n = omega (arith, less, le) in
    same k below (omega (arith, less)) ∙ sym (get_or_append_left (take i l) (x ∷ drop (i + 1) l) x k (omega (arith, start, less)) ∙ get_or-take i l k x less ∙ get_or-each g n k x below))
    (λ (from : i ≤ k).
    let right : get_or (take i l ++ (x ∷ drop (i + 1) l)) k x ≡ get_or (x ∷ drop (i + 1) l) (k - i) x = get_or-append_right (take i l) (x ∷ drop (i + 1) l) i k x start from in
    ⊎_elim
    (λ (more : i < k).
    let below : k < n = omega (arith, small, count, more) in
    let next : k - i ≡ suc (k - i - 1) = omega (arith, more) in
    let there : (i + 1) + (k - i - 1) ≡ k = omega (arith, more) in
    same k below (omega (arith, more))
    ∙ sym (right ∙ ap (λ (j : ℕ). get_or (x ∷ drop (i + 1) l) j x) next ∙ get_or-drop (i + 1) l (k - i - 1) x ∙ ap (λ (j : ℕ). get_or l j x) there ∙ get_or-each g n k x below))
    (λ (to : k ≤ i).
    let is : k ≡ i = omega (arith, from, to) in
    let none : k - i ≡ 0 = omega (arith, is) in
    ap f is ∙ own ∙ sym (right ∙ ap (λ (j : ℕ). get_or (x ∷ drop (i + 1) l) j x) none))
    (cases_lt i k))
    (cases_lt k i))

sections_by : (b : List ℕ) (h : HeaderView) (xs : List Leaf) (m : Room) (x : HasRoom b h xs m) → AreBytes b → (i : ℕ) → m.place.row ≡ sections_offset h + 40 * i →
    section_headers (edited_file (headers_roomy m h) m.place xs (roomy_file h m b)) (headers_roomy m h) ≡ sections_with i (resized (grown_size m.place) m.place.section) (section_headers b h)
sections_by b h xs m x small i row =
    let t : TableIs b h xs m x = table_is b h xs m x in
    let g : List ℕ = roomy_file h m b in
    let h2 : HeaderView = headers_roomy m h in
    let p : Placed g h2 xs m.place = roomy_placed b h xs m small x in
    let d : IsEdited g h2 xs m.place p.index = is_edited g h2 xs m.place p in
    let at : p.index ≡ i = omega (arith, d.row, row) in
    let here : x.section.index ≡ i = omega (arith, t.row, row) in
    let f : ℕ → SectionTable = section_header (edited_file h2 m.place xs g) h2 in
    list_with f (section_header b h) h.coff_header.number_of_sections m.number_of_sections i (resized (grown_size m.place) m.place.section) (omega (arith, t.count, here)) (omega (arith, x.is.index, here))
    (λ k lt other. other_row g h2 xs m.place p.index k d (omega (arith, t.count, lt)) (omega (arith, other, at)) ∙ other_header b h xs m x k lt (omega (arith, other, here)))
    (ap f (sym at) ∙ own_row g h2 xs m.place p.index (size_in_memory b h xs m small x) d)

pub sections_moved : (b : List ℕ) (h : HeaderView) (xs : List Leaf) (m : Room) (f : List ℕ) (i : ℕ) → AreBytes b → room_of b h xs ≡ Ok m → at_end b h xs ≡ Ok f → m.place.row ≡ sections_offset h + 40 * i →
    section_headers f (headers_roomy m h) ≡ sections_with i (resized (grown_size m.place) m.place.section) (section_headers b h)
sections_moved b h xs m f i small e j row =
    let y : IsMoved b h xs m f = is_moved b h xs m f small e j in
    grind (arith, y.file.file, sections_by (with_pointers m b) h xs m y.room y.small i row, rows_with b h xs m y.old)

-- ---- the map

pub map_moved : (o : ParseOptions) (b : List ℕ) (h : HeaderView) (xs : List Leaf) (m : Room) (f : List ℕ) (alignment a : ℕ) → AreBytes b → room_of b h xs ≡ Ok m → at_end b h xs ≡ Ok f → is_outside m.place.section a ≡ true →
    section_map o (section_headers f (headers_roomy m h)) alignment a ≡ section_map o (section_headers b h) alignment a
map_moved o b h xs m f alignment a small e i out =
    let y : IsMoved b h xs m f = is_moved b h xs m f small e i in
    let c : List ℕ = with_pointers m b in
    map_is_same_placed o (roomy_file h m c) (headers_roomy m h) xs m.place f alignment a (size_in_memory c h xs m y.small y.room) y.file out
    ∙ roomy_map c h xs m y.room o.resolve_rva alignment a y.small out ∙ ap (λ (s : List SectionTable). section_map o s alignment a) (rows_with b h xs m y.old)

-- the optional header, by that of the image
some_roomy : (h : HeaderView) (m : Room) (w : OptionalHeaderView) → h.optional_header ≡ Some w → (headers_roomy m h).optional_header ≡ Some (optional_roomy m w)
some_roomy h m w some = ap (option_map (optional_roomy m)) some

pub byte_moved : (o : ParseOptions) (b : List ℕ) (h : HeaderView) (xs : List Leaf) (m : Room) (f : List ℕ) (w : OptionalHeaderView) (a q : ℕ) → AreBytes b → room_of b h xs ≡ Ok m → at_end b h xs ≡ Ok f → h.optional_header ≡ Some w → o.resolve_rva ≡ true → is_outside m.place.section a ≡ true →
    section_map o (section_headers b h) w.windows_fields.file_alignment a ≡ Some q → is_pointer m.debug q ≡ false → get_or f q 0 ≡ get_or b q 0
byte_moved o b h xs m f w a q small e i some resolves out mapped apart =
    let y : IsMoved b h xs m f = is_moved b h xs m f small e i in
    let c : List ℕ = with_pointers m b in
    let x : HasRoom c h xs m = y.room in
    let n : ℕ = w.windows_fields.file_alignment in
    let same : n ≡ x.target.file_alignment = alignment_of c h xs m x w some in
    let before : section_map o (section_headers c h) n a ≡ Some q = ap (λ (s : List SectionTable). section_map o s n a) (rows_with b h xs m y.old) ∙ mapped in
    let there : section_map o (section_headers (roomy_file h m c) (headers_roomy m h)) n a ≡ Some q = roomy_map c h xs m x o.resolve_rva n a y.small out ∙ before in
    let resolved : offset_of true n (section_headers c h) a ≡ Some q = ap (λ (r : Bool). offset_of r n (section_headers c h) a) (sym resolves) ∙ before in
    mapped_byte_placed o (roomy_file h m c) (headers_roomy m h) xs m.place f (optional_roomy m w) a q y.file (some_roomy h m w some) resolves out there
    ∙ roomy_mapped c h xs m x n a q same (ap is_power_of_two same ∙ x.headers.power) out resolved ∙ byte_with b h xs m q y.old (pointer_missed m.debug q apart)

-- ---- the leaves

pub directory_moved : (o : ParseOptions) (b : List ℕ) (h : HeaderView) (xs : List Leaf) (m : Room) (f : List ℕ) (w : OptionalHeaderView) → AreBytes b → room_of b h xs ≡ Ok m → at_end b h xs ≡ Ok f → h.optional_header ≡ Some w → o.resolve_rva ≡ true →
    file_bytes f m.place.length (section_map o (section_headers f (headers_roomy m h)) w.windows_fields.file_alignment m.place.section.virtual_address) ≡ Ok (section m.place.section.virtual_address xs)
directory_moved o b h xs m f w small e i some resolves =
    let y : IsMoved b h xs m f = is_moved b h xs m f small e i in
    directory_read_placed o (roomy_file h m (with_pointers m b)) (headers_roomy m h) xs m.place f (optional_roomy m w) (size_in_memory (with_pointers m b) h xs m y.small y.room) y.file (some_roomy h m w some) resolves

pub leaves_moved : (o : ParseOptions) (b : List ℕ) (h : HeaderView) (xs : List Leaf) (m : Room) (f : List ℕ) (w : OptionalHeaderView) → AreBytes b → Each Numbers xs → room_of b h xs ≡ Ok m → at_end b h xs ≡ Ok f → h.optional_header ≡ Some w → o.resolve_rva ≡ true →
    leaves_of_image o f (entry_of m.place) (section_headers f (headers_roomy m h)) w.windows_fields.file_alignment ≡ Ok (map (λ x. Ok x) xs)
leaves_moved o b h xs m f w small numbers e i some resolves =
    let y : IsMoved b h xs m f = is_moved b h xs m f small e i in
    leaves_found_placed o (roomy_file h m (with_pointers m b)) (headers_roomy m h) xs m.place f (optional_roomy m w) (size_in_memory (with_pointers m b) h xs m y.small y.room) numbers y.file (some_roomy h m w some) resolves

-- ---- which of the two an edit writes

pub one_of_two : (b : List ℕ) (h : HeaderView) (x : Leaf) (xs : List Leaf) (f : List ℕ) → edited_of b h (x ∷ xs) ≡ Ok f → (in_place b h (x ∷ xs) ≡ Ok f) ⊎ (at_end b h (x ∷ xs) ≡ Ok f)
one_of_two b h x xs f e = grind arith

-- in place wherever there is one
pub first_is_place : (b : List ℕ) (h : HeaderView) (x : Leaf) (xs : List Leaf) (p : Place) → place_of b h (x ∷ xs) ≡ Ok p → edited_of b h (x ∷ xs) ≡ in_place b h (x ∷ xs)
first_is_place b h x xs p e = grind (arith, placed_value)
