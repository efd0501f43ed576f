-- The laws, of a file that an edit writes.
use Rattle.std.proofs.Common.{◌≡◌, ℕ, ◌+◌, ◌-◌, ◌*◌, ◌^◌, ◌<◌, ◌%◌, ◌==◌, Bool, true, false, List, length, get_or, map, set, Option, Some, Result, Ok, ap, sym, ◌∙◌, subst, arith, ◌≤◌, ◌/◌, ◌||◌, [], ◌∷◌, ◌++◌, replicate, refl}
use Rattle.pe_rewrite.proofs.Cited.{nat_le, is_power_of_two, nat_tests, take_all, div-mul-le_self, AreBytes, range, splice}
use Rattle.pe_rewrite.proofs.Cited.{HeaderView, OptionalHeaderView, header_at, offset_of, section_map, covers, raw_start}
use Rattle.pe_rewrite.proofs.Cited.{SectionTable, le_is, positive, range_in_range, file_bytes, tree_leaves, TreeRefusal}
use Rattle.pe_rewrite.proofs.Cited.{ResourceLeaf, first_entries, leaves_in, read_item, read_leaf, Each, Fits, Leaf, Numbers}
use Rattle.pe_rewrite.proofs.Cited.{layout_of, section, section_length, Stands, left, part, edited_file, in_place, grown_size}
use Rattle.pe_rewrite.proofs.Cited.{is_written, sum_of, Lies, filled, is_outside, place_of, section_headers, sections_apart}
use Rattle.pe_rewrite.proofs.Cited.{data_apart, section_header, edited_headers, mapped_item, resized, mapped_leaf, Place}
use Rattle.pe_rewrite.proofs.Cited.{section_table, le_small, sections_offset, ParseOptions, ParseMode, length_of_section}
use Rattle.pe_rewrite.proofs.Cited.{section_read, accepted_fit, same_some, same_ok, passed}
use Rattle.pe_rewrite.proofs.RoomBytes.{here}
use Rattle.pe_rewrite.proofs.Mapped.{covers_none, maps_by}
use Rattle.pe_rewrite.proofs.Placed.{Placed, placed_value, place_lies, place_made, placed, Made}
use Rattle.pe_rewrite.proofs.Writes.{length-edited}
use Rattle.pe_rewrite.proofs.WrittenHeaders.{header_edited, data_range}
use Rattle.pe_rewrite.proofs.WrittenSections.{IsEdited, is_edited, map_stays, mapped_unwritten, rows_edited, apart_if, each_apart, other_row, own_row}
use Rattle.pe_rewrite.proofs.Stays.{unwritten_stays}
use Rattle.pe_core.proofs.Reaches as reaches

-- The leaves that are read of an image whose resources changed.
-- ---- the bytes

front_of : (b r : List ℕ) (s : SectionTable) → s.pointer_to_raw_data ≤ length b → Stands (splice b s.pointer_to_raw_data (filled s r)) s.pointer_to_raw_data r
unfolding filled
front_of b r s h = left (splice b s.pointer_to_raw_data (r ++ replicate (s.size_of_raw_data - length r) 0)) s.pointer_to_raw_data r (replicate (s.size_of_raw_data - length r) 0) (here b s.pointer_to_raw_data (r ++ replicate (s.size_of_raw_data - length r) 0) h)

-- the resources stand in the file that is written
pub data_read : (h : HeaderView) (p : Place) (xs : List Leaf) (b : List ℕ) → Lies h p (length b) → Made p.section.virtual_address p.length xs →
    range (edited_file h p xs b) p.section.pointer_to_raw_data p.length ≡ section p.section.virtual_address xs
data_read h p xs b l m = grind (arith, length-edited, data_range, part, front_of)

-- ---- the section map

pages_by : (x y z w a : ℕ) → (nat_le x y || nat_le z w) ≡ true → y ≤ a → a < z → w ≤ a → x ≤ a
pages_by x y z w a e i j k = grind (arith, nat_tests, e, i, j, k)

-- the resource section covers its resources
own_cover : (alignment a length_of size : ℕ) (s : SectionTable) → 0 < alignment → length_of ≤ s.size_of_raw_data → s.virtual_address ≤ a → a < s.virtual_address + length_of → length_of ≤ size → covers alignment a (resized size s) ≡ true
own_cover alignment a n size s some fits from to grown =
    let d : ℕ = a - s.virtual_address in
    let down : d / 4096 * 4096 ≤ d = div-mul-le_self d 4096 in
    let start : raw_start s ≤ s.pointer_to_raw_data = div-mul-le_self s.pointer_to_raw_data 512 in
    let end : (d + raw_start s) / alignment * alignment ≤ d + raw_start s = div-mul-le_self (d + raw_start s) alignment in
    reaches.inside alignment a (resized size s) some from (omega (arith, down, fits, from, to)) (λ more. omega (arith, down, from, to, grown)) (omega (arith, end, start, fits, from, to))

-- an RVA of the resources is mapped to its place in the section's data
pub maps_resources : (b : List ℕ) (h : HeaderView) (xs : List Leaf) (p : Place) (alignment i a : ℕ) → p.section.virtual_size < 2 ^ 32 → IsEdited b h xs p i → is_power_of_two alignment ≡ true → (p.section.pointer_to_raw_data % 512 == 0) ≡ true → sections_apart b h alignment i ≡ true →
    p.section.virtual_address ≤ a → a < p.section.virtual_address + p.length → offset_of true alignment (section_headers (edited_file h p xs b) h) a ≡ Some (p.section.pointer_to_raw_data + (a - p.section.virtual_address))
maps_resources b h xs p alignment i a small d power sector apart from to =
    let f : ℕ → SectionTable = section_header (edited_file h p xs b) h in
    let own : f i ≡ resized (grown_size p) p.section = own_row b h xs p i small d in
    let grown : p.length ≤ grown_size p = omega arith in
    let at : raw_start p.section ≡ p.section.pointer_to_raw_data = grind (arith, nat_tests) in
    let offset : a - (f i).virtual_address + raw_start (f i) ≡ p.section.pointer_to_raw_data + (a - p.section.virtual_address) =
    ap (λ (s : SectionTable). a - s.virtual_address + raw_start s) own ∙ omega (arith, at) in
    maps_by alignment f h.coff_header.number_of_sections a i power d.below
    (ap (covers alignment a) own ∙ own_cover alignment a p.length (grown_size p) p.section (positive alignment power) d.lies.room from to grown)
    (λ k lt other.
    let free : data_apart alignment h (section_header b h i) (section_header b h k) ≡ true = each_apart b h alignment i k apart lt other in
    ap (covers alignment a) (other_row b h xs p i k d lt other)
    ∙ grind (arith, nat_tests, covers_none, apart_if, pages_by, ap (λ (s : SectionTable). data_apart alignment h s (section_header b h k)) (sym d.section) ∙ free))
    ∙ ap (λ (n : ℕ). Some n) offset

-- ---- ranges of the resources

bytes_at : (f : List ℕ) (n p : ℕ) (o : Option ℕ) → o ≡ Some p → p + n ≤ length f → file_bytes f n o ≡ Ok (range f p n)
bytes_at f n p o e h = rw (e, le_is (p + n) (length f) h) refl

-- some of the resources, by the section map
pub content_mapped : (b : List ℕ) (h : HeaderView) (xs : List Leaf) (p : Place) (alignment i a n : ℕ) → p.section.virtual_size < 2 ^ 32 → IsEdited b h xs p i → is_power_of_two alignment ≡ true → (p.section.pointer_to_raw_data % 512 == 0) ≡ true → sections_apart b h alignment i ≡ true →
    p.section.virtual_address ≤ a → 0 < n → a + n ≤ p.section.virtual_address + p.length →
    file_bytes (edited_file h p xs b) n (offset_of true alignment (section_headers (edited_file h p xs b) h) a) ≡ Ok (range (section p.section.virtual_address xs) (a - p.section.virtual_address) n)
content_mapped b h xs p alignment i a n small d power sector apart from some to =
    let f : List ℕ = edited_file h p xs b in
    let q : ℕ = a - p.section.virtual_address in
    let size : length f ≡ length b = length-edited h p xs b d.lies d.made.size in
    let inside : p.section.pointer_to_raw_data + p.length ≤ length f = omega (arith, size, d.lies.end, d.lies.room) in
    let within : q + n ≤ p.length = omega (arith, from, to) in
    bytes_at f n (p.section.pointer_to_raw_data + q) _ (maps_resources b h xs p alignment i a small d power sector apart from (omega (arith, some, to))) (omega (arith, inside, within))
    ∙ ap (λ (l : List ℕ). Ok l) (range_in_range f p.section.pointer_to_raw_data p.length q n inside within ∙ ap (λ (l : List ℕ). range l q n) (data_read h p xs b d.lies d.made))

-- ---- leaves

-- the map leads to the resources
abbrev pub LeadsTo : (ℕ → Option ℕ) → List ℕ → List ℕ → ℕ → Type 0
LeadsTo map_rva f s rva = (a n : ℕ) → rva ≤ a → 0 < n → a + n ≤ rva + length s → file_bytes f n (map_rva a) ≡ Ok (range s (a - rva) n)

leaf_mapped : (map_rva : ℕ → Option ℕ) (f s : List ℕ) (rva : ℕ) (y : ResourceLeaf) (x : Leaf) → LeadsTo map_rva f s rva → read_leaf s rva y ≡ Ok x → mapped_leaf map_rva f s y ≡ Ok x
unfolding read_leaf mapped_leaf
leaf_mapped map_rva f s rva y x maps e = grind (arith, passed, nat_tests)

item_mapped : (map_rva : ℕ → Option ℕ) (f s : List ℕ) (rva : ℕ) (y : Result ResourceLeaf TreeRefusal) (x : Leaf) → LeadsTo map_rva f s rva → read_item s rva y ≡ Ok x → mapped_item map_rva f s y ≡ Ok x
item_mapped map_rva f s rva y x maps e = grind (arith, leaf_mapped)

items_alike : {X Y R : Type 0} (g k : X → Result Y R) (items : List X) (xs : List Y) → ((y : X) (x : Y) → g y ≡ Ok x → k y ≡ Ok x) → map g items ≡ map (λ x. Ok x) xs → map k items ≡ map (λ x. Ok x) xs
items_alike g k [] [] same e = refl
items_alike g k [] (x ∷ xs) same e = absurd cc
items_alike g k (y ∷ items) [] same e = absurd cc
items_alike {X} {Y} {R} g k (y ∷ items) (x ∷ xs) same e =
    let first : g y ≡ Ok x = cc in
    let rest : map g items ≡ map (λ z. Ok z) xs = cc in
    ap (λ (r : Result Y R). r ∷ map k items) (same y x first) ∙ ap (λ (l : List (Result Y R)). Ok x ∷ l) (items_alike g k items xs same rest)

-- the leaves that a walk finds, with their contents by the section map, are those that its section is read as
pub leaves_mapped : (map_rva : ℕ → Option ℕ) (f s : List ℕ) (rva : ℕ) (xs : List Leaf) → LeadsTo map_rva f s rva → leaves_in s rva ≡ map (λ x. Ok x) xs → map (mapped_item map_rva f s) (tree_leaves s (first_entries s)) ≡ map (λ x. Ok x) xs
leaves_mapped map_rva f s rva xs maps e = items_alike (read_item s rva) (mapped_item map_rva f s) (tree_leaves s (first_entries s)) xs (λ y x. item_mapped map_rva f s rva y x maps) e

-- the file that is written
pub file_is : (b : List ℕ) (h : HeaderView) (xs : List Leaf) (p : Place) (f : List ℕ) → place_of b h xs ≡ Ok p → in_place b h xs ≡ Ok f → edited_file h p xs b ≡ f
file_is b h xs p f e i = same_ok (in_place b h xs) (edited_file h p xs b) f (placed_value b h xs p e) i

-- f is the file that an edit writes into this place
pub record IsFile (b : List ℕ) (h : HeaderView) (xs : List Leaf) (p : Place) (f : List ℕ) : Type 0 where
  pub placed : Placed b h xs p
  pub file : edited_file h p xs b ≡ f

pub is_file : (b : List ℕ) (h : HeaderView) (xs : List Leaf) (p : Place) (f : List ℕ) → place_of b h xs ≡ Ok p → in_place b h xs ≡ Ok f → IsFile b h xs p f
is_file b h xs p f e i = record { placed = placed b h xs p e; file = file_is b h xs p f e i }

-- the size of its section in memory has 32 bits
pub size_small : (b : List ℕ) (h : HeaderView) (xs : List Leaf) (p : Place) → AreBytes b → Placed b h xs p → p.section.virtual_size < 2 ^ 32
unfolding section_table
size_small b h xs p small x = grind (arith, le_small)

pub length_stays_placed : (b : List ℕ) (h : HeaderView) (xs : List Leaf) (p : Place) (f : List ℕ) → IsFile b h xs p f → length f ≡ length b
length_stays_placed b h xs p f y = grind (arith, length-edited, place_lies, place_made)

pub bytes_stay_placed : (b : List ℕ) (h : HeaderView) (xs : List Leaf) (p : Place) (f : List ℕ) (k : ℕ) → IsFile b h xs p f → is_written h p k ≡ false → get_or f k 0 ≡ get_or b k 0
bytes_stay_placed b h xs p f k y w = grind (arith, unwritten_stays, place_lies, place_made)

pub headers_parsed_placed : (mode : ParseMode) (b : List ℕ) (h : HeaderView) (xs : List Leaf) (p : Place) (f : List ℕ) → header_at b mode ≡ Ok h → IsFile b h xs p f → header_at f mode ≡ Ok (edited_headers p (sum_of h f) h)
headers_parsed_placed mode b h xs p f parsed y = grind (arith, header_edited)

-- ---- the map

pub map_is_same_placed : (o : ParseOptions) (b : List ℕ) (h : HeaderView) (xs : List Leaf) (p : Place) (f : List ℕ) (alignment a : ℕ) → p.section.virtual_size < 2 ^ 32 → IsFile b h xs p f → is_outside p.section a ≡ true →
    section_map o (section_headers f h) alignment a ≡ section_map o (section_headers b h) alignment a
map_is_same_placed o b h xs p f alignment a small y out = grind (arith, map_stays, is_edited)

-- the resources have some bytes
some_bytes : (xs : List Leaf) → 0 < section_length xs
unfolding section_length layout_of
some_bytes xs = omega arith

-- the optional header and its file alignment
alignment_is : (b : List ℕ) (h : HeaderView) (xs : List Leaf) (p : Place) (x : Placed b h xs p) (w : OptionalHeaderView) → h.optional_header ≡ Some w → x.target.file_alignment ≡ w.windows_fields.file_alignment
alignment_is b h xs p x w some = grind (arith, same_some)

-- the image passed these tests
pub record Tested (b : List ℕ) (h : HeaderView) (xs : List Leaf) (p : Place) (alignment i : ℕ) : Type 0 where
  pub edited : IsEdited b h xs p i
  pub power : is_power_of_two alignment ≡ true
  pub sector : (p.section.pointer_to_raw_data % 512 == 0) ≡ true
  pub apart : sections_apart b h alignment i ≡ true

tested : (b : List ℕ) (h : HeaderView) (xs : List Leaf) (p : Place) (x : Placed b h xs p) (alignment : ℕ) → x.target.file_alignment ≡ alignment → Tested b h xs p alignment x.index
tested b h xs p x alignment same = grind (arith, is_edited)

pub mapped_byte_placed : (o : ParseOptions) (b : List ℕ) (h : HeaderView) (xs : List Leaf) (p : Place) (f : List ℕ) (w : OptionalHeaderView) (a q : ℕ) → IsFile b h xs p f → h.optional_header ≡ Some w → o.resolve_rva ≡ true → is_outside p.section a ≡ true →
    section_map o (section_headers b h) w.windows_fields.file_alignment a ≡ Some q → get_or f q 0 ≡ get_or b q 0
mapped_byte_placed o b h xs p f w a q y some resolves out m =
    let x : Placed b h xs p = y.placed in
    let n : ℕ = w.windows_fields.file_alignment in
    let t : Tested b h xs p n x.index = tested b h xs p x n (alignment_is b h xs p x w some) in
    let resolved : offset_of true n (section_headers b h) a ≡ Some q = ap (λ (r : Bool). offset_of r n (section_headers b h) a) (sym resolves) ∙ m in
    bytes_stay_placed b h xs p f q y (mapped_unwritten b h xs p n x.index a q t.edited t.power t.apart out resolved)

leads_to : (b : List ℕ) (h : HeaderView) (xs : List Leaf) (p : Place) (alignment i : ℕ) (resolve : Bool) → resolve ≡ true → p.section.virtual_size < 2 ^ 32 → Tested b h xs p alignment i →
    LeadsTo (offset_of resolve alignment (section_headers (edited_file h p xs b) h)) (edited_file h p xs b) (section p.section.virtual_address xs) p.section.virtual_address
leads_to b h xs p alignment i resolve resolves small t = grind (arith, content_mapped)

pub directory_read_placed : (o : ParseOptions) (b : List ℕ) (h : HeaderView) (xs : List Leaf) (p : Place) (f : List ℕ) (w : OptionalHeaderView) → p.section.virtual_size < 2 ^ 32 → IsFile b h xs p f → h.optional_header ≡ Some w → o.resolve_rva ≡ true →
    file_bytes f p.length (section_map o (section_headers f h) w.windows_fields.file_alignment p.section.virtual_address) ≡ Ok (section p.section.virtual_address xs)
directory_read_placed o b h xs p f w small y some resolves =
    grind (arith, tested, alignment_is, some_bytes, length_of_section, leads_to, take_all)

pub leaves_read_placed : (o : ParseOptions) (b : List ℕ) (h : HeaderView) (xs : List Leaf) (p : Place) (f s : List ℕ) (w : OptionalHeaderView) → p.section.virtual_size < 2 ^ 32 → Each Numbers xs → IsFile b h xs p f → h.optional_header ≡ Some w → o.resolve_rva ≡ true → s ≡ section p.section.virtual_address xs →
    map (mapped_item (section_map o (section_headers f h) w.windows_fields.file_alignment) f s) (tree_leaves s (first_entries s)) ≡ map (λ x. Ok x) xs
leaves_read_placed o b h xs p f s w small numbers y some resolves is =
    let x : Placed b h xs p = y.placed in
    let t : Tested b h xs p w.windows_fields.file_alignment x.index = tested b h xs p x w.windows_fields.file_alignment (alignment_is b h xs p x w some) in
    let rva : ℕ = p.section.virtual_address in
    let map_rva : List ℕ → ℕ → Option ℕ = λ g. section_map o (section_headers g h) w.windows_fields.file_alignment in
    let fits : Fits rva xs = accepted_fit rva xs t.edited.made.accepted numbers in
    let read = leaves_mapped (map_rva (edited_file h p xs b)) (edited_file h p xs b) (section rva xs) rva xs (leads_to b h xs p w.windows_fields.file_alignment x.index o.resolve_rva resolves small t) (section_read rva xs fits) in
    subst (λ (l : List ℕ). map (mapped_item (map_rva f) f l) (tree_leaves l (first_entries l)) ≡ map (λ z. Ok z) xs) (sym is)
    (subst (λ (g : List ℕ). map (mapped_item (map_rva g) g (section rva xs)) (tree_leaves (section rva xs) (first_entries (section rva xs))) ≡ map (λ z. Ok z) xs) y.file read)

-- ---- where the resources are

pub record DirectoryThere (o : ParseOptions) (f : List ℕ) (ss : List SectionTable) (alignment : ℕ) (p : Place) (s : List ℕ) (count : ℕ) : Type 0 where
  pub mapped : section_map o ss alignment p.section.virtual_address ≡ Some p.section.pointer_to_raw_data
  pub here : range f p.section.pointer_to_raw_data p.length ≡ s
  pub inside : p.section.pointer_to_raw_data + p.length ≤ length f
  pub size : length s ≡ p.length
  pub bytes : file_bytes f p.length (section_map o ss alignment p.section.virtual_address) ≡ Ok s
  pub few : count < 65536

pub directory_there_placed : (o : ParseOptions) (b : List ℕ) (h : HeaderView) (xs : List Leaf) (p : Place) (f : List ℕ) (w : OptionalHeaderView) → p.section.virtual_size < 2 ^ 32 → IsFile b h xs p f → h.optional_header ≡ Some w → o.resolve_rva ≡ true →
    DirectoryThere o f (section_headers f h) w.windows_fields.file_alignment p (section p.section.virtual_address xs) (length xs)
directory_there_placed o b h xs p f w small y some resolves =
    let x : Placed b h xs p = y.placed in
    let n : ℕ = w.windows_fields.file_alignment in
    let t : Tested b h xs p n x.index = tested b h xs p x n (alignment_is b h xs p x w some) in
    let rva : ℕ = p.section.virtual_address in
    let d : IsEdited b h xs p x.index = t.edited in
    let size : length (section rva xs) ≡ p.length = d.made.size in
    let more : 0 < p.length = omega (arith, some_bytes xs, length_of_section rva xs, size) in
    let at : offset_of true n (section_headers (edited_file h p xs b) h) rva ≡ Some (p.section.pointer_to_raw_data + (rva - rva)) = maps_resources b h xs p n x.index rva small d t.power t.sector t.apart (omega arith) (omega (arith, more)) in
    let same : edited_file h p xs b ≡ f = y.file in
    record {
      mapped = subst (λ (g : List ℕ). section_map o (section_headers g h) n rva ≡ Some p.section.pointer_to_raw_data) same
          (ap (λ (r : Bool). offset_of r n (section_headers (edited_file h p xs b) h) rva) resolves ∙ at ∙ ap (λ (k : ℕ). Some k) (omega arith));
      here = subst (λ (g : List ℕ). range g p.section.pointer_to_raw_data p.length ≡ section rva xs) same (data_read h p xs b d.lies d.made);
      inside = omega (arith, length_stays_placed b h xs p f y, d.lies.end, d.lies.room);
      size = size;
      bytes = directory_read_placed o b h xs p f w small y some resolves;
      few = d.made.accepted.few;
    }

-- ---- by the definitions of the call

pub length_stays : (b : List ℕ) (h : HeaderView) (xs : List Leaf) (p : Place) (f : List ℕ) → place_of b h xs ≡ Ok p → in_place b h xs ≡ Ok f → length f ≡ length b
length_stays b h xs p f e i =
    length_stays_placed b h xs p f (is_file b h xs p f e i)

pub bytes_stay : (b : List ℕ) (h : HeaderView) (xs : List Leaf) (p : Place) (f : List ℕ) (k : ℕ) → place_of b h xs ≡ Ok p → in_place b h xs ≡ Ok f → is_written h p k ≡ false → get_or f k 0 ≡ get_or b k 0
bytes_stay b h xs p f k e i w =
    bytes_stay_placed b h xs p f k (is_file b h xs p f e i) w

pub headers_parsed : (mode : ParseMode) (b : List ℕ) (h : HeaderView) (xs : List Leaf) (p : Place) (f : List ℕ) → header_at b mode ≡ Ok h → place_of b h xs ≡ Ok p → in_place b h xs ≡ Ok f → header_at f mode ≡ Ok (edited_headers p (sum_of h f) h)
headers_parsed mode b h xs p f parsed e i =
    headers_parsed_placed mode b h xs p f parsed (is_file b h xs p f e i)

pub sections_parsed : (b : List ℕ) (h : HeaderView) (xs : List Leaf) (p : Place) (f : List ℕ) (i : ℕ) → AreBytes b → place_of b h xs ≡ Ok p → in_place b h xs ≡ Ok f → p.row ≡ sections_offset h + 40 * i → section_headers f h ≡ set (section_headers b h) i (resized (grown_size p) p.section)
sections_parsed b h xs p f i small e j row =
    grind (arith, is_edited, rows_edited, size_small b h xs p small (placed b h xs p e), is_file b h xs p f e j)

pub map_is_same : (o : ParseOptions) (b : List ℕ) (h : HeaderView) (xs : List Leaf) (p : Place) (f : List ℕ) (alignment a : ℕ) → AreBytes b → place_of b h xs ≡ Ok p → in_place b h xs ≡ Ok f → is_outside p.section a ≡ true →
    section_map o (section_headers f h) alignment a ≡ section_map o (section_headers b h) alignment a
map_is_same o b h xs p f alignment a small e j out =
    map_is_same_placed o b h xs p f alignment a (size_small b h xs p small (placed b h xs p e)) (is_file b h xs p f e j) out

pub mapped_byte : (o : ParseOptions) (b : List ℕ) (h : HeaderView) (xs : List Leaf) (p : Place) (f : List ℕ) (w : OptionalHeaderView) (a q : ℕ) → place_of b h xs ≡ Ok p → in_place b h xs ≡ Ok f → h.optional_header ≡ Some w → o.resolve_rva ≡ true → is_outside p.section a ≡ true →
    section_map o (section_headers b h) w.windows_fields.file_alignment a ≡ Some q → get_or f q 0 ≡ get_or b q 0
mapped_byte o b h xs p f w a q e j some resolves out m =
    mapped_byte_placed o b h xs p f w a q (is_file b h xs p f e j) some resolves out m

pub directory_read : (o : ParseOptions) (b : List ℕ) (h : HeaderView) (xs : List Leaf) (p : Place) (f : List ℕ) (w : OptionalHeaderView) → AreBytes b → place_of b h xs ≡ Ok p → in_place b h xs ≡ Ok f → h.optional_header ≡ Some w → o.resolve_rva ≡ true →
    file_bytes f p.length (section_map o (section_headers f h) w.windows_fields.file_alignment p.section.virtual_address) ≡ Ok (section p.section.virtual_address xs)
directory_read o b h xs p f w small e j some resolves =
    directory_read_placed o b h xs p f w (size_small b h xs p small (placed b h xs p e)) (is_file b h xs p f e j) some resolves
