-- The section headers of an image whose resources changed, and the section map by them.
use Rattle.std.proofs.Common.{◌≡◌, ℕ, ◌+◌, ◌*◌, ◌^◌, ◌<◌, ◌≤◌, ◌≢◌, ◌==◌, ◌&&◌, ◌||◌, Bool, true, false, List, length, get_or, set, Option, Some, None, refl, ap, sym, ◌∙◌, ⊎_elim, arith}
use Rattle.pe_rewrite.proofs.Cited.{nat_le, nat_lt, if◌then◌else◌, is_power_of_two, list_all, cases_lt, nat_tests, HeaderView}
use Rattle.pe_rewrite.proofs.Cited.{section_table, each, covers, offset_by, offset_of, raw_start, rounded_up, raw_end}
use Rattle.pe_rewrite.proofs.Cited.{sections_offset, SectionTable, positive, Leaf, one_set, one_fails, range_below, range_past}
use Rattle.pe_rewrite.proofs.Cited.{Lies, edited_file, grown_size, is_written, data_apart, headers_end, is_apart, is_outside}
use Rattle.pe_rewrite.proofs.Cited.{pages_end, section_header, section_headers, sections_apart, resized, Place, both}
use Rattle.pe_rewrite.proofs.Mapped.{Covered, Found, by_each, covered_end, covered_of, covers_none, first_some, found_each, maps_alike, offset_none}
use Rattle.pe_rewrite.proofs.Placed.{Made, Placed, place_lies, place_made}
use Rattle.pe_rewrite.proofs.Stays.{byte_stays, number_stays}
use Rattle.pe_rewrite.proofs.Writes.{length-edited}
use Rattle.pe_rewrite.proofs.WrittenHeaders.{grown_read, row_resized}

-- ---- each section header

-- of an edited file: where the resource section is, and what its header was
pub record IsEdited (b : List ℕ) (h : HeaderView) (xs : List Leaf) (p : Place) (i : ℕ) : Type 0 where
  pub lies : Lies h p (length b)
  pub made : Made p.section.virtual_address p.length xs
  pub below : i < h.coff_header.number_of_sections
  pub row : sections_offset h + 40 * i ≡ p.row
  pub section : section_header b h i ≡ p.section

pub is_edited : (b : List ℕ) (h : HeaderView) (xs : List Leaf) (p : Place) (x : Placed b h xs p) → IsEdited b h xs p x.index
is_edited b h xs p x = grind (arith, place_lies, place_made)

-- a byte of the section table stays, unless it is of the size in memory
pub row_byte : (b : List ℕ) (h : HeaderView) (xs : List Leaf) (p : Place) (i k : ℕ) → IsEdited b h xs p i → sections_offset h ≤ k → k < headers_end h → (nat_le (p.row + 8) k && nat_lt k (p.row + 8 + 4)) ≡ false →
    get_or (edited_file h p xs b) k 0 ≡ get_or b k 0
row_byte b h xs p i k d from lt row = grind (arith, byte_stays, range_below, range_past)

pub resized_same : (n : ℕ) (s : SectionTable) → n ≡ s.virtual_size → resized n s ≡ s
resized_same n s e = ap (λ (k : ℕ). resized k s) e

-- a section header of which all bytes stay
pub row_same : (f b : List ℕ) (p : ℕ) → p + 40 ≤ length f → p + 40 ≤ length b → ((j : ℕ) → p ≤ j → j < p + 40 → get_or f j 0 ≡ get_or b j 0) → section_table f p ≡ section_table b p
unfolding section_table
row_same f b p room inside same = grind (arith, row_resized, resized_same, number_stays)

-- another section header stays
pub other_row : (b : List ℕ) (h : HeaderView) (xs : List Leaf) (p : Place) (i k : ℕ) → IsEdited b h xs p i → k < h.coff_header.number_of_sections → k ≢ i → section_header (edited_file h p xs b) h k ≡ section_header b h k
unfolding section_table
other_row b h xs p i k d lt other =
    grind (arith, range_below, range_past, cases_lt, length-edited, row_resized, row_byte, resized_same, number_stays)

-- that of the resource section has its size in memory
pub own_row : (b : List ℕ) (h : HeaderView) (xs : List Leaf) (p : Place) (i : ℕ) → p.section.virtual_size < 2 ^ 32 → IsEdited b h xs p i → section_header (edited_file h p xs b) h i ≡ resized (grown_size p) p.section
own_row b h xs p i small d = grind (arith, length-edited, row_resized, row_byte, grown_read)

pub rows_edited : (b : List ℕ) (h : HeaderView) (xs : List Leaf) (p : Place) (i : ℕ) → p.section.virtual_size < 2 ^ 32 → IsEdited b h xs p i → section_headers (edited_file h p xs b) h ≡ set (section_headers b h) i (resized (grown_size p) p.section)
rows_edited b h xs p i small d = grind (arith, one_set, own_row, other_row)

-- ---- the section map

pub out_of : (s : SectionTable) (a : ℕ) → is_outside s a ≡ true → s.virtual_address ≤ a → pages_end s ≤ a
out_of s a out from = grind (arith, nat_tests, out, from)

-- outside of the resource section it is the same
pub map_stays : (b : List ℕ) (h : HeaderView) (xs : List Leaf) (p : Place) (i : ℕ) (resolve : Bool) (alignment a : ℕ) → p.section.virtual_size < 2 ^ 32 → IsEdited b h xs p i → is_outside p.section a ≡ true →
    offset_of resolve alignment (section_headers (edited_file h p xs b) h) a ≡ offset_of resolve alignment (section_headers b h) a
map_stays b h xs p i resolve alignment a small d out =
    let f : ℕ → SectionTable = section_header (edited_file h p xs b) h in
    let g : ℕ → SectionTable = section_header b h in
    let own : (s : SectionTable) → s.virtual_address ≡ p.section.virtual_address → s.size_of_raw_data ≡ p.section.size_of_raw_data → offset_by alignment a s ≡ None =
    λ s at size. offset_none alignment a s (λ from. let past : pages_end p.section ≤ a = out_of p.section a out (omega (arith, at, from)) in omega (arith, at, size, past)) in
    maps_alike resolve alignment f g h.coff_header.number_of_sections a
    (λ k lt. ⊎_elim
    (λ (less : k < i). ap (offset_by alignment a) (other_row b h xs p i k d lt (omega (arith, less))))
    (λ (from : i ≤ k). ⊎_elim
    (λ (more : i < k). ap (offset_by alignment a) (other_row b h xs p i k d lt (omega (arith, more))))
    (λ (to : k ≤ i).
    let is : k ≡ i = omega (arith, from, to) in
    let row : f k ≡ resized (grown_size p) p.section = ap f is ∙ own_row b h xs p i small d in
    let old : g k ≡ p.section = ap g is ∙ d.section in
    own (f k) (ap (λ (s : SectionTable). s.virtual_address) row) (ap (λ (s : SectionTable). s.size_of_raw_data) row)
    ∙ sym (own (g k) (ap (λ (s : SectionTable). s.virtual_address) old) (ap (λ (s : SectionTable). s.size_of_raw_data) old)))
    (cases_lt i k))
    (cases_lt k i))

-- ---- the bytes of other sections

pub all_by : (t : Bool) (p : ℕ → Bool) (n k : ℕ) → k < n → p k ≡ t → list_all p (each (λ j. j) n) ≡ true → p k ≡ true
all_by true p n k lt e all = e
all_by false p n k lt e all = absurd (let no : list_all p (each (λ j. j) n) ≡ false = one_fails p (λ j. j) n k lt e in cc)

pub other_index : (k i : ℕ) (t : Bool) → k ≢ i → (k == i || t) ≡ true → t ≡ true
other_index k i t other e = grind (arith, nat_tests, other, e)

pub each_apart : (b : List ℕ) (h : HeaderView) (alignment i k : ℕ) → sections_apart b h alignment i ≡ true → k < h.coff_header.number_of_sections → k ≢ i → data_apart alignment h (section_header b h i) (section_header b h k) ≡ true
each_apart b h alignment i k all lt other =
    other_index k i (data_apart alignment h (section_header b h i) (section_header b h k)) other (all_by (is_apart b h alignment i k) (is_apart b h alignment i) h.coff_header.number_of_sections k lt refl all)

-- what a section with data is that is apart from the resource section
pub record Apart (alignment : ℕ) (h : HeaderView) (s u : SectionTable) : Type 0 where
  pub headers : headers_end h ≤ raw_start u
  pub raw : (nat_le (rounded_up (raw_end u) alignment) s.pointer_to_raw_data || nat_le (raw_end s) (raw_start u)) ≡ true
  pub pages : (nat_le (pages_end u) s.virtual_address || nat_le (pages_end s) u.virtual_address) ≡ true

pub apart_if : (alignment : ℕ) (h : HeaderView) (s u : SectionTable) → (u.size_of_raw_data == 0) ≡ false → data_apart alignment h s u ≡ true → Apart alignment h s u
apart_if alignment h s u e d = grind (arith, nat_tests, both)

data_past : (x y z w k : ℕ) → (nat_le x y || nat_le z w) ≡ true → k < x → w ≤ k → (nat_le y k && nat_lt k z) ≡ false
data_past x y z w k e i j = grind (arith, nat_tests, e, i, j)

pub four_false : (a b c d : Bool) → a ≡ false → b ≡ false → c ≡ false → d ≡ false → (a || (b || (c || d))) ≡ false
four_false a b c d i j k l = rw (i, j, k, l) refl

-- a file offset that another section is mapped to is not written
other_unwritten : (t : Bool) (alignment a q n : ℕ) (h : HeaderView) (p : Place) (u : SectionTable) → Lies h p n → 0 < alignment → (u.size_of_raw_data == 0) ≡ t → data_apart alignment h p.section u ≡ true → Covered alignment a q u → is_written h p q ≡ false
other_unwritten t alignment a q n h p u l some e d c =
    grind (arith, nat_tests, covers_none, apart_if, covered_end, four_false, range_past)

-- an RVA outside of the resource section is mapped to a byte that is not written
pub mapped_unwritten : (b : List ℕ) (h : HeaderView) (xs : List Leaf) (p : Place) (alignment i a q : ℕ) → IsEdited b h xs p i → is_power_of_two alignment ≡ true → sections_apart b h alignment i ≡ true → is_outside p.section a ≡ true →
    offset_of true alignment (section_headers b h) a ≡ Some q → is_written h p q ≡ false
mapped_unwritten b h xs p alignment i a q d power apart out e =
    let g : ℕ → Option ℕ = λ k. offset_by alignment a (section_header b h k) in
    let n : ℕ = h.coff_header.number_of_sections in
    let found : Found g n q = found_each g n q (sym (by_each true alignment (section_header b h) n a ∙ ap (λ (t : Bool). if t then first_some (each g n) else None) power) ∙ e) in
    let u : SectionTable = section_header b h found.index in
    let c : Covered alignment a q u = covered_of alignment a q u found.is in
    let other : found.index ≢ i = λ is.
    let own : u ≡ p.section = ap (section_header b h) is ∙ d.section in
    let no : covers alignment a u ≡ false = ap (covers alignment a) own ∙ covers_none alignment a p.section (out_of p.section a out) in
    let yes : covers alignment a u ≡ true = c.covers in
    cc in
    other_unwritten (u.size_of_raw_data == 0) alignment a q (length b) h p u d.lies (positive alignment power) refl
    (ap (λ (s : SectionTable). data_apart alignment h s u) (sym d.section) ∙ each_apart b h alignment i found.index apart found.below other) c
