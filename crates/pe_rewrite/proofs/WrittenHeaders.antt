-- The headers and the section headers of an image whose resources changed.
use Rattle.std.proofs.Common.{◌≡◌, ℕ, ◌+◌, ◌*◌, ◌^◌, ◌<◌, ◌≤◌, ◌==◌, ◌&&◌, Bool, false, List, length, get_or, Ok, refl, ap, sym, ◌∙◌, arith}
use Rattle.pe_rewrite.proofs.Cited.{nat_le, nat_lt, slice_range, if◌then◌else◌, bytes_of, le, range, splice, HeaderView}
use Rattle.pe_rewrite.proofs.Cited.{OptionalHeaderView, directories_offset, header_at, data_directory, section_table}
use Rattle.pe_rewrite.proofs.Cited.{sections_offset, ParseMode, le-same, length-bytes_of, length-splice, Leaf, section}
use Rattle.pe_rewrite.proofs.Cited.{length_of_section, range_below, range_past, headers_change, same_range, Lies, edited_file}
use Rattle.pe_rewrite.proofs.Cited.{filled, grown_size, sum_of, with_resources, with_sum, section_header, edited_headers, entry_of}
use Rattle.pe_rewrite.proofs.Cited.{resized, Place, Target}
use Rattle.pe_sign.specs.Checksum.{checksum_of}
use Rattle.pe_sign.proofs.Agreement.{agree_splice, in_field, sum_same}
use Rattle.pe_rewrite.proofs.Placed.{Made, Placed, place_lies, place_made}
use Rattle.pe_rewrite.proofs.Stays.{byte_past, byte_stays, number_stays, number_there, sum_byte}
use Rattle.pe_rewrite.proofs.Writes.{length-filled, resources_length, sum_inside, sum_length}

-- ---- the checksum

sum_over : (g : List ℕ) (c s : ℕ) → c + 4 ≤ length g → checksum_of (splice g c (bytes_of 4 s)) c ≡ checksum_of g c
sum_over g c s room =
    let size : length (bytes_of 4 s) ≡ 4 = length-bytes_of 4 s in
    sum_same c (splice g c (bytes_of 4 s)) g (agree_splice (in_field c) g c (bytes_of 4 s) (omega (arith, size, room)) (λ k out. ap (λ (n : ℕ). nat_le c k && nat_lt k (c + n)) size ∙ out))

-- the checksum is that of the file with it
pub sum_stays : (h : HeaderView) (g : List ℕ) → h.dos_header.pe_pointer + 92 ≤ length g → sum_of h (with_sum h g) ≡ sum_of h g
unfolding with_sum
sum_stays h g room = grind (arith, sum_over)

small_checksum : (b : List ℕ) (c : ℕ) → checksum_of b c < 256 ^ 4
unfolding checksum_of
small_checksum b c = omega arith

small_by : (t : Bool) (n : ℕ) → n < 256 ^ 4 → (if t then 0 else n) < 256 ^ 4
small_by t n h = grind arith

pub sum_read : (h : HeaderView) (g : List ℕ) → h.dos_header.pe_pointer + 92 ≤ length g → le (with_sum h g) (h.dos_header.pe_pointer + 88) 4 ≡ sum_of h g
unfolding with_sum
sum_read h g room = grind (arith, number_there, small_by, small_checksum)

-- ---- the numbers that are written

outside_byte : (b s : List ℕ) (p k : ℕ) → p + length s ≤ length b → (nat_le p k && nat_lt k (p + length s)) ≡ false → get_or (splice b p s) k 0 ≡ get_or b k 0
outside_byte b s p k room out = byte_past b p s (length s) k refl room out

before : (b s : List ℕ) (q p : ℕ) → p + length s ≤ length b → q + 4 ≤ p → le (splice b p s) q 4 ≡ le b q 4
before b s q p room h = number_stays (splice b p s) b q (λ k from lt. outside_byte b s p k room (range_below p (length s) k (omega (arith, lt, h))))

after : (b s : List ℕ) (q p n : ℕ) → length s ≡ n → p + n ≤ length b → p + n ≤ q → le (splice b p s) q 4 ≡ le b q 4
after b s q p n e room h = number_stays (splice b p s) b q (λ k from lt. outside_byte b s p k (omega (arith, e, room)) (range_past p (length s) k (omega (arith, e, from, h))))

-- the file after the first three changes, and its length
abbrev with_data : Place → List ℕ → List ℕ → List ℕ
with_data p r b = splice b p.section.pointer_to_raw_data (filled p.section r)

abbrev with_row : Place → List ℕ → List ℕ → List ℕ
with_row p r b = splice (with_data p r b) (p.row + 8) (bytes_of 4 (grown_size p))

abbrev with_address : Place → List ℕ → List ℕ → List ℕ
with_address p r b = splice (with_row p r b) p.entry (bytes_of 4 p.section.virtual_address)

data_length : (h : HeaderView) (p : Place) (r b : List ℕ) → Lies h p (length b) → length r ≡ p.length → length (with_data p r b) ≡ length b
data_length h p r b l e = length-splice b p.section.pointer_to_raw_data (filled p.section r) (omega (arith, l.end, length-filled p.section r (omega (arith, e, l.room))))

row_length : (h : HeaderView) (p : Place) (r b : List ℕ) → Lies h p (length b) → length r ≡ p.length → length (with_row p r b) ≡ length b
row_length h p r b l e =
    let same = data_length h p r b l e in
    length-splice (with_data p r b) (p.row + 8) (bytes_of 4 (grown_size p)) (omega (arith, same, length-bytes_of 4 (grown_size p), l.row, l.raw, l.end)) ∙ same

entry_inside : (h : HeaderView) (p : Place) (n : ℕ) → Lies h p n → p.entry + 8 ≤ n
entry_inside h p n l = omega (arith, l.entry, l.table, l.row, l.raw, l.end)

address_length : (h : HeaderView) (p : Place) (r b : List ℕ) → Lies h p (length b) → length r ≡ p.length → length (with_address p r b) ≡ length b
address_length h p r b l e =
    let same = row_length h p r b l e in
    length-splice (with_row p r b) p.entry (bytes_of 4 p.section.virtual_address) (omega (arith, same, length-bytes_of 4 p.section.virtual_address, entry_inside h p (length b) l)) ∙ same

-- the numbers that are read, before the checksum is written
size_in : (h : HeaderView) (p : Place) (r b : List ℕ) → Lies h p (length b) → length r ≡ p.length → p.length < 256 ^ 4 → le (with_resources p r b) (p.entry + 4) 4 ≡ p.length
unfolding with_resources
size_in h p r b l e small = number_there (with_address p r b) (p.entry + 4) 4 p.length small (omega (arith, address_length h p r b l e, entry_inside h p (length b) l))

address_in : (h : HeaderView) (p : Place) (r b : List ℕ) → Lies h p (length b) → length r ≡ p.length → p.section.virtual_address < 256 ^ 4 → le (with_resources p r b) p.entry 4 ≡ p.section.virtual_address
unfolding with_resources
address_in h p r b l e small =
    before (with_address p r b) (bytes_of 4 p.length) p.entry (p.entry + 4) (omega (arith, address_length h p r b l e, length-bytes_of 4 p.length, entry_inside h p (length b) l)) (omega arith)
    ∙ number_there (with_row p r b) p.entry 4 p.section.virtual_address small (omega (arith, row_length h p r b l e, entry_inside h p (length b) l))

grown_in : (h : HeaderView) (p : Place) (r b : List ℕ) → Lies h p (length b) → length r ≡ p.length → grown_size p < 256 ^ 4 → le (with_resources p r b) (p.row + 8) 4 ≡ grown_size p
unfolding with_resources
grown_in h p r b l e small =
    let rows : p.entry + 8 ≤ p.row = omega (arith, l.entry, l.table) in
    after (with_address p r b) (bytes_of 4 p.length) (p.row + 8) (p.entry + 4) 4 (length-bytes_of 4 p.length) (omega (arith, address_length h p r b l e, entry_inside h p (length b) l)) (omega (arith, rows))
    ∙ after (with_row p r b) (bytes_of 4 p.section.virtual_address) (p.row + 8) p.entry 4 (length-bytes_of 4 p.section.virtual_address) (omega (arith, row_length h p r b l e, entry_inside h p (length b) l)) (omega (arith, rows))
    ∙ number_there (with_data p r b) (p.row + 8) 4 (grown_size p) small (omega (arith, data_length h p r b l e, l.row, l.raw, l.end))

-- ---- the headers

-- before the section table a byte stays that is in neither field
field_stays : (h : HeaderView) (p : Place) (r b : List ℕ) (k : ℕ) → Lies h p (length b) → length r ≡ p.length → k < sections_offset h → (nat_le p.entry k && nat_lt k (p.entry + 8)) ≡ false →
    (nat_le (h.dos_header.pe_pointer + 88) k && nat_lt k (h.dos_header.pe_pointer + 88 + 4)) ≡ false → get_or (with_sum h (with_resources p r b)) k 0 ≡ get_or b k 0
field_stays h p r b k l e lt entry sum = grind (arith, byte_stays, range_below)

edited_size : (h : HeaderView) (p : Place) (r b : List ℕ) → Lies h p (length b) → length r ≡ p.length → length (with_sum h (with_resources p r b)) ≡ length b
edited_size h p r b l e =
    let same = resources_length h p r b l e in
    sum_length h (with_resources p r b) (omega (arith, same, sum_inside h p (length b) l)) ∙ same

-- the numbers are small
pub record Small (p : Place) : Type 0 where
  pub address : p.section.virtual_address < 256 ^ 4
  pub length_of : p.length < 256 ^ 4

small_place : (p : Place) (xs : List Leaf) → Made p.section.virtual_address p.length xs → Small p
small_place p xs m = grind (arith, length_of_section)

-- the entry of the file that is written
entry_read : (h : HeaderView) (p : Place) (r b : List ℕ) → Lies h p (length b) → length r ≡ p.length → Small p → data_directory (with_sum h (with_resources p r b)) p.entry ≡ entry_of p
unfolding data_directory
entry_read h p r b l e s =
    let g : List ℕ = with_resources p r b in
    let f : List ℕ = with_sum h g in
    let same : length g ≡ length b = resources_length h p r b l e in
    let c : ℕ = h.dos_header.pe_pointer + 88 in
    let past : (k : ℕ) → p.entry ≤ k → get_or f k 0 ≡ get_or g k 0 = λ k from. sum_byte h g k (omega (arith, same, sum_inside h p (length b) l)) (range_past c 4 k (omega (arith, from, l.sum))) in
    let address : le f p.entry 4 ≡ p.section.virtual_address = number_stays f g p.entry (λ k from lt. past k from) ∙ address_in h p r b l e s.address in
    let size : le f (p.entry + 4) 4 ≡ p.length = number_stays f g (p.entry + 4) (λ k from lt. past k (omega (arith, from))) ∙ size_in h p r b l e s.length_of in
    rw (address, size) refl

-- the headers are parsed
pub header_edited : (mode : ParseMode) (b : List ℕ) (h : HeaderView) (xs : List Leaf) (p : Place) → header_at b mode ≡ Ok h → Placed b h xs p → header_at (edited_file h p xs b) mode ≡ Ok (edited_headers p (sum_of h (edited_file h p xs b)) h)
header_edited mode b h xs p e x =
    let l : Lies h p (length b) = place_lies b h xs p x in
    let m : Made p.section.virtual_address p.length xs = place_made b h xs p x in
    let r : List ℕ = section p.section.virtual_address xs in
    let g : List ℕ = with_resources p r b in
    let o : OptionalHeaderView = x.of.optional in
    let q : ℕ = h.dos_header.pe_pointer in
    let room : q + 92 ≤ length g = omega (arith, resources_length h p r b l m.size, sum_inside h p (length b) l) in
    let at : p.entry ≡ q + 24 + directories_offset (o.standard_fields.magic == 0x20B) + 8 * 2 = ap (λ (y : Place). y.entry) (sym x.value) ∙ ap (λ (t : Target). t.entry) (sym x.of.value) in
    headers_change (edited_file h p xs b) b mode h o 2 p.entry (entry_of p) e x.of.some at
    (grind (arith, edited_size, before, field_stays, range_below, range_past, after, m.size, x.headers.directories))
    (entry_read h p r b l m.size (small_place p xs m))
    ∙ ap (λ (n : ℕ). Ok (edited_headers p n h)) (sum_read h g room ∙ sym (sum_stays h g room))

-- ---- the section headers

-- a section header of which all bytes stay but its size in memory
pub row_resized : (f b : List ℕ) (p : ℕ) → p + 40 ≤ length f → p + 40 ≤ length b → ((k : ℕ) → p ≤ k → k < p + 40 → (nat_le (p + 8) k && nat_lt k (p + 8 + 4)) ≡ false → get_or f k 0 ≡ get_or b k 0) →
    section_table f p ≡ resized (le f (p + 8) 4) (section_table b p)
unfolding section_table
row_resized f b p room i same =
    let after_size : (q n : ℕ) → p + 12 ≤ q → q + n ≤ p + 40 → le f q n ≡ le b q n = λ q n from to. le-same f b q q n (λ k lt. same (q + k) (omega (arith, from)) (omega (arith, lt, to)) (range_past (p + 8) 4 (q + k) (omega (arith, from)))) in
    let name : slice_range f p (p + 8) ≡ slice_range b p (p + 8) = same_range f b p (p + 8) (omega (arith, room)) (omega (arith, i)) (λ k from lt. same k from (omega (arith, lt)) (range_below (p + 8) 4 k lt)) in
    rw (
      name,
      after_size (p + 12) 4 (omega arith) (omega arith),
      after_size (p + 16) 4 (omega arith) (omega arith),
      after_size (p + 20) 4 (omega arith) (omega arith),
      after_size (p + 24) 4 (omega arith) (omega arith),
      after_size (p + 28) 4 (omega arith) (omega arith),
      after_size (p + 32) 2 (omega arith) (omega arith),
      after_size (p + 34) 2 (omega arith) (omega arith),
      after_size (p + 36) 4 (omega arith) (omega arith),
    ) refl

-- the size in memory that is read
pub grown_read : (h : HeaderView) (p : Place) (xs : List Leaf) (b : List ℕ) → p.section.virtual_size < 2 ^ 32 → (i : ℕ) → Lies h p (length b) → Made p.section.virtual_address p.length xs → i < h.coff_header.number_of_sections → sections_offset h + 40 * i ≡ p.row → section_header b h i ≡ p.section →
    le (edited_file h p xs b) (p.row + 8) 4 ≡ grown_size p
grown_read h p xs b small i l m below row same =
    let r : List ℕ = section p.section.virtual_address xs in
    let g : List ℕ = with_resources p r b in
    let size : length g ≡ length b = resources_length h p r b l m.size in
    let short : p.length < 256 ^ 4 = (small_place p xs m).length_of in
    let grown : grown_size p < 256 ^ 4 = omega (arith, small, short) in
    number_stays (edited_file h p xs b) g (p.row + 8) (λ k from lt. sum_byte h g k (omega (arith, size, sum_inside h p (length b) l)) (range_past (h.dos_header.pe_pointer + 88) 4 k (omega (arith, from, l.sum, l.entry, l.table))))
    ∙ grown_in h p r b l m.size grown

-- ---- the section's data

-- of the changes of the resources only the first is after the section table
data_byte : (h : HeaderView) (p : Place) (r b : List ℕ) (k : ℕ) → Lies h p (length b) → length r ≡ p.length → p.section.pointer_to_raw_data ≤ k → get_or (with_resources p r b) k 0 ≡ get_or (with_data p r b) k 0
unfolding with_resources
data_byte h p r b k l e from =
    let past : (q : ℕ) → q + 4 ≤ p.row + 40 → (nat_le q k && nat_lt k (q + 4)) ≡ false = λ q to. range_past q 4 k (omega (arith, to, from, l.row, l.raw)) in
    byte_past (with_address p r b) (p.entry + 4) (bytes_of 4 p.length) 4 k (length-bytes_of 4 p.length) (omega (arith, address_length h p r b l e, entry_inside h p (length b) l)) (past (p.entry + 4) (omega (arith, l.entry, l.table)))
    ∙ byte_past (with_row p r b) p.entry (bytes_of 4 p.section.virtual_address) 4 k (length-bytes_of 4 p.section.virtual_address) (omega (arith, row_length h p r b l e, entry_inside h p (length b) l)) (past p.entry (omega (arith, l.entry, l.table)))
    ∙ byte_past (with_data p r b) (p.row + 8) (bytes_of 4 (grown_size p)) 4 k (length-bytes_of 4 (grown_size p)) (omega (arith, data_length h p r b l e, l.row, l.raw, l.end)) (past (p.row + 8) (omega arith))

-- the bytes of the section's data are those that were written first
pub data_range : (h : HeaderView) (p : Place) (r b : List ℕ) → Lies h p (length b) → length r ≡ p.length → p.section.pointer_to_raw_data + p.length ≤ length (with_sum h (with_resources p r b)) →
    range (with_sum h (with_resources p r b)) p.section.pointer_to_raw_data p.length ≡ range (splice b p.section.pointer_to_raw_data (filled p.section r)) p.section.pointer_to_raw_data p.length
data_range h p r b l e room =
    let q : ℕ = p.section.pointer_to_raw_data in
    same_range (with_sum h (with_resources p r b)) (with_data p r b) q (q + p.length) room (omega (arith, data_length h p r b l e, l.end, l.room))
    (λ k from lt. sum_byte h (with_resources p r b) k (omega (arith, resources_length h p r b l e, sum_inside h p (length b) l)) (range_past (h.dos_header.pe_pointer + 88) 4 k (omega (arith, from, l.sum, l.entry, l.table, l.row, l.raw)))
    ∙ data_byte h p r b k l e (omega (arith, from)))
