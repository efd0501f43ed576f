use Rattle.std.proofs.Common.{◌≡◌, ℕ, ◌+◌, ◌*◌, ◌/◌, ◌%◌, ◌^◌, ◌<◌, ◌≤◌, ◌||◌, ◌⊎◌, inl, inr, true, List, length, get_or, slice_range, Some, Ok, refl, ap, sym, ◌∙◌, ⊎_elim, arith}
use Rattle.pe_rewrite.proofs.Cited.{nat_le, nat_tests, ext_get_or, places, AreBytes, le, range, HeaderView, OptionalHeaderView}
use Rattle.pe_rewrite.proofs.Cited.{section_map, raw_end, ParseOptions, SectionTable, le-same, le_small, Leaf, debug_entry_at}
use Rattle.pe_rewrite.proofs.Cited.{range_below, range_past, Lies, in_place, debug_apart, debug_data_apart, directory_at}
use Rattle.pe_rewrite.proofs.Cited.{entries_apart, entry_apart, headers_end, place_of, section_headers, entries_at, DebugEntries}
use Rattle.pe_rewrite.proofs.Cited.{Place, both}
use Rattle.pe_rewrite.proofs.DebugMoved.{data_moved, entries_are, entry_moved, entries_there, small_reduced}
use Rattle.pe_rewrite.proofs.Placed.{DebugApart, debug_placed, place_lies}
use Rattle.pe_rewrite.proofs.Pointers.{lie_by, or_of}
use Rattle.pe_rewrite.proofs.WrittenImages.{IsFile, bytes_stay_placed, is_file, length_stays_placed}
use Rattle.pe_rewrite.proofs.WrittenSections.{all_by, four_false}
use Rattle.pe_rewrite.proofs.laws.debug_data_are_found_again.Goals as goal

-- The debug entries of a file that an edit writes with its resources in place, and their data.

-- ---- what is not written

byte_stays : (b : List ℕ) (h : HeaderView) (xs : List Leaf) (p : Place) (f : List ℕ) (k : ℕ) → IsFile b h xs p f → headers_end h ≤ k → (k < p.section.pointer_to_raw_data) ⊎ (raw_end p.section ≤ k) → get_or f k 0 ≡ get_or b k 0
byte_stays b h xs p f k y from apart =
    let l : Lies h p (length b) = place_lies b h xs p y.placed in
    let start : ℕ = p.section.pointer_to_raw_data in
    let size : ℕ = p.section.size_of_raw_data in
    bytes_stay_placed b h xs p f k y
    (four_false _ _ _ _ (⊎_elim (λ (below : k < start). range_below start size k below) (λ (past : raw_end p.section ≤ k). range_past start size k (omega (arith, past))) apart)
    (range_past (p.row + 8) 4 k (omega (arith, l.row, from))) (range_past p.entry 8 k (omega (arith, l.entry, l.table, l.row, from)))
    (range_past (h.dos_header.pe_pointer + 88) 4 k (omega (arith, l.sum, l.entry, l.table, l.row, from))))

-- the section's data are before or after what lies after the headers
abbrev Beside : HeaderView → SectionTable → ℕ → ℕ → Type 0
Beside h s start end = (headers_end h ≤ start) × ((end ≤ s.pointer_to_raw_data) ⊎ (raw_end s ≤ start))

beside_stays : (b : List ℕ) (h : HeaderView) (xs : List Leaf) (p : Place) (f : List ℕ) (start end k : ℕ) → IsFile b h xs p f → Beside h p.section start end → start ≤ k → k < end → get_or f k 0 ≡ get_or b k 0
beside_stays b h xs p f start end k y beside from to =
    byte_stays b h xs p f k y (omega (arith, beside.0, from)) (⊎_elim (λ (before : end ≤ p.section.pointer_to_raw_data). inl (omega (arith, before, to))) (λ (after : raw_end p.section ≤ start). inr (omega (arith, after, from))) beside.1)

same_ranges : (f b : List ℕ) (p n : ℕ) → length f ≡ length b → ((k : ℕ) → p ≤ k → k < p + n → get_or f k 0 ≡ get_or b k 0) → range f p n ≡ range b p n
same_ranges f b p n size same =
    ext_get_or 0 (slice_range f p (p + n)) (slice_range b p (p + n)) (grind (arith, places))
    (λ k lt. let at : k < n = grind (arith, places) in let byte : get_or f (p + k) 0 ≡ get_or b (p + k) 0 = same (p + k) (omega arith) (omega (arith, at)) in grind (arith, places))

-- ---- where the entries lie

entries_beside : (b : List ℕ) (h : HeaderView) (s : SectionTable) (d : DebugEntries) → entries_apart b h s d ≡ true → 0 < d.count → Beside h s d.offset (d.offset + 28 * d.count)
entries_beside b h s d e some = grind (arith, nat_tests, lie_by, both, or_of)

data_beside : (b : List ℕ) (h : HeaderView) (s : SectionTable) (e : ℕ) → debug_data_apart b s e ≡ true → headers_end h ≤ le b (e + 24) 4 → Beside h s (le b (e + 24) 4) (le b (e + 24) 4 + le b (e + 16) 4)
data_beside b h s e apart from =
    let p : ℕ = le b (e + 24) 4 in
    let end : ℕ = p + le b (e + 16) 4 in
    let either : (nat_le end s.pointer_to_raw_data || nat_le (raw_end s) p) ≡ true = (both (nat_le end s.pointer_to_raw_data || nat_le (raw_end s) p) _ apart).0 in (
      from,
      ⊎_elim
          (λ (before : nat_le end s.pointer_to_raw_data ≡ true). let less : end ≤ s.pointer_to_raw_data = grind (arith, nat_tests, before) in inl less)
          (λ (after : nat_le (raw_end s) p ≡ true). let past : raw_end s ≤ p = grind (arith, nat_tests, after) in inr past)
          (or_of (nat_le end s.pointer_to_raw_data) (nat_le (raw_end s) p) either),
    )

-- ---- so they stay

field : (b : List ℕ) (h : HeaderView) (xs : List Leaf) (p : Place) (f : List ℕ) (d : DebugEntries) (k q n : ℕ) → IsFile b h xs p f → Beside h p.section d.offset (d.offset + 28 * d.count) → k < d.count → q + n ≤ 28 → le f (d.offset + 28 * k + q) n ≡ le b (d.offset + 28 * k + q) n
field b h xs p f d k q n y beside lt fits =
    let at : ℕ = d.offset + 28 * k + q in
    le-same f b at at n (λ j small. beside_stays b h xs p f d.offset (d.offset + 28 * d.count) (at + j) y beside (omega arith) (omega (arith, fits, small, lt)))

entry_same : (b : List ℕ) (h : HeaderView) (xs : List Leaf) (p : Place) (f : List ℕ) (d : DebugEntries) (k : ℕ) → IsFile b h xs p f → debug_apart b h p.section d ≡ true → k < d.count → debug_entry_at 0 f (d.offset + 28 * k) ≡ debug_entry_at 0 b (d.offset + 28 * k)
unfolding debug_entry_at
entry_same b h xs p f d k y apart lt =
    let beside = entries_beside b h p.section d (both (entries_apart b h p.section d) _ apart).0 (omega (arith, lt)) in
    let first : le f (d.offset + 28 * k) 4 ≡ le b (d.offset + 28 * k) 4 = ap (λ (q : ℕ). le f q 4) (omega arith) ∙ field b h xs p f d k 0 4 y beside lt (omega arith) ∙ ap (λ (q : ℕ). le b q 4) (omega arith) in
    rw (
      first,
      field b h xs p f d k 4 4 y beside lt (omega arith),
      field b h xs p f d k 8 2 y beside lt (omega arith),
      field b h xs p f d k 10 2 y beside lt (omega arith),
      field b h xs p f d k 12 4 y beside lt (omega arith),
      field b h xs p f d k 16 4 y beside lt (omega arith),
      field b h xs p f d k 20 4 y beside lt (omega arith),
      field b h xs p f d k 24 4 y beside lt (omega arith),
    ) refl

data_same : (b : List ℕ) (h : HeaderView) (xs : List Leaf) (p : Place) (f : List ℕ) (d : DebugEntries) (k : ℕ) → IsFile b h xs p f → debug_apart b h p.section d ≡ true → k < d.count → headers_end h ≤ le b (d.offset + 28 * k + 24) 4 →
    range f (le b (d.offset + 28 * k + 24) 4) (le b (d.offset + 28 * k + 16) 4) ≡ range b (le b (d.offset + 28 * k + 24) 4) (le b (d.offset + 28 * k + 16) 4)
data_same b h xs p f d k y apart lt from =
    let at : ℕ = d.offset + 28 * k in
    let one : entry_apart b p.section d k ≡ true = all_by (entry_apart b p.section d k) (entry_apart b p.section d) d.count k lt refl (both (entries_apart b h p.section d) _ apart).1 in
    let beside = data_beside b h p.section at one from in
    same_ranges f b (le b (at + 24) 4) (le b (at + 16) 4) (length_stays_placed b h xs p f y) (λ j start end. beside_stays b h xs p f (le b (at + 24) 4) (le b (at + 24) 4 + le b (at + 16) 4) j y beside start end)

-- ---- those that the directory leads to

apart_there : (o : ParseOptions) (b : List ℕ) (h : HeaderView) (p : Place) (x : DebugApart b h p) (w : OptionalHeaderView) (q : ℕ) → h.optional_header ≡ Some w → o.resolve_rva ≡ true →
    section_map o (section_headers b h) w.windows_fields.file_alignment (directory_at w 6).virtual_address ≡ Some q → debug_apart b h p.section (entries_at q (directory_at w 6)) ≡ true
apart_there o b h p x w q some resolves there = grind (arith, entries_there)

entry_in_place : (o : ParseOptions) (b : List ℕ) (h : HeaderView) (xs : List Leaf) (p : Place) (f : List ℕ) (w : OptionalHeaderView) (q k : ℕ) → place_of b h xs ≡ Ok p → in_place b h xs ≡ Ok f → h.optional_header ≡ Some w → o.resolve_rva ≡ true →
    section_map o (section_headers b h) w.windows_fields.file_alignment (directory_at w 6).virtual_address ≡ Some q → k < (directory_at w 6).size / 28 → debug_entry_at 0 f (q + 28 * k) ≡ debug_entry_at 0 b (q + 28 * k)
entry_in_place o b h xs p f w q k e i some resolves there lt =
    entry_same b h xs p f (entries_at q (directory_at w 6)) k (is_file b h xs p f e i) (apart_there o b h p (debug_placed b h xs p e) w q some resolves there) lt

data_in_place : (o : ParseOptions) (b : List ℕ) (h : HeaderView) (xs : List Leaf) (p : Place) (f : List ℕ) (w : OptionalHeaderView) (q k : ℕ) → AreBytes b → place_of b h xs ≡ Ok p → in_place b h xs ≡ Ok f → h.optional_header ≡ Some w → o.resolve_rva ≡ true →
    section_map o (section_headers b h) w.windows_fields.file_alignment (directory_at w 6).virtual_address ≡ Some q → k < (directory_at w 6).size / 28 → headers_end h ≤ (debug_entry_at 0 b (q + 28 * k)).pointer_to_raw_data →
    range f (debug_entry_at 0 b (q + 28 * k)).pointer_to_raw_data (debug_entry_at 0 b (q + 28 * k)).size_of_data ≡ range b (debug_entry_at 0 b (q + 28 * k)).pointer_to_raw_data (debug_entry_at 0 b (q + 28 * k)).size_of_data
unfolding debug_entry_at
data_in_place o b h xs p f w q k small e i some resolves there lt from =
    let n : ℕ = le b (q + 28 * k + 24) 4 in
    let size : ℕ = le b (q + 28 * k + 16) 4 in
    let same : (n + 2 ^ 32) % 2 ^ 32 ≡ n = small_reduced n (omega (arith, le_small b (q + 28 * k + 24) small)) in
    let start : headers_end h ≤ n = omega (arith, from, same) in
    let stay = data_same b h xs p f (entries_at q (directory_at w 6)) k (is_file b h xs p f e i) (apart_there o b h p (debug_placed b h xs p e) w q some resolves there) lt start in
    ap (λ (j : ℕ). range f j size) same ∙ stay ∙ ap (λ (j : ℕ). range b j size) (sym same)

pub returns : goal.returns
returns c = record {
  entries = λ b h xs m f k is. entry_moved b h xs m f k is.bytes is.room is.file;
  «data» = λ b h xs m f e is. data_moved b h xs m f e.pointer_to_raw_data e.size_of_data is.bytes is.room is.file;
  directory = λ o b h xs m w q e some. entries_are o b h xs m w q e some;
  entries_in_place = λ o b h xs p f w q k is some resolves there lt. entry_in_place o b h xs p f w q k is.place is.file some resolves there lt;
  data_in_place = λ o b h xs p f w q k is some resolves there lt from. data_in_place o b h xs p f w q k is.bytes is.place is.file some resolves there lt from;
}
