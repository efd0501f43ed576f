-- What is known of an image whose resources have a place.
use Rattle.std.proofs.Common.{◌≡◌, ℕ, ◌+◌, ◌^◌, ◌%◌, ◌<◌, ◌≤◌, ◌==◌, ◌&&◌, Bool, true, List, [], ◌∷◌, length, Some, Result, Ok, ap, sym, ◌∙◌, subst, arith}
use Rattle.pe_rewrite.proofs.Cited.{nat_le, nat_lt, is_power_of_two, position_or_len, nat_tests, passes_at_first, HeaderView}
use Rattle.pe_rewrite.proofs.Cited.{OptionalHeaderView, outcome, ◌>>=◌, raw_end, sections_offset, SectionTable, get_or-each}
use Rattle.pe_rewrite.proofs.Cited.{length-each, section_of, Accepted, Leaf, section, length_of_section, passes, section_fits}
use Rattle.pe_rewrite.proofs.Cited.{section_is, section_is_sorted, directories_end, Lies, edited_file, in_place, debug_apart}
use Rattle.pe_rewrite.proofs.Cited.{debug_entries, directory_at, has_data, header_tests, headers_end, index_of, is_absent, is_alone}
use Rattle.pe_rewrite.proofs.Cited.{length_at, place_at, place_of, section_header, section_headers, section_tests, sections_apart}
use Rattle.pe_rewrite.proofs.Cited.{symbols_apart, target_by, target_of, RewriteRefusal, NoSection, Place, Target, wide, passed}
use Rattle.pe_rewrite.proofs.Cited.{value_is, both}
use Rattle.pe_rewrite.proofs.Results.{first_ok}

-- ---- the steps

pub record TargetIs (h : HeaderView) (t : Target) : Type 0 where
  pub optional : OptionalHeaderView
  pub some : h.optional_header ≡ Some optional
  pub value : target_by h.dos_header.pe_pointer optional ≡ t
  pub many : 2 < length optional.data_directories
  pub unsigned : is_absent (directory_at optional 4) ≡ true

pub target_is : (h : HeaderView) (t : Target) → target_of h ≡ Ok t → TargetIs h t
target_is h t e = grind (arith, passed, value_is, nat_tests)

pub record Made (rva n : ℕ) (xs : List Leaf) : Type 0 where
  pub made : section_of rva xs ≡ Ok (section rva xs)
  pub accepted : Accepted rva xs
  pub size : length (section rva xs) ≡ n

pub made_at : (rva n : ℕ) (xs : List Leaf) → length_at rva xs ≡ Ok n → Made rva n xs
made_at rva n xs e = grind (arith, section_is, passes, section_fits, section_is_sorted)

-- so they have fewer than 2^32 bytes
pub small_length : (rva n : ℕ) (xs : List Leaf) → length_at rva xs ≡ Ok n → n < 2 ^ 32
small_length rva n xs e = grind (arith, made_at, length_of_section)

pub record HeadersLie (b : List ℕ) (h : HeaderView) (t : Target) : Type 0 where
  pub directories : directories_end h ≤ sections_offset h
  pub inside : headers_end h ≤ length b
  pub sector : 512 ≤ t.file_alignment
  pub power : is_power_of_two t.file_alignment ≡ true

pub headers_lie : (b : List ℕ) (h : HeaderView) (t : Target) (u : Unit {0}) → outcome {Y = Unit {0}} (header_tests b h t) tt ≡ Ok u → HeadersLie b h t
headers_lie b h t u e = grind (arith, passed, both, nat_tests)

pub record IndexIs (b : List ℕ) (h : HeaderView) (rva i : ℕ) : Type 0 where
  pub below : i < h.coff_header.number_of_sections
  pub address : (section_header b h i).virtual_address ≡ rva

pub index_is : (b : List ℕ) (h : HeaderView) (rva i : ℕ) → index_of b h rva ≡ Ok i → IndexIs b h rva i
index_is b h rva i e =
    let p : SectionTable → Bool = λ s. s.virtual_address == rva in
    let k : ℕ = position_or_len p (section_headers b h) in
    let n : ℕ = h.coff_header.number_of_sections in
    let one = passed (nat_lt k n) _ _ i (passed (nat_lt 0 rva) _ _ i e).1 in
    let is : k ≡ i = value_is ((nat_lt k n, NoSection) ∷ []) k i (passed (nat_lt 0 rva) _ _ i e).1 in
    let lt : k < n = grind (arith, nat_tests, one.0) in
    let d : SectionTable = section_header b h 0 in
    let size : length (section_headers b h) ≡ n = length-each (section_header b h) n in
    let at : (section_header b h k).virtual_address == rva ≡ true = ap p (sym (get_or-each (section_header b h) n k d lt)) ∙ passes_at_first p (section_headers b h) d (omega (arith, lt, size)) in
    let same : (section_header b h k).virtual_address ≡ rva = grind (arith, nat_tests, at) in
    record { below = omega (arith, is, lt); address = ap (λ (j : ℕ). (section_header b h j).virtual_address) (sym is) ∙ same }

pub record SectionIs (b : List ℕ) (h : HeaderView) (alignment i n : ℕ) : Type 0 where
  pub after : headers_end h ≤ (section_header b h i).pointer_to_raw_data
  pub sector : ((section_header b h i).pointer_to_raw_data % 512 == 0) ≡ true
  pub inside : raw_end (section_header b h i) ≤ length b
  pub apart : sections_apart b h alignment i ≡ true
  pub room : n ≤ (section_header b h i).size_of_raw_data

pub section_is_free : (b : List ℕ) (h : HeaderView) (t : Target) (i n : ℕ) (p q : Place) → outcome (section_tests b h t i n) p ≡ Ok q → SectionIs b h t.file_alignment i n
section_is_free b h t i n p q e =
    let s : SectionTable = section_header b h i in
    let one = passed (has_data b h s) _ _ q e in
    let two = passed (is_alone s h.optional_header) _ _ q one.1 in
    let three = passed (symbols_apart h s) _ _ q two.1 in
    let four = passed (sections_apart b h t.file_alignment i) _ _ q three.1 in
    let five = passed (nat_le n s.size_of_raw_data && nat_le (s.virtual_address + n) t.size_of_image) _ _ q four.1 in
    let room : nat_le n s.size_of_raw_data ≡ true = (both (nat_le n s.size_of_raw_data) (nat_le (s.virtual_address + n) t.size_of_image) five.0).0 in
    let after : nat_le (headers_end h) s.pointer_to_raw_data ≡ true = (both (nat_le (headers_end h) s.pointer_to_raw_data) _ one.0).0 in
    let rest = (both (nat_le (headers_end h) s.pointer_to_raw_data) _ one.0).1 in
    let inside : nat_le (raw_end s) (length b) ≡ true = (both (s.pointer_to_raw_data % 512 == 0) _ rest).1 in
    record {
      after = grind (arith, nat_tests, after);
      sector = (both (s.pointer_to_raw_data % 512 == 0) _ rest).0;
      inside = grind (arith, nat_tests, inside);
      apart = four.0;
      room = grind (arith, nat_tests, room);
    }

-- ---- all of them

pub record Placed (b : List ℕ) (h : HeaderView) (xs : List Leaf) (p : Place) : Type 0 where
  pub target : Target
  pub length_of : ℕ
  pub index : ℕ
  pub of : TargetIs h target
  pub leaves : Made target.rva length_of xs
  pub headers : HeadersLie b h target
  pub section : IndexIs b h target.rva index
  pub free : SectionIs b h target.file_alignment index length_of
  pub value : place_at b h target length_of index ≡ p

pub placed : (b : List ℕ) (h : HeaderView) (xs : List Leaf) (p : Place) → place_of b h xs ≡ Ok p → Placed b h xs p
placed b h xs p e =
    let t = first_ok (target_of h) _ p e in
    let n = first_ok (length_at t.0.rva xs) _ p t.1.1 in
    let u = first_ok (outcome {Y = Unit {0}} (header_tests b h t.0) tt) _ p n.1.1 in
    let i = first_ok (index_of b h t.0.rva) _ p u.1.1 in
    record {
      target = t.0;
      length_of = n.0;
      index = i.0;
      of = target_is h t.0 t.1.0;
      leaves = made_at t.0.rva n.0 xs n.1.0;
      headers = headers_lie b h t.0 u.0 u.1.0;
      section = index_is b h t.0.rva i.0 i.1.0;
      free = section_is_free b h t.0 i.0 n.0 (place_at b h t.0 n.0 i.0) p i.1.1;
      value = value_is (section_tests b h t.0 i.0 n.0) (place_at b h t.0 n.0 i.0) p i.1.1;
    }

-- the debug data of an image whose resources have a place
pub record DebugApart (b : List ℕ) (h : HeaderView) (p : Place) : Type 0 where
  pub target : Target
  pub of : TargetIs h target
  pub apart : debug_apart b h p.section (debug_entries b h target) ≡ true

pub debug_placed : (b : List ℕ) (h : HeaderView) (xs : List Leaf) (p : Place) → place_of b h xs ≡ Ok p → DebugApart b h p
debug_placed b h xs p e =
    let t = first_ok (target_of h) _ p e in
    let n = first_ok (length_at t.0.rva xs) _ p t.1.1 in
    let u = first_ok (outcome {Y = Unit {0}} (header_tests b h t.0) tt) _ p n.1.1 in
    let i = first_ok (index_of b h t.0.rva) _ p u.1.1 in
    let value : place_at b h t.0 n.0 i.0 ≡ p = value_is (section_tests b h t.0 i.0 n.0) (place_at b h t.0 n.0 i.0) p i.1.1 in
    record {
      target = t.0;
      of = target_is h t.0 t.1.0;
      apart = subst (λ (y : Place). debug_apart b h y.section (debug_entries b h t.0) ≡ true) value (grind (arith, passed, i.1.1));
    }

pub place_lies : (b : List ℕ) (h : HeaderView) (xs : List Leaf) (p : Place) → Placed b h xs p → Lies h p (length b)
place_lies b h xs p x = grind (arith, wide)

-- and the leaves have the section that is written
pub place_made : (b : List ℕ) (h : HeaderView) (xs : List Leaf) (p : Place) → Placed b h xs p → Made p.section.virtual_address p.length xs
place_made b h xs p x = grind arith

pub placed_value : (b : List ℕ) (h : HeaderView) (xs : List Leaf) (p : Place) → place_of b h xs ≡ Ok p → in_place b h xs ≡ Ok (edited_file h p xs b)
placed_value b h xs p e = ap (λ (r : Result Place RewriteRefusal). r >>= λ q. Ok (edited_file h q xs b)) e
