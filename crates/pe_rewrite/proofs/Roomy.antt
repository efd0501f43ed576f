-- What is known of an image that has room for resources at its end.
use Rattle.std.proofs.Common.{◌≡◌, ℕ, ◌+◌, ◌-◌, ◌/◌, ◌%◌, ◌^◌, ◌<◌, ◌≤◌, ◌==◌, ◌&&◌, ◌⊎◌, true, List, [], ◌∷◌, length, Result, Ok, refl, ap, sym, subst, ⊎_elim, arith}
use Rattle.pe_rewrite.proofs.Cited.{nat_le, list_all, nat_tests, places, lt-div-mul-add, mul-mod_left, AreBytes, le, HeaderView}
use Rattle.pe_rewrite.proofs.Cited.{section_table, outcome, each, rounded_up, raw_end, SectionTable, positive, le_small, Leaf}
use Rattle.pe_rewrite.proofs.Cited.{RoomLies, debug_entries, header_tests, headers_end, index_of, is_alone, length_at}
use Rattle.pe_rewrite.proofs.Cited.{section_header, target_of, are_u32, count_with, data_end, debug_moves, ends_data, enlarged}
use Rattle.pe_rewrite.proofs.Cited.{entries_lie, entry_moves, has_header, image_end, is_last, is_u32, new_room, new_section}
use Rattle.pe_rewrite.proofs.Cited.{or_else, own_room, rvas_tests, own_section, room_at, room_of, room_tests, room_with, sizes_of}
use Rattle.pe_rewrite.proofs.Cited.{symbols_move, table_end, RewriteRefusal, ImageTooLarge, Target, LastSection, Room, wide, passed}
use Rattle.pe_rewrite.proofs.Cited.{value_is, both}
use Rattle.pe_rewrite.proofs.Placed.{HeadersLie, IndexIs, Made, TargetIs, headers_lie, index_is, made_at, target_is}
use Rattle.pe_rewrite.proofs.Results.{first_ok}

pub count_small : (b : List ℕ) (h : HeaderView) (t : Target) (i : ℕ) → has_header b h t i ≡ true → count_with h i < 65536
count_small b h t i e = grind (arith, both, nat_tests)

-- ---- the section

up_least : (n u : ℕ) → 0 < u → n ≤ rounded_up n u
up_least n u some = grind (arith, lt-div-mul-add)

up_multiple : (n u : ℕ) → 0 < u → rounded_up n u % u ≡ 0
up_multiple n u some = mul-mod_left ((n + (u - 1)) / u) u

-- the numbers of a section header have as many bits as their fields, but for the size of the data
pub record SmallRow (s : SectionTable) : Type 0 where
  pub virtual_size : s.virtual_size < 256 ^ 4
  pub virtual_address : s.virtual_address < 256 ^ 4
  pub pointer_to_raw_data : s.pointer_to_raw_data < 256 ^ 4
  pub pointer_to_relocations : s.pointer_to_relocations < 256 ^ 4
  pub pointer_to_linenumbers : s.pointer_to_linenumbers < 256 ^ 4
  pub number_of_relocations : s.number_of_relocations < 256 ^ 2
  pub number_of_linenumbers : s.number_of_linenumbers < 256 ^ 2
  pub characteristics : s.characteristics < 256 ^ 4

le_small_two : (b : List ℕ) (p : ℕ) → AreBytes b → le b p 2 < 256 ^ 2
unfolding le
le_small_two b p small = omega (arith, small p, small (p + 1), small (p + 0))

small_row : (b : List ℕ) (p : ℕ) → AreBytes b → SmallRow (section_table b p)
unfolding section_table
small_row b p small = grind (arith, le_small, le_small_two)

name_of : (b : List ℕ) (p : ℕ) → p + 8 ≤ length b → length (section_table b p).name ≡ 8
unfolding section_table
name_of b p h = grind (arith, places, h)

-- the last section, which has room for n bytes
pub record IsLast (b : List ℕ) (h : HeaderView) (alignment n : ℕ) (l : LastSection) : Type 0 where
  pub index : l.index ≤ h.coff_header.number_of_sections
  pub name : length l.section.name ≡ 8
  pub row : l.index < h.coff_header.number_of_sections → section_header b h l.index ≡ l.section
  pub small : AreBytes b → SmallRow l.section
  pub room : n ≤ l.section.size_of_raw_data + l.more
  pub multiple : l.more % alignment ≡ 0

pub own_is_last : (b : List ℕ) (h : HeaderView) (t : Target) (n i : ℕ) → headers_end h ≤ length b → 0 < t.file_alignment → i < h.coff_header.number_of_sections → IsLast b h t.file_alignment n (own_section b h t n i)
own_is_last b h t n i inside some below = grind (arith, name_of, small_row, up_least, up_multiple)

new_is_last : (b : List ℕ) (h : HeaderView) (t : Target) (n : ℕ) → 0 < t.file_alignment → image_end t < 256 ^ 4 → data_end b h t < 256 ^ 4 → IsLast b h t.file_alignment n (new_section b h t n)
new_is_last b h t n some rva offset = grind (arith, up_least, up_multiple)

-- ---- the tests

pub record RoomFits (b : List ℕ) (h : HeaderView) (t : Target) (n : ℕ) (l : LastSection) : Type 0 where
  pub count : count_with h l.index < 65536
  pub dos : 64 ≤ h.dos_header.pe_pointer
  pub end : raw_end l.section + l.more < 256 ^ 4
  pub symbols : (sizes_of h t n l).pointer_to_symbol_table < 256 ^ 4
  pub initialized : (sizes_of h t n l).size_of_initialized_data < 256 ^ 4
  pub image : (sizes_of h t n l).size_of_image < 256 ^ 4
  pub start : table_end h l.index ≤ l.section.pointer_to_raw_data
  pub sector : (l.section.pointer_to_raw_data % 512 == 0) ≡ true
  pub inside : raw_end l.section ≤ length b
  pub last : is_last b h t l ≡ true
  pub entries : entries_lie h l ≡ true

-- what an entry that moves gets
pub record EntriesFit (b : List ℕ) (l : LastSection) : Type 0 where
  pub end : raw_end l.section + l.more < 256 ^ 4
  pub all : list_all (entry_moves b l) (each (λ k. k) l.debug.count) ≡ true

pub debug_of : (b : List ℕ) (h : HeaderView) (t : Target) (n : ℕ) (l : LastSection) (r m : Room) → outcome (room_tests b h t n l) r ≡ Ok m → debug_moves b h l ≡ true
debug_of b h t n l r m e =
    let one = passed (has_header b h t l.index) _ _ m e in
    let two = passed (are_u32 (sizes_of h t n l)) _ _ m one.1 in
    let three = passed (ends_data b h t l) _ _ m two.1 in
    let four = passed (is_alone (enlarged l) h.optional_header) _ _ m three.1 in
    let five = passed (symbols_move h l) _ _ m four.1 in
    let six = passed (is_last b h t l) _ _ m five.1 in
    let seven = passed (debug_moves b h l) _ _ m six.1 in
    seven.0

pub room_fits : (b : List ℕ) (h : HeaderView) (t : Target) (n : ℕ) (l : LastSection) (r m : Room) → outcome (room_tests b h t n l) r ≡ Ok m → RoomFits b h t n l
room_fits b h t n l r m e =
    let one = passed (has_header b h t l.index) _ _ m e in
    let two = passed (are_u32 (sizes_of h t n l)) _ _ m one.1 in
    let three = passed (ends_data b h t l) _ _ m two.1 in
    let four = passed (is_alone (enlarged l) h.optional_header) _ _ m three.1 in
    let five = passed (symbols_move h l) _ _ m four.1 in
    let six = passed (is_last b h t l) _ _ m five.1 in
    let z = sizes_of h t n l in
    let end : is_u32 z.data_end ≡ true = (both (is_u32 z.data_end) _ two.0).0 in
    let more = (both (is_u32 z.data_end) _ two.0).1 in
    let symbols : is_u32 z.pointer_to_symbol_table ≡ true = (both (is_u32 z.pointer_to_symbol_table) _ more).0 in
    let rest = (both (is_u32 z.pointer_to_symbol_table) _ more).1 in
    let initialized : is_u32 z.size_of_initialized_data ≡ true = (both (is_u32 z.size_of_initialized_data) (is_u32 z.size_of_image) rest).0 in
    let image : is_u32 z.size_of_image ≡ true = (both (is_u32 z.size_of_initialized_data) (is_u32 z.size_of_image) rest).1 in
    let start : nat_le (table_end h l.index) l.section.pointer_to_raw_data ≡ true = (both (nat_le (table_end h l.index) l.section.pointer_to_raw_data) _ three.0).0 in
    let rest_of = (both (nat_le (table_end h l.index) l.section.pointer_to_raw_data) _ three.0).1 in
    let file = (both (l.section.pointer_to_raw_data % 512 == 0) _ rest_of).1 in
    let inside : nat_le (raw_end l.section) (length b) ≡ true = (both (raw_end l.section % t.file_alignment == 0) _ file).1 in
    record {
      count = count_small b h t l.index one.0;
      dos = grind (arith, both, nat_tests, one.0);
      end = grind (arith, nat_tests, end);
      symbols = grind (arith, nat_tests, symbols);
      initialized = grind (arith, nat_tests, initialized);
      image = grind (arith, nat_tests, image);
      start = grind (arith, nat_tests, start);
      sector = (both (l.section.pointer_to_raw_data % 512 == 0) _ rest_of).0;
      inside = grind (arith, nat_tests, inside);
      last = six.0;
      entries = (both (entries_lie h l) _ (debug_of b h t n l r m e)).0;
    }

-- ---- all of it

-- the debug entries can be written
pub record HasDebug (b : List ℕ) (h : HeaderView) (m : Room) : Type 0 where
  pub target : Target
  pub of : TargetIs h target
  pub section : LastSection
  pub debug : m.debug ≡ section.debug
  pub end : m.end ≡ raw_end section.section
  pub more : m.more ≡ section.more
  pub fit : EntriesFit b section
  pub entries : section.debug ≡ debug_entries b h target

pub record HasRoom (b : List ℕ) (h : HeaderView) (xs : List Leaf) (m : Room) : Type 0 where
  pub target : Target
  pub length_of : ℕ
  pub section : LastSection
  pub of : TargetIs h target
  pub headers : HeadersLie b h target
  pub leaves : Made section.section.virtual_address length_of xs
  pub is : IsLast b h target.file_alignment length_of section
  pub fits : RoomFits b h target length_of section
  pub value : room_at h target length_of section ≡ m

or_cases : (r s : Result Room RewriteRefusal) (m : Room) → or_else r s ≡ Ok m → (r ≡ Ok m) ⊎ (s ≡ Ok m)
or_cases r s m e = grind arith

debug_by : (b : List ℕ) (h : HeaderView) (m : Room) (t : Target) (n : ℕ) (l : LastSection) → TargetIs h t → l.debug ≡ debug_entries b h t → room_with b h t n l ≡ Ok m → HasDebug b h m
debug_by b h m t n l of is e =
    let value : room_at h t n l ≡ m = value_is (room_tests b h t n l) (room_at h t n l) m e in
    let fits : RoomFits b h t n l = room_fits b h t n l (room_at h t n l) m e in
    record {
      target = t;
      of = of;
      section = l;
      entries = is;
      debug = ap (λ (r : Room). r.debug) (sym value);
      end = ap (λ (r : Room). r.end) (sym value);
      more = ap (λ (r : Room). r.more) (sym value);
      fit = record { end = fits.end; all = (both (entries_lie h l) _ (debug_of b h t n l (room_at h t n l) m e)).1 };
    }

by_section : (b : List ℕ) (h : HeaderView) (xs : List Leaf) (m : Room) (t : Target) (n : ℕ) (l : LastSection) → TargetIs h t → HeadersLie b h t → Made l.section.virtual_address n xs → IsLast b h t.file_alignment n l → room_with b h t n l ≡ Ok m →
    HasRoom b h xs m
by_section b h xs m t n l of headers leaves is e = record {
  target = t;
  length_of = n;
  section = l;
  of = of;
  headers = headers;
  leaves = leaves;
  is = is;
  fits = room_fits b h t n l (room_at h t n l) m e;
  value = value_is (room_tests b h t n l) (room_at h t n l) m e;
}

by_own : (b : List ℕ) (h : HeaderView) (xs : List Leaf) (m : Room) (t : Target) (n : ℕ) → TargetIs h t → HeadersLie b h t → Made t.rva n xs → own_room b h t n ≡ Ok m → HasRoom b h xs m
by_own b h xs m t n of headers leaves e =
    let i = first_ok (index_of b h t.rva) _ m e in
    let tests = first_ok (outcome {Y = Unit {0}} (rvas_tests b h t (own_section b h t n i.0)) tt) _ m i.1.1 in
    let at : IndexIs b h t.rva i.0 = index_is b h t.rva i.0 i.1.0 in
    by_section b h xs m t n (own_section b h t n i.0) of headers (subst (λ (a : ℕ). Made a n xs) (sym at.address) leaves)
    (own_is_last b h t n i.0 headers.inside (positive t.file_alignment headers.power) at.below) tests.1.1

by_new : (b : List ℕ) (h : HeaderView) (xs : List Leaf) (m : Room) (t : Target) → TargetIs h t → HeadersLie b h t → new_room b h t xs ≡ Ok m → HasRoom b h xs m
by_new b h xs m t of headers e =
    let u = first_ok (outcome {Y = Unit {0}} ((is_u32 (image_end t) && is_u32 (data_end b h t), ImageTooLarge) ∷ []) tt) _ m e in
    let n = first_ok (length_at (image_end t) xs) _ m u.1.1 in
    let fits = passed (is_u32 (image_end t) && is_u32 (data_end b h t)) ImageTooLarge (Ok tt) u.0 u.1.0 in
    let rva : is_u32 (image_end t) ≡ true = (both (is_u32 (image_end t)) (is_u32 (data_end b h t)) fits.0).0 in
    let offset : is_u32 (data_end b h t) ≡ true = (both (is_u32 (image_end t)) (is_u32 (data_end b h t)) fits.0).1 in
    let tests = first_ok (outcome {Y = Unit {0}} (rvas_tests b h t (new_section b h t n.0)) tt) _ m n.1.1 in
    by_section b h xs m t n.0 (new_section b h t n.0) of headers (made_at (image_end t) n.0 xs n.1.0)
    (new_is_last b h t n.0 (positive t.file_alignment headers.power) (grind (arith, nat_tests, rva)) (grind (arith, nat_tests, offset))) tests.1.1

pub has_room : (b : List ℕ) (h : HeaderView) (xs : List Leaf) (m : Room) → room_of b h xs ≡ Ok m → HasRoom b h xs m
has_room b h xs m e =
    let t = first_ok (target_of h) _ m e in
    let n = first_ok (length_at t.0.rva xs) _ m t.1.1 in
    let u = first_ok (outcome {Y = Unit {0}} (header_tests b h t.0) tt) _ m n.1.1 in
    let of : TargetIs h t.0 = target_is h t.0 t.1.0 in
    let headers : HeadersLie b h t.0 = headers_lie b h t.0 u.0 u.1.0 in
    ⊎_elim
    (λ (own : own_room b h t.0 n.0 ≡ Ok m). by_own b h xs m t.0 n.0 of headers (made_at t.0.rva n.0 xs n.1.0) own)
    (λ (new : new_room b h t.0 xs ≡ Ok m). by_new b h xs m t.0 of headers new)
    (or_cases (own_room b h t.0 n.0) (new_room b h t.0 xs) m u.1.1)

-- the section by which there is room
by_which : (b : List ℕ) (h : HeaderView) (xs : List Leaf) (m : Room) (t : Target) (n : ℕ) → TargetIs h t → or_else (own_room b h t n) (new_room b h t xs) ≡ Ok m → HasDebug b h m
by_which b h xs m t n of e = ⊎_elim
    (λ (own : own_room b h t n ≡ Ok m).
    let i = first_ok (index_of b h t.rva) _ m own in
    let tests = first_ok (outcome {Y = Unit {0}} (rvas_tests b h t (own_section b h t n i.0)) tt) _ m i.1.1 in
    debug_by b h m t n (own_section b h t n i.0) of refl tests.1.1)
    (λ (new : new_room b h t xs ≡ Ok m).
    let u = first_ok (outcome {Y = Unit {0}} ((is_u32 (image_end t) && is_u32 (data_end b h t), ImageTooLarge) ∷ []) tt) _ m new in
    let k = first_ok (length_at (image_end t) xs) _ m u.1.1 in
    let tests = first_ok (outcome {Y = Unit {0}} (rvas_tests b h t (new_section b h t k.0)) tt) _ m k.1.1 in
    debug_by b h m t k.0 (new_section b h t k.0) of refl tests.1.1)
    (or_cases (own_room b h t n) (new_room b h t xs) m e)

pub has_debug : (b : List ℕ) (h : HeaderView) (xs : List Leaf) (m : Room) → room_of b h xs ≡ Ok m → HasDebug b h m
has_debug b h xs m e =
    let t = first_ok (target_of h) _ m e in
    let n = first_ok (length_at t.0.rva xs) _ m t.1.1 in
    let u = first_ok (outcome {Y = Unit {0}} (header_tests b h t.0) tt) _ m n.1.1 in
    by_which b h xs m t.0 n.0 (target_is h t.0 t.1.0) u.1.1

-- ---- what lies where

pub lies_at : (b : List ℕ) (h : HeaderView) (t : Target) (n : ℕ) (l : LastSection) → TargetIs h t → HeadersLie b h t → IsLast b h t.file_alignment n l → RoomFits b h t n l → RoomLies h (room_at h t n l) (length b)
lies_at b h t n l of headers is fits = grind (arith, wide)

pub room_lies : (b : List ℕ) (h : HeaderView) (xs : List Leaf) (m : Room) → HasRoom b h xs m → RoomLies h m (length b)
room_lies b h xs m x = subst (λ (r : Room). RoomLies h r (length b)) x.value (lies_at b h x.target x.length_of x.section x.of x.headers x.is x.fits)

pub room_made : (b : List ℕ) (h : HeaderView) (xs : List Leaf) (m : Room) → HasRoom b h xs m → Made m.place.section.virtual_address m.place.length xs
room_made b h xs m x = subst (λ (r : Room). Made r.place.section.virtual_address r.place.length xs) x.value x.leaves

pub room_small : (b : List ℕ) (h : HeaderView) (xs : List Leaf) (m : Room) → HasRoom b h xs m → m.more < 2 ^ 32
room_small b h xs m x = subst (λ (r : Room). r.more < 2 ^ 32) x.value (omega (arith, x.fits.end))
