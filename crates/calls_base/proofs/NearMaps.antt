-- Windows of the section map.
use Rattle.std.proofs.Common.{◌≡◌, ℕ, ◌+◌, ◌-◌, ◌<◌, ◌≤◌, ◌^◌, min, Bool, true, false, List, [], ◌∷◌, length, filter, Option, Some, None, refl, ap, sym, arith}
use Rattle.calls_base.proofs.Cited.{max, ◌==◌, is_power_of_two, option_map, nat_tests, covers, first, offset_of, raw_start, reach}
use Rattle.calls_base.proofs.Cited.{SectionTable, in_turn, map_of_image, FindsWindow, IsWindow, IsWindowOf, sections_by, map_of, Window}
use Rattle.calls_base.proofs.Cited.{RangeEntry, View}
use Rattle.pe_core.proofs.Reaches.{outside}

-- ---- sections in turn

-- the sections that were passed cover no RVA of the window, so that the first of those that are left to cover one is the first of all
pub record Passed (alignment : ℕ) (sections left : List SectionTable) (rva start end : ℕ) : Type 0 where
  pub starts : start ≤ rva
  pub ends : rva < end
  pub firsts : (x : ℕ) → start ≤ x → x < end → first (filter (covers alignment x) sections) ≡ first (filter (covers alignment x) left)

pub none_passed : (alignment : ℕ) (sections : List SectionTable) (rva : ℕ) → rva < 2 ^ 64 - 1 → Passed alignment sections sections rva 0 (2 ^ 64 - 1)
none_passed alignment sections rva h = record { starts = omega arith; ends = h; firsts = λ x g k. refl }

-- one more section is passed, which covers no RVA from one on up to another
pub one_passed : (alignment : ℕ) (sections rest : List SectionTable) (s : SectionTable) (rva start end from to : ℕ) → Passed alignment sections (s ∷ rest) rva start end
    → start ≤ from → from ≤ rva → to ≤ end → rva < to → (s.virtual_address ≤ rva → s.virtual_address + reach alignment s ≤ from) → (rva < s.virtual_address → to ≤ s.virtual_address)
    → Passed alignment sections rest rva from to
one_passed alignment sections rest s rva start end from to g later starts earlier ends before after = grind (arith, outside)

pub found : (alignment : ℕ) (sections rest : List SectionTable) (s : SectionTable) (rva start end : ℕ) (w : Window) → Passed alignment sections (s ∷ rest) rva start end
    → s.virtual_address ≤ rva → rva < s.virtual_address + reach alignment s → w.start ≡ max s.virtual_address start → w.end ≡ min end (s.virtual_address + reach alignment s)
    → w.offset ≡ w.start - s.virtual_address + raw_start s → w.offset + (w.end - w.start) ≤ 2 ^ 64 → IsWindowOf (in_turn alignment sections) rva w
found alignment sections rest s rva start end w g low high is_start is_end is_offset small = grind (arith, nat_tests)

pub none_covers : (alignment : ℕ) (sections : List SectionTable) (rva start end : ℕ) → Passed alignment sections [] rva start end → in_turn alignment sections rva ≡ None
none_covers alignment sections rva start end g = ap (option_map (λ t. rva - t.virtual_address + raw_start t)) (g.firsts rva g.starts g.ends)

-- ---- by the options

found_is : (f g : ℕ → Option ℕ) (rva : ℕ) (found : Option Window) → ((x : ℕ) → g x ≡ f x) → FindsWindow f rva found → FindsWindow g rva found
found_is f g rva found same h = grind arith

offset_in_turn : (resolve : Bool) (alignment x : ℕ) (sections : List SectionTable) → resolve ≡ true → is_power_of_two alignment ≡ true → offset_of resolve alignment sections x ≡ in_turn alignment sections x
unfolding offset_of
offset_in_turn resolve alignment x sections on aligned = grind arith

pub by_sections : (resolve : Bool) (alignment : ℕ) (sections : List SectionTable) (rva : ℕ) (found : Option Window) → resolve ≡ true → is_power_of_two alignment ≡ true
    → FindsWindow (in_turn alignment sections) rva found → FindsWindow (offset_of resolve alignment sections) rva found
by_sections resolve alignment sections rva found on aligned h = grind (arith, found_is, found, offset_in_turn)

pub by_none : (resolve : Bool) (alignment : ℕ) (sections : List SectionTable) (rva : ℕ) → resolve ≡ true → is_power_of_two alignment ≡ false → offset_of resolve alignment sections rva ≡ None
unfolding offset_of
by_none resolve alignment sections rva on not_aligned = grind arith

pub as_loaded : (resolve : Bool) (alignment : ℕ) (sections : List SectionTable) (rva : ℕ) → resolve ≡ false → rva < 2 ^ 32 → IsWindowOf (offset_of resolve alignment sections) rva record { start = 0; end = 4294967296; offset = 0 }
unfolding offset_of
as_loaded resolve alignment sections rva off small = grind arith

-- ---- by a view

pub all_sections : (sections : List SectionTable) (es : List RangeEntry) (x : ℕ) → true ≡ (length es == 0) → sections_by sections es x ≡ sections
unfolding sections_by
all_sections sections es x none = grind (arith, nat_tests)

-- without an index all sections are tested
pub by_all : (v : View) (rva : ℕ) (found : Option Window) → true ≡ (length v.index.now == 0) → FindsWindow (map_of_image v.image.now v.sections.now) rva found → FindsWindow (map_of v) rva found
by_all v rva found none h = grind (arith, found_is, found, all_sections)

-- an RVA alone
pub by_one : (f : ℕ → Option ℕ) (rva p : ℕ) → f rva ≡ Some p → p < 2 ^ 64 → IsWindowOf f rva record { start = rva; end = rva + 1; offset = p }
by_one f rva p e small = grind arith

-- an RVA that lies in a window
pub inside : (f : ℕ → Option ℕ) (x : ℕ) (w : Window) → IsWindow f w → w.start ≤ x → x < w.end → Some (w.offset + (x - w.start)) ≡ f x
inside f x w h from to = sym (h.maps x from to)

pub found_inside : (f : ℕ → Option ℕ) (x : ℕ) (w : Window) → IsWindowOf f x w → Some (w.offset + (x - w.start)) ≡ f x
found_inside f x w h = inside f x w h.window h.starts h.ends

pub no_window : (f : ℕ → Option ℕ) → IsWindow f record { start = 0; end = 0; offset = 0 }
no_window f = record { maps = λ x from to. absurd (omega (arith, to)); small = omega arith }
