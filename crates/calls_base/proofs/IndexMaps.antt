-- An index of the sections of an image maps RVAs as the sections do.
use Rattle.std.proofs.Common.{◌≡◌, ℕ, zero, suc, ◌+◌, ◌-◌, ◌*◌, ◌^◌, ◌<◌, ◌≤◌, Bool, true, false, cond, List, [], ◌∷◌, length, take, drop, filter, Option, Some, None, refl, ap, ◌∙◌, ◌&&◌, arith, rules}
use Rattle.calls_base.proofs.Cited.{nat_le, nat_lt, is_power_of_two, slice_get, option_and_then, option_map, cases_lt, nat_tests}
use Rattle.calls_base.proofs.Cited.{SectionTable, EndBelow, Indexes, number_at, covers, first, offset_of, reach, Image, View, RangeEntry}
use Rattle.calls_base.proofs.Cited.{resolves, number_found, numbered, sections_by, entries_needed, is_searched, HasIndex, IsIndexOf}
use Rattle.calls_base.proofs.Cited.{MakesIndex, WritesIndex, both}
use Rattle.std.specs.List.{position}
use Rattle.calls_base.specs.MapRanges.{range_at, range_in}
use Rattle.calls_base.specs.Maps.{section_at}
use Rattle.calls_base.proofs.IndexFound.{Covers, covers_of, first_owner, found_at, numbered_first, numbered_none, numbered_some}

offset_same : (resolve : Bool) (alignment x : ℕ) (s t : List SectionTable) → first (filter (covers alignment x) s) ≡ first (filter (covers alignment x) t) → offset_of resolve alignment s x ≡ offset_of resolve alignment t x
unfolding offset_of
offset_same resolve alignment x s t e = grind arith

-- the index of the section that covers an RVA
index_in : ℕ → ℕ → List SectionTable → Option ℕ
index_in alignment x s = position (covers alignment x) s

at : (n i len : ℕ) → n ≡ i → i < len → cond (nat_lt n len) (Some n) None ≡ Some i
at n i len e h = let t : nat_lt n len ≡ true = grind (arith, nat_tests) in rw t (ap (λ (k : ℕ). Some k) e)

past : (n len : ℕ) → n ≡ len → cond (nat_lt n len) (Some n) None ≡ None
past n len e = let t : nat_lt n len ≡ false = grind (arith, nat_tests) in rw t refl

one_section : (alignment x : ℕ) (s : SectionTable) → covers alignment x s ≡ true → index_in alignment x (s ∷ []) ≡ Some 0
unfolding index_in
one_section alignment x s e = rw e refl

named_index : (alignment x n : ℕ) (ss : List SectionTable) → n ≡ first_owner alignment x 0 ss → Covers alignment x 0 (first_owner alignment x 0 ss) ss → option_map (λ i. n - 1) (index_in alignment x (numbered ss n)) ≡ index_in alignment x ss
unfolding index_in
named_index alignment x n ss e i = grind (arith, index_in, numbered_none, past, numbered_some, one_section, at)

-- the section at an index
got : (ss : List SectionTable) (i : ℕ) (s : SectionTable) → take 1 (drop i ss) ≡ s ∷ [] → slice_get ss i ≡ Some s
got [] zero s e = absurd cc
got [] (suc i) s e = absurd cc
got (t ∷ ss) zero s e = cc
got (t ∷ ss) (suc i) s e = got ss i s e

-- what is read of the first section that covers an RVA
picked : {Y : Type 0} → (SectionTable → Option Y) → ℕ → ℕ → List SectionTable → Option Y
picked f alignment x ss = option_and_then (λ i. option_and_then f (slice_get ss i)) (index_in alignment x ss)

named_picked : {Y : Type 0} (f : SectionTable → Option Y) (alignment x n : ℕ) (ss : List SectionTable) → n ≡ first_owner alignment x 0 ss → Covers alignment x 0 (first_owner alignment x 0 ss) ss → picked f alignment x (numbered ss n) ≡ picked f alignment x ss
unfolding picked index_in
named_picked f alignment x n ss e i = grind (arith, picked, numbered_none, past, numbered_some, one_section, got, at)

range_of_picked : (b : List ℕ) (image : Image) (s : List SectionTable) (x : ℕ) → is_searched image ≡ true → range_at b image s x ≡ picked (range_in b image.file_alignment x) image.file_alignment x s
unfolding picked index_in
range_of_picked b image s x e =
    let tests : (resolves image.mode ≡ true) × (is_power_of_two image.file_alignment ≡ true) = both (resolves image.mode) (is_power_of_two image.file_alignment) e in
    rw (tests.0, tests.1) refl

section_in : (image : Image) (s : List SectionTable) (x : ℕ) → is_searched image ≡ true → section_at image s x ≡ index_in image.file_alignment x s
unfolding index_in
section_in image s x e = grind (arith, both)

-- no entries are an index of any sections: all of them are tested
pub none_made : (image : Image) (sections : List SectionTable) (es : List RangeEntry) → es ≡ [] → IsIndexOf image sections es
unfolding sections_by
none_made image sections es e = rw e (record { maps = λ x. refl; owners = λ x. refl; ranges = λ b x. refl })

some_made : (image : Image) (sections : List SectionTable) (e : RangeEntry) (es : List RangeEntry) → is_searched image ≡ true → ((x : ℕ) → number_found (e ∷ es) x ≡ first_owner image.file_alignment x 0 sections) → IsIndexOf image sections (e ∷ es)
unfolding sections_by
some_made image sections e es searched numbers =
    search (rules, arith, offset_same, numbered_first, section_in, named_index, covers_of, range_of_picked, named_picked)

-- the entries are those of the sections as ranges of RVAs, each of which ends before the last address
abbrev Made : ℕ → List SectionTable → List RangeEntry → Type 0
Made alignment ss es = Indexes (λ (s : SectionTable). s.virtual_address) (reach alignment) 0 ss es × EndBelow (λ (s : SectionTable). s.virtual_address) (reach alignment) (2 ^ 34) ss

after : (a x b : ℕ) → b ≤ x → (nat_le a x && nat_lt x b) ≡ false
after a x b h = grind (arith, nat_tests)

none_past : (alignment x base : ℕ) (ss : List SectionTable) → EndBelow (λ (s : SectionTable). s.virtual_address) (reach alignment) (2 ^ 34) ss → 2 ^ 34 ≤ x → first_owner alignment x base ss ≡ 0
none_past alignment x base [] ends h = refl
none_past alignment x base (s ∷ ss) ends h =
    let end : s.virtual_address + reach alignment s < 2 ^ 34 = ends 0 s (omega arith) in
    ap (λ b. cond b (base + 1) (first_owner alignment x (base + 1) ss)) (after s.virtual_address x (s.virtual_address + reach alignment s) (omega (arith, end, h)))
    ∙ none_past alignment x (base + 1) ss (λ k d l. ends (suc k) d (omega (arith, l))) h

-- by the entries each RVA has the number of the first section that covers it
numbers_all : (alignment x : ℕ) (ss : List SectionTable) (es : List RangeEntry) → Made alignment ss es → number_at es x ≡ first_owner alignment x 0 ss
numbers_all alignment x ss es m = grind (arith, none_past, cases_lt)

-- the entries that are made are an index
made : (image : Image) (sections : List SectionTable) (es : List RangeEntry) → is_searched image ≡ true → Made image.file_alignment sections es → length es < 2 ^ 64 → IsIndexOf image sections es
made image sections [] searched m small = none_made image sections [] refl
made image sections (e ∷ es) searched m small = some_made image sections e es searched (λ x. found_at (e ∷ es) x m.0.rises small ∙ numbers_all image.file_alignment x sections (e ∷ es) m)

finished : (image : Image) (sections : List SectionTable) (old new : List RangeEntry) (written : ℕ) → nat_lt (length old) (entries_needed image sections) ≡ false → WritesIndex image sections 0 old new written → MakesIndex image sections 0 old new written
finished image sections old new written e w = rw e w

-- no section is searched
pub unsearched : (image : Image) (sections : List SectionTable) (room : List RangeEntry) → is_searched image ≡ false → MakesIndex image sections 0 room room 0
unsearched image sections room e = grind (arith, nat_tests, finished, none_made)

-- the index is made
pub searched_all : (image : Image) (sections : List SectionTable) (old new : List RangeEntry) (n : ℕ) → is_searched image ≡ true → n < 2 ^ 64 → 4 * length sections ≤ length old → n ≡ 2 * length sections → Made image.file_alignment sections (take n new) → drop (2 * n) new ≡ drop (2 * n) old → MakesIndex image sections 0 old new n
searched_all image sections old new n e small room is m rest = grind (arith, nat_tests, finished, made)

-- ---- without entries

pub without_entries : (v : View) → v.index.now ≡ [] → HasIndex v
without_entries v none = none_made v.image.now v.sections.now v.index.now none
