-- The section map of an image in whose resource section alone a size in memory changes.
use Rattle.std.proofs.Common.{◌≡◌, ℕ, zero, suc, ◌+◌, ◌-◌, ◌<◌, ◌≤◌, ◌≢◌, Bool, true, false, List, [], ◌∷◌, ◌++◌, map, max, Option, Some, None, refl, ap, sym, ◌∙◌, subst, ⊎_elim, arith}
use Rattle.pe_rewrite.proofs.Cited.{filter, not, if◌then◌else◌, is_power_of_two, option_map, cases_lt, nat_tests, add-mul}
use Rattle.pe_rewrite.proofs.Cited.{le-div_iff_mul-le, lt-div-mul-add, mul-le-mul_right, one-mul, each, covers, first, offset_by}
use Rattle.pe_rewrite.proofs.Cited.{offset_of, section_map, raw_start, rounded_up, raw_end, ParseOptions, SectionTable, each_same}
use Rattle.pe_rewrite.proofs.Cited.{pages_end}
use Rattle.pe_core.specs.Options.{default_options}
use Rattle.pe_core.proofs.Reaches.{outside, past_raw_end, reach_by_raw}

-- ---- the first of options

abbrev pub first_some : List (Option ℕ) → Option ℕ
first_some [] = None
first_some (None ∷ xs) = first_some xs
first_some ((Some x) ∷ xs) = Some x

abbrev or_else : Option ℕ → Option ℕ → Option ℕ
or_else None o = o
or_else (Some x) o = Some x

one_more : (y : Option ℕ) → first_some (y ∷ []) ≡ y
one_more y = grind arith

first_push : (xs : List (Option ℕ)) (y : Option ℕ) → first_some (xs ++ y ∷ []) ≡ or_else (first_some xs) y
first_push [] y = one_more y
first_push (None ∷ xs) y = first_push xs y
first_push ((Some x) ∷ xs) y = refl

first_each : (g : ℕ → Option ℕ) (n : ℕ) → first_some (each g (suc n)) ≡ or_else (first_some (each g n)) (g n)
unfolding each
first_each g n = first_push (each g n) (g n)

first_none : (g : ℕ → Option ℕ) → first_some (each g 0) ≡ None
unfolding each
first_none g = refl

pub none_each : (g : ℕ → Option ℕ) (n : ℕ) → ((k : ℕ) → k < n → g k ≡ None) → first_some (each g n) ≡ None
none_each g zero h = first_none g
none_each g (suc n) h = first_each g n ∙ ap (λ o. or_else o (g n)) (none_each g n (λ k lt. h k (omega (arith, lt)))) ∙ h n (omega arith)

-- one alone is there
pub only_each : (g : ℕ → Option ℕ) (n i v : ℕ) → i < n → g i ≡ Some v → ((k : ℕ) → k < n → k ≢ i → g k ≡ None) → first_some (each g n) ≡ Some v
only_each g zero i v lt e h = absurd (omega arith)
only_each g (suc n) i v lt e h =
    first_each g n ∙ ⊎_elim
    (λ (below : i < n).
    ap (λ o. or_else o (g n)) (only_each g n i v below e (λ k small other. h k (omega (arith, small)) other)))
    (λ (from : n ≤ i).
    let is : n ≡ i = omega arith in
    ap (λ o. or_else o (g n)) (none_each g n (λ k small. h k (omega (arith, small)) (omega (arith, small, is)))) ∙ ap g is ∙ e)
    (cases_lt i n)

-- ---- the map, section by section

by_sections : (alignment a : ℕ) (ss : List SectionTable) → first_some (map (offset_by alignment a) ss) ≡ option_map (λ (x : SectionTable). a - x.virtual_address + raw_start x) (first (filter (covers alignment a) ss))
by_sections alignment a [] = refl
by_sections alignment a (s ∷ ss) = grind (arith, by_sections alignment a ss)

map_push : {X Y : Type 0} (h : X → Y) (xs : List X) (y : X) → map h (xs ++ y ∷ []) ≡ map h xs ++ h y ∷ []
map_push h [] y = refl
map_push h (x ∷ xs) y = ap (λ l. h x ∷ l) (map_push h xs y)

map_each : {X Y : Type 0} (h : X → Y) (f : ℕ → X) (n : ℕ) → map h (each f n) ≡ each (λ k. h (f k)) n
unfolding each
map_each h f zero = refl
map_each h f (suc n) = map_push h (each f n) (f n) ∙ ap (λ l. l ++ h (f n) ∷ []) (map_each h f n)

-- the map by the offset of each section
abbrev pub offset_each : Bool → ℕ → (ℕ → SectionTable) → ℕ → ℕ → Option ℕ
offset_each resolve alignment f n a =
    if not resolve then Some a
    else (if is_power_of_two alignment then first_some (each (λ k. offset_by alignment a (f k)) n) else None)

pub by_each : (resolve : Bool) (alignment : ℕ) (f : ℕ → SectionTable) (n a : ℕ) → offset_of resolve alignment (each f n) a ≡ offset_each resolve alignment f n a
unfolding offset_of
by_each resolve alignment f n a = grind (arith, map_each (offset_by alignment a) f n, by_sections alignment a (each f n))

map_step : (alignment a n : ℕ) (f : ℕ → SectionTable) → offset_of true alignment (each f (suc n)) a ≡ or_else (offset_of true alignment (each f n) a) (offset_of true alignment (f n ∷ []) a)
unfolding each
map_step alignment a n f =
    let g : ℕ → Option ℕ = λ k. offset_by alignment a (f k) in
    let power : Bool = is_power_of_two alignment in
    let one : offset_of true alignment (f n ∷ []) a ≡ (if power then g n else None) = by_each true alignment (λ k. f n) 1 a ∙ ap (λ (o : Option ℕ). if power then o else None) (one_more (g n)) in
    by_each true alignment f (suc n) a ∙ ap (λ (o : Option ℕ). if power then o else None) (first_each g n) ∙ grind arith
    ∙ ap (λ (o : Option ℕ). or_else o (if power then g n else None)) (sym (by_each true alignment f n a))
    ∙ ap (λ (o : Option ℕ). or_else (offset_of true alignment (each f n) a) o) (sym one)

-- no section leads there, so far
pub map_start : (alignment a : ℕ) (f : ℕ → SectionTable) → offset_of true alignment (each f 0) a ≡ None
map_start alignment a f = grind (arith, by_each, first_none)

-- the first that does
pub map_found : (alignment a q n i : ℕ) (f : ℕ → SectionTable) → i < n → offset_of true alignment (each f i) a ≡ None → offset_of true alignment (f i ∷ []) a ≡ Some q → offset_of true alignment (each f n) a ≡ Some q
map_found alignment a q zero i f lt none some = absurd (omega (arith, lt))
map_found alignment a q (suc n) i f lt none some =
    let last : ℕ → Option ℕ = λ k. offset_of true alignment (f k ∷ []) a in
    map_step alignment a n f ∙ ⊎_elim
    (λ (below : i < n). ap (λ (o : Option ℕ). or_else o (last n)) (map_found alignment a q n i f below none some))
    (λ (from : n ≤ i).
    let is : n ≡ i = omega (arith, from, lt) in
    ap (λ (o : Option ℕ). or_else o (last n)) (ap (λ (k : ℕ). offset_of true alignment (each f k) a) is ∙ none) ∙ ap last is ∙ some)
    (cases_lt i n)

-- so that the map of one section with the default options says it
pub one_section : (o : ParseOptions) (alignment a : ℕ) (s t : SectionTable) (v : Option ℕ) → o ≡ default_options → s ≡ t → v ≡ section_map o (s ∷ []) alignment a → offset_of true alignment (t ∷ []) a ≡ v
one_section o alignment a s t v all same is = grind arith

pub map_next : (alignment a n : ℕ) (f : ℕ → SectionTable) → offset_of true alignment (each f n) a ≡ None → offset_of true alignment (f n ∷ []) a ≡ None → offset_of true alignment (each f (n + 1)) a ≡ None
map_next alignment a n f none last =
    let next : suc n ≡ n + 1 = omega arith in
    subst (λ (k : ℕ). offset_of true alignment (each f k) a ≡ None) next
    (map_step alignment a n f ∙ ap (λ (o : Option ℕ). or_else o (offset_of true alignment (f n ∷ []) a)) none ∙ last)

-- sections that lead to the same offsets
pub maps_alike : (resolve : Bool) (alignment : ℕ) (f g : ℕ → SectionTable) (n a : ℕ) → ((k : ℕ) → k < n → offset_by alignment a (f k) ≡ offset_by alignment a (g k)) →
    offset_of resolve alignment (each f n) a ≡ offset_of resolve alignment (each g n) a
maps_alike resolve alignment f g n a same = grind (arith, by_each, each_same)

-- sections that lead to the same offsets, but for the one with index i, which may be one more and does not cover the RVA
pub maps_but_one : (resolve : Bool) (alignment : ℕ) (f g : ℕ → SectionTable) (m n i a : ℕ) → m ≡ max n (i + 1) → i ≤ n → ((k : ℕ) → k < n → k ≢ i → offset_by alignment a (f k) ≡ offset_by alignment a (g k)) →
    offset_by alignment a (f i) ≡ None → (i < n → offset_by alignment a (g i) ≡ None) → offset_of resolve alignment (each f m) a ≡ offset_of resolve alignment (each g n) a
maps_but_one resolve alignment f g m n i a count le same own old =
    ⊎_elim
    (λ (lt : i < n).
    let all : m ≡ n = omega (arith, count, lt) in
    ap (λ (j : ℕ). offset_of resolve alignment (each f j) a) all
    ∙ maps_alike resolve alignment f g n a
    (λ k small. ⊎_elim
    (λ (below : k < i). same k small (omega (arith, below)))
    (λ (from : i ≤ k). ⊎_elim
    (λ (above : i < k). same k small (omega (arith, above)))
    (λ (to : k ≤ i).
    let is : k ≡ i = omega (arith, from, to) in
    ap (λ (j : ℕ). offset_by alignment a (f j)) is ∙ own ∙ sym (ap (λ (j : ℕ). offset_by alignment a (g j)) is ∙ old lt))
    (cases_lt i k))
    (cases_lt k i)))
    (λ (ge : n ≤ i).
    let last : i ≡ n = omega (arith, ge, le) in
    let all : m ≡ suc n = omega (arith, count, last) in
    ap (λ (j : ℕ). offset_of resolve alignment (each f j) a) all
    ∙ grind (arith, by_each, first_each, ap (λ (j : ℕ). offset_by alignment a (f j)) (sym last) ∙ own)
    ∙ maps_alike resolve alignment f g n a (λ k small. same k small (omega (arith, small, last))))
    (cases_lt i n)

-- one section alone covers an RVA
pub maps_by : (alignment : ℕ) (f : ℕ → SectionTable) (n a i : ℕ) → is_power_of_two alignment ≡ true → i < n → covers alignment a (f i) ≡ true → ((k : ℕ) → k < n → k ≢ i → covers alignment a (f k) ≡ false) →
    offset_of true alignment (each f n) a ≡ Some (a - (f i).virtual_address + raw_start (f i))
maps_by alignment f n a i power lt here none =
    let g : ℕ → Option ℕ = λ k. offset_by alignment a (f k) in
    by_each true alignment f n a
    ∙ ap (λ (t : Bool). if t then first_some (each g n) else None) power
    ∙ only_each g n i (a - (f i).virtual_address + raw_start (f i)) lt
    (ap (λ (t : Bool). if t then Some (a - (f i).virtual_address + raw_start (f i)) else None) here)
    (λ k small other. ap (λ (t : Bool). if t then Some (a - (f k).virtual_address + raw_start (f k)) else None) (none k small other))

-- ---- one section

-- a section does not cover an RVA before it, or after its pages
pub covers_none : (alignment a : ℕ) (s : SectionTable) → (s.virtual_address ≤ a → pages_end s ≤ a) → covers alignment a s ≡ false
covers_none alignment a s h = grind (arith, reach_by_raw, outside)

pub offset_none : (alignment a : ℕ) (s : SectionTable) → (s.virtual_address ≤ a → pages_end s ≤ a) → offset_by alignment a s ≡ None
offset_none alignment a s h = ap (λ (t : Bool). if t then Some (a - s.virtual_address + raw_start s) else None) (covers_none alignment a s h)

-- ---- the section that an offset is of

pub record Found (g : ℕ → Option ℕ) (n v : ℕ) : Type 0 where
  pub index : ℕ
  pub below : index < n
  pub is : g index ≡ Some v

pub found_each : (g : ℕ → Option ℕ) (n v : ℕ) → first_some (each g n) ≡ Some v → Found g n v
found_each g zero v e = absurd (let none : first_some (each g 0) ≡ None = first_none g in cc)
found_each g (suc n) v e = grind (arith, sym (first_each g n) ∙ e, found_each g n v)

pub record Covered (alignment a q : ℕ) (s : SectionTable) : Type 0 where
  pub covers : covers alignment a s ≡ true
  pub offset : q ≡ a - s.virtual_address + raw_start s

pub covered_of : (alignment a q : ℕ) (s : SectionTable) → offset_by alignment a s ≡ Some q → Covered alignment a q s
covered_of alignment a q s h = grind arith

-- what is mapped by a section ends before its data's end, rounded up to the alignment
pub covered_end : (alignment a q : ℕ) (s : SectionTable) → 0 < alignment → Covered alignment a q s → q < rounded_up (raw_end s) alignment
covered_end alignment a q s some c =
    grind (arith, nat_tests, past_raw_end, lt-div-mul-add, add-mul, one-mul, le-div_iff_mul-le, mul-le-mul_right)
