-- Entries of one width, from the front.
use Rattle.std.proofs.Common.{◌≡◌, ℕ, zero, suc, ◌+◌, ◌-◌, ◌*◌, ◌/◌, ◌%◌, ◌^◌, ◌<◌, ◌≤◌, ◌==◌, min, List, [], ◌∷◌, ◌++◌, length, map, drop, get_or, Result, Ok, Err, if◌then◌else◌, refl, ap, sym, ◌∙◌, false, length-append, length-drop, arith}
use Rattle.std.specs.Int.{div_ceil}
use Rattle.std.specs.List.{range_with_len}
use Rattle.std.proofs.lemmas.List.{get_or-drop, length-map, nil_from_length}
use Rattle.std.proofs.lemmas.List.FromFn.{map-range_with_len_more, get_or-map-range_with_len}
use Rattle.std.proofs.lemmas.Bool.Decides.{nat_tests}
use Rattle.std.proofs.Math.Nat.{div-eq-sub-div, div-eq_of_lt, mod-eq_of_lt, mod-eq-sub-mod}
use Rattle.pe_core.specs.Bytes.{le}
use Rattle.pe_core.specs.Refusals.{Refusal, Short}
use Rattle.pe_core.specs.Rows.{ReadsAfter, each, whole_entries, entry_items}

-- ---- lists of f 0 to f (n - 1)

pub each_as_map : {X : Type 0} (f : ℕ → X) (n : ℕ) → map f (range_with_len 0 n) ≡ each f n
unfolding each
each_as_map f zero = refl
each_as_map {X} f (suc n) =
    let one_more : suc n ≡ n + 1 = omega arith in
    ap (λ (k : ℕ). map f (range_with_len 0 k)) one_more ∙ map-range_with_len_more f 0 n n (omega arith) ∙ ap (λ (xs : List X). xs ++ f n ∷ []) (each_as_map f n)

pub length-each : {X : Type 0} (f : ℕ → X) (n : ℕ) → length (each f n) ≡ n
unfolding each
length-each f zero = refl
length-each f (suc n) = simp length-append (omega (arith, length-each f n))

pub get_or-each : {X : Type 0} (f : ℕ → X) (n i : ℕ) (d : X) → i < n → get_or (each f n) i d ≡ f i
get_or-each {X} f n i d h =
    ap (λ (xs : List X). get_or xs i d) (sym (each_as_map f n)) ∙ get_or-map-range_with_len f 0 n i i d h (omega arith)

pub each_same : {X : Type 0} (f g : ℕ → X) (n : ℕ) → ((k : ℕ) → k < n → f k ≡ g k) → each f n ≡ each g n
unfolding each
each_same f g zero h = refl
each_same {X} f g (suc n) h =
    ap (λ (xs : List X). xs ++ f n ∷ []) (each_same f g n (λ k lt. h k (omega (arith, lt)))) ∙ ap (λ (x : X). each g n ++ x ∷ []) (h n (omega arith))

pub each_front : {X : Type 0} (f g : ℕ → X) (n : ℕ) → ((i : ℕ) → f (suc i) ≡ g i) → each f (suc n) ≡ f 0 ∷ each g n
unfolding each
each_front f g zero h = refl
each_front {X} f g (suc n) h = ap (λ (xs : List X). xs ++ f (suc n) ∷ []) (each_front f g n h) ∙ ap (λ (x : X). f 0 ∷ (each g n ++ x ∷ [])) (h n)

pub none_of_none : {X : Type 0} (f : ℕ → X) → each f 0 ≡ []
unfolding each
none_of_none f = refl

-- ---- entries

-- a number after the k bytes that are dropped
pub le_after : (b : List ℕ) (k p q n : ℕ) → q ≡ k + p → le (drop k b) p n ≡ le b q n
unfolding le
le_after b k p q zero e = refl
le_after b k p q (suc n) e =
    let here : get_or (drop k b) (p + n) 0 ≡ get_or b (q + n) 0 = get_or-drop k b (p + n) 0 ∙ ap (λ (i : ℕ). get_or b i 0) (omega arith) in
    ap (λ (x : ℕ). x + get_or (drop k b) (p + n) 0 * 256 ^ n) (le_after b k p q n e) ∙ ap (λ (x : ℕ). le b q n + x * 256 ^ n) here

-- one whole entry and those after it
pub whole_entries_more : {X : Type 0} (entry_at : List ℕ → ℕ → X) (w : ℕ) (b : List ℕ) → ReadsAfter entry_at w → 0 < w → w ≤ length b → whole_entries entry_at w b ≡ entry_at b 0 ∷ whole_entries entry_at w (drop w b)
whole_entries_more {X} entry_at w b after some h =
    let fewer : length b / w ≡ (length b - w) / w + 1 = div-eq-sub-div some h in
    let n : length b / w ≡ suc (length (drop w b) / w) = rw (length-drop w b) (omega (arith, fewer)) in
    let first : w * 0 ≡ 0 = omega arith in
    ap (λ (k : ℕ). each (λ i. entry_at b (w * i)) k) n
    ∙ each_front (λ i. entry_at b (w * i)) (λ i. entry_at (drop w b) (w * i)) (length (drop w b) / w) (λ i. sym (after b (w * i) (w * suc i) (grind arith)))
    ∙ ap (λ (p : ℕ). entry_at b p ∷ whole_entries entry_at w (drop w b)) first

-- fewer bytes than one entry has
pub whole_entries_none : {X : Type 0} (entry_at : List ℕ → ℕ → X) (w : ℕ) (b : List ℕ) → length b < w → whole_entries entry_at w b ≡ []
whole_entries_none entry_at w b h =
    ap (λ (k : ℕ). each (λ i. entry_at b (w * i)) k) (div-eq_of_lt h) ∙ none_of_none (λ i. entry_at b (w * i))

pub count_of_whole_entries : {X : Type 0} (entry_at : List ℕ → ℕ → X) (w : ℕ) (b : List ℕ) → length (whole_entries entry_at w b) ≡ length b / w
count_of_whole_entries entry_at w b = length-each (λ i. entry_at b (w * i)) (length b / w)

pub get_or-whole_entries : {X : Type 0} (entry_at : List ℕ → ℕ → X) (w : ℕ) (b : List ℕ) (i : ℕ) (d : X) → i < length b / w → get_or (whole_entries entry_at w b) i d ≡ entry_at b (w * i)
get_or-whole_entries entry_at w b i d h = get_or-each (λ j. entry_at b (w * j)) (length b / w) i d h

-- one item and those after it
pub entry_items_more : {X : Type 0} (entry_at : List ℕ → ℕ → X) (w : ℕ) (b : List ℕ) → ReadsAfter entry_at w → 0 < w → w ≤ length b → entry_items entry_at w b ≡ Ok (entry_at b 0) ∷ entry_items entry_at w (drop w b)
unfolding entry_items
entry_items_more {X} entry_at w b after some h =
    let rest : length b % w ≡ length (drop w b) % w = rw (length-drop w b) (mod-eq-sub-mod h) in
    ap (λ (xs : List X). map (λ x. Ok x) xs ++ (if length b % w == 0 then [] else Err Short ∷ [])) (whole_entries_more entry_at w b after some h)
    ∙ ap (λ (k : ℕ). Ok (entry_at b 0) ∷ (map (λ x. Ok x) (whole_entries entry_at w (drop w b)) ++ (if k == 0 then [] else Err Short ∷ []))) rest

-- a truncated entry and nothing after it
nothing : {X : Type 0} (entry_at : List ℕ → ℕ → X) (w : ℕ) → 0 < w → entry_items entry_at w [] ≡ []
unfolding entry_items
nothing {X} entry_at w some =
    let none : 0 % w ≡ 0 = mod-eq_of_lt some in
    ap (λ (xs : List X). map (λ x. Ok x) xs ++ (if 0 % w == 0 then [] else Err Short ∷ [])) (whole_entries_none entry_at w [] some)
    ∙ ap (λ (k : ℕ). if k == 0 then [] else Err Short ∷ []) none

pub entry_items_none : {X : Type 0} (entry_at : List ℕ → ℕ → X) (w : ℕ) (b : List ℕ) → 0 < w → length b ≡ 0 → entry_items entry_at w b ≡ []
entry_items_none entry_at w b some e = ap (entry_items entry_at w) (nil_from_length b e) ∙ nothing entry_at w some

pub entry_items_cut : {X : Type 0} (entry_at : List ℕ → ℕ → X) (w : ℕ) (b left : List ℕ) → 0 < length b → length b < w → length left ≡ 0 → entry_items entry_at w b ≡ Err Short ∷ entry_items entry_at w left
unfolding entry_items
entry_items_cut {X} entry_at w b left some cut e =
    let rest : length b % w ≡ length b = mod-eq_of_lt cut in
    let t : (length b % w == 0) ≡ false = grind (arith, nat_tests) in
    ap (λ (xs : List X). map (λ x. Ok x) xs ++ (if length b % w == 0 then [] else Err Short ∷ [])) (whole_entries_none entry_at w b cut)
    ∙ rw t (ap (λ (xs : List (Result X Refusal)). Err Short ∷ xs) (sym (entry_items_none entry_at w left (omega arith) e)))

pub length-entry_items : {X : Type 0} (entry_at : List ℕ → ℕ → X) (w : ℕ) (b : List ℕ) → length (entry_items entry_at w b) ≡ length b / w + min 1 (length b % w)
unfolding entry_items
length-entry_items entry_at w b = simp (length-append, length-map, length-each) (grind (arith, nat_tests))

-- the same as a quotient that is rounded up
pub count_of_entry_items : {X : Type 0} (entry_at : List ℕ → ℕ → X) (w : ℕ) (b : List ℕ) → length (entry_items entry_at w b) ≡ div_ceil (length b) w
count_of_entry_items entry_at w b = length-entry_items entry_at w b
