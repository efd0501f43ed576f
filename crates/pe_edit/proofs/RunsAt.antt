-- The leaves of one entry, in a slice of leaves.
use Rattle.std.proofs.Common.{◌≡◌, ℕ, ◌+◌, ◌-◌, ◌<◌, ◌≤◌, Bool, true, false, List, [], ◌∷◌, ◌++◌, length, take, drop, get_or, ap, sym, ◌∙◌, subst, arith, length-drop}
use Rattle.pe_edit.proofs.Cited.{drop_more, drop_all, drop-drop, length-take-le, take-append-drop, Level, IsRunAt, alike}
use Rattle.pe_edit.proofs.Cited.{key_of_run, runs_of, run_length, runs, no_leaf, Each, Leaf, NameFits, NamesFit}
use Rattle.pe_edit.proofs.Runs.{Counts, counts_more, counts_end, counts_all, first_run, some_length, run_inside, take_front, each_drop, each_left}

-- the leaf with an index, and those after it
pub leaf_at : (xs : List Leaf) (i : ℕ) (x : Leaf) → i < length xs → x ≡ get_or xs i no_leaf → drop i xs ≡ x ∷ drop (i + 1) xs
leaf_at xs i x h e = drop_more xs i no_leaf h ∙ ap (λ (y : Leaf). y ∷ drop (i + 1) xs) (sym e)

-- ---- the count of the first run

test_at : (level : Level) (xs : List Leaf) (n : ℕ) (x y : Leaf) (t u : Bool) → x ≡ get_or xs (n - 1) no_leaf → y ≡ get_or xs n no_leaf → t ≡ alike level x y → t ≡ u →
    alike level (get_or xs (n - 1) no_leaf) (get_or xs n no_leaf) ≡ u
test_at level xs n x y t u is_x is_y e f = grind arith

pub run_more : (level : Level) (xs : List Leaf) (n : ℕ) (x y : Leaf) (t : Bool) → n < length xs → x ≡ get_or xs (n - 1) no_leaf → y ≡ get_or xs n no_leaf → t ≡ alike level x y → t ≡ true →
    Counts (alike level) xs n → Counts (alike level) xs (n + 1)
run_more level xs n x y t h is_x is_y e f c = counts_more (alike level) xs n no_leaf h (test_at level xs n x y t true is_x is_y e f) c

pub run_end : (level : Level) (xs : List Leaf) (n : ℕ) (x y : Leaf) (t : Bool) → n < length xs → x ≡ get_or xs (n - 1) no_leaf → y ≡ get_or xs n no_leaf → t ≡ alike level x y → t ≡ false →
    Counts (alike level) xs n → n ≡ run_length (alike level) xs
run_end level xs n x y t h is_x is_y e f c = counts_end (alike level) xs n no_leaf h (test_at level xs n x y t false is_x is_y e f) c

pub run_all : (level : Level) (xs : List Leaf) (n : ℕ) → length xs ≤ n → Counts (alike level) xs n → n ≡ run_length (alike level) xs
run_all level xs n h c = counts_all (alike level) xs n no_leaf h c

-- ---- one run

record FirstRun (same : Leaf → Leaf → Bool) (zs : List Leaf) : Type 0 where
  pub first : Leaf
  pub others : List Leaf
  pub is : take (run_length same zs) zs ≡ first ∷ others
  pub found : runs same zs ≡ (first, others) ∷ runs same (drop (run_length same zs) zs)

first_of : (same : Leaf → Leaf → Bool) (zs : List Leaf) → 0 < length zs → FirstRun same zs
first_of same [] h = absurd (omega (arith, h))
first_of same (y ∷ ys) h =
    let k : ℕ = run_length same (y ∷ ys) in
    record {
      first = y;
      others = take (k - 1) ys;
      is = take_front y ys k (some_length same y ys);
      found = first_run same y ys;
    }

pub is_run_at : (level : Level) (xs left run : List Leaf) (start n : ℕ) → start < length xs → left ≡ drop start xs → n ≡ run_length (alike level) left → run ≡ take n left → IsRunAt level xs start run
is_run_at level xs left run start n h e c r =
    let zs : List Leaf = drop start xs in
    let count : n ≡ run_length (alike level) zs = c ∙ ap (run_length (alike level)) e in
    let views : run ≡ take n zs = r ∙ ap (take n) e in
    let all : length zs + start ≡ length xs = omega (arith, length-drop start xs, h) in
    let found : FirstRun (alike level) zs = first_of (alike level) zs (omega (arith, all, h)) in
    let inside : n ≤ length zs = omega (arith, count, run_inside (alike level) zs) in
    let size : length run ≡ n = ap length views ∙ length-take-le n zs inside in
    let rest : drop n zs ≡ drop (start + length run) xs = drop-drop n start xs ∙ ap (λ (k : ℕ). drop (start + k) xs) (sym size) in
    record {
      first = found.first;
      others = found.others;
      is = views ∙ ap (λ (k : ℕ). take k zs) count ∙ found.is;
      inside = omega (arith, size, inside, all);
      left = sym (take-append-drop n zs) ∙ ap (λ (l : List Leaf). l ++ drop n zs) (sym views) ∙ ap (λ (l : List Leaf). run ++ l) rest;
      found = found.found ∙ ap (λ (k : ℕ). (found.first, found.others) ∷ runs (alike level) (drop k zs)) (sym count) ∙ ap (λ (l : List Leaf). (found.first, found.others) ∷ runs (alike level) l) rest;
    }

-- ---- what is known of a run

pub run_fits : (level : Level) (xs r : List Leaf) (start : ℕ) → IsRunAt level xs start r → Each NamesFit xs → Each NamesFit r
run_fits level xs r start k f = each_left NamesFit r (drop (start + length r) xs) (subst (λ (l : List Leaf). Each NamesFit l) k.left (each_drop NamesFit start xs f))

pub run_key_fits : (level : Level) (xs r : List Leaf) (start : ℕ) → IsRunAt level xs start r → Each NamesFit xs → NameFits (key_of_run level r)
run_key_fits level xs r start k f = grind (arith, run_fits level xs r start k f)

pub no_runs_at : (level : Level) (xs : List Leaf) (start : ℕ) → length xs ≤ start → runs_of level (drop start xs) ≡ []
unfolding runs
no_runs_at level xs start h = ap (runs (alike level)) (drop_all start xs h)

pub run_within : (level : Level) (left : List Leaf) (n : ℕ) → n ≡ run_length (alike level) left → n ≤ length left
run_within level left n e = omega (arith, e, run_inside (alike level) left)
