-- The runs of a list are the list.
use Rattle.std.proofs.Common.{◌-◌, take, drop, get_or, ◌≡◌, ℕ, zero, suc, ◌+◌, ◌<◌, ◌≤◌, Bool, true, false, List, [], ◌∷◌, ◌++◌, length, if◌then◌else◌, refl, ap, ◌∙◌, arith}
use Rattle.pe_edit.proofs.Cited.{flat_map, drop_more, drop_all, elements, in_front, runs, run_length, Each}

pub runs_all : {X : Type 0} (alike : X → X → Bool) (xs : List X) → flat_map elements (runs alike xs) ≡ xs
unfolding runs
runs_all alike [] = refl
runs_all {X} alike (x ∷ xs) = grind arith ∙ ap (λ (l : List X). x ∷ l) (runs_all alike xs)

-- each element has this key
abbrev pub EachHas : {X K : Type 0} → (X → K) → K → List X → Type 0
EachHas key k xs = Each (λ x. key x ≡ k) xs

-- in each run the elements have the key of the first
abbrev pub RunsAlike : {X K : Type 0} → (X → K) → List (X × List X) → Type 0
RunsAlike key [] = Unit {0}
RunsAlike key (r ∷ rs) = EachHas key (key r.0) r.1 × RunsAlike key rs

each_moved : {X K : Type 0} (key : X → K) (j k : K) (xs : List X) → j ≡ k → EachHas key j xs → EachHas key k xs
each_moved key j k xs e h = grind arith

pub runs_alike : {X K : Type 0} (key : X → K) (alike : X → X → Bool) (xs : List X) → ((x y : X) → alike x y ≡ true → key x ≡ key y) → RunsAlike key (runs alike xs)
unfolding runs
runs_alike key alike [] same = tt
runs_alike key alike (x ∷ xs) same = grind (arith, each_moved, runs_alike key alike xs same)

fewer : {X : Type 0} (alike : X → X → Bool) (x : X) (rs : List (X × List X)) → length (in_front alike x rs) ≤ suc (length rs)
fewer alike x rs = grind arith

pub count_of_runs : {X : Type 0} (alike : X → X → Bool) (xs : List X) → length (runs alike xs) ≤ length xs
unfolding runs
count_of_runs alike [] = omega arith
count_of_runs alike (x ∷ xs) = omega (arith, fewer alike x (runs alike xs), count_of_runs alike xs)

-- a list with an element has a run
pub some_run : {X : Type 0} (alike : X → X → Bool) (x : X) (xs : List X) → 0 < length (runs alike (x ∷ xs))
unfolding runs
some_run alike x xs = grind arith

-- ---- what is true of each

pub each_left : {X : Type 0} (P : X → Type 0) (xs ys : List X) → Each P (xs ++ ys) → Each P xs
each_left P [] ys e = tt
each_left P (x ∷ xs) ys e = (e.0, each_left P xs ys e.1)

pub each_right : {X : Type 0} (P : X → Type 0) (xs ys : List X) → Each P (xs ++ ys) → Each P ys
each_right P [] ys e = e
each_right P (x ∷ xs) ys e = each_right P xs ys e.1

pub each_weaker : {X : Type 0} (P Q : X → Type 0) (xs : List X) → ((x : X) → P x → Q x) → Each P xs → Each Q xs
each_weaker P Q [] h e = tt
each_weaker P Q (x ∷ xs) h e = (h x e.0, each_weaker P Q xs h e.1)

-- what is true of each element is true of the first of each run
pub each_first : {X : Type 0} (P : X → Type 0) (rs : List (X × List X)) → Each P (flat_map elements rs) → Each (λ r. P r.0) rs
each_first P [] e = tt
each_first {X} P (r ∷ rs) e = (e.0, each_first P rs (each_right P r.1 (flat_map elements rs) e.1))

-- ---- the first run

pub some_length : {X : Type 0} (alike : X → X → Bool) (x : X) (xs : List X) → 0 < run_length alike (x ∷ xs)
unfolding run_length
some_length alike x xs = grind arith

pub take_front : {X : Type 0} (y : X) (zs : List X) (k : ℕ) → 0 < k → take k (y ∷ zs) ≡ y ∷ take (k - 1) zs
take_front y zs k h = grind arith

-- it is the first of the runs
pub first_run : {X : Type 0} (alike : X → X → Bool) (x : X) (xs : List X) → runs alike (x ∷ xs) ≡ (x, take (run_length alike (x ∷ xs) - 1) xs) ∷ runs alike (drop (run_length alike (x ∷ xs)) (x ∷ xs))
unfolding runs run_length
first_run alike x [] = refl
first_run {X} alike x (y ∷ zs) =
    let k : ℕ = run_length alike (y ∷ zs) in
    let e : runs alike (y ∷ zs) ≡ (y, take (k - 1) zs) ∷ runs alike (drop k (y ∷ zs)) = first_run alike y zs in
    ap (in_front alike x) e ∙ grind (arith, take_front, some_length alike y zs)

-- the length of the first run of what is left, by the two elements in front
length_by : {X : Type 0} (alike : X → X → Bool) (x y : X) (zs : List X) (test : Bool) → alike x y ≡ test → run_length alike (x ∷ y ∷ zs) ≡ (if test then suc (run_length alike (y ∷ zs)) else 1)
unfolding run_length
length_by alike x y zs test e = ap (λ (t : Bool). if t then suc (run_length alike (y ∷ zs)) else 1) e

two_in_front : {X : Type 0} (xs : List X) (n : ℕ) (d : X) → 0 < n → n < length xs → drop (n - 1) xs ≡ get_or xs (n - 1) d ∷ get_or xs n d ∷ drop (n + 1) xs
two_in_front xs n d some h = grind (arith, drop_more)

-- what is known in a loop that counts the first run
pub record Counts {X : Type 0} (alike : X → X → Bool) (xs : List X) (n : ℕ) : Type 0 where
  pub some : 0 < n
  pub inside : n ≤ length xs
  pub left : run_length alike xs ≡ n - 1 + run_length alike (drop (n - 1) xs)

pub counts_more : {X : Type 0} (alike : X → X → Bool) (xs : List X) (n : ℕ) (d : X) → n < length xs → alike (get_or xs (n - 1) d) (get_or xs n d) ≡ true → Counts alike xs n → Counts alike xs (n + 1)
counts_more alike xs n d h e c = grind (arith, drop_more, two_in_front, length_by)

pub counts_end : {X : Type 0} (alike : X → X → Bool) (xs : List X) (n : ℕ) (d : X) → n < length xs → alike (get_or xs (n - 1) d) (get_or xs n d) ≡ false → Counts alike xs n → n ≡ run_length alike xs
counts_end alike xs n d h e c = grind (arith, two_in_front, length_by)

pub counts_all : {X : Type 0} (alike : X → X → Bool) (xs : List X) (n : ℕ) (d : X) → length xs ≤ n → Counts alike xs n → n ≡ run_length alike xs
unfolding run_length
counts_all {X} alike xs n d h c =
    let rest : drop (n - 1) xs ≡ get_or xs (n - 1) d ∷ [] = drop_more xs (n - 1) d (omega (arith, c.some, c.inside)) ∙ ap (λ (l : List X). get_or xs (n - 1) d ∷ l) (drop_all (n - 1 + 1) xs (omega (arith, c.some, h))) in
    let one : run_length alike (drop (n - 1) xs) ≡ 1 = ap (run_length alike) rest in
    omega (arith, c.left, one, c.some)

pub run_inside : {X : Type 0} (alike : X → X → Bool) (xs : List X) → run_length alike xs ≤ length xs
unfolding run_length
run_inside alike [] = omega arith
run_inside alike (x ∷ []) = omega arith
run_inside alike (x ∷ y ∷ ys) = grind (arith, run_inside alike (y ∷ ys))

pub each_drop : {X : Type 0} (P : X → Type 0) (n : ℕ) (xs : List X) → Each P xs → Each P (drop n xs)
each_drop P zero xs e = e
each_drop P (suc n) [] e = tt
each_drop P (suc n) (x ∷ xs) e = each_drop P n xs e.1
