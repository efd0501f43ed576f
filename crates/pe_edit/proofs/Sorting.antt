-- In a sorted list the leaves of one type are neighbours, and so are those of one name of it: a search by keys finds the leaf
-- in the runs.
use Rattle.std.proofs.Common.{◌≡◌, ℕ, ◌-◌, ◌<◌, ◌&&◌, ◌==◌, ◌⊎◌, inl, inr, ⊎_elim, Bool, true, false, List, [], ◌∷◌, cond, take, drop, Option, Some, None, refl, ap, sym, ◌∙◌, subst, arith, if◌then◌else◌}
use Rattle.pe_edit.proofs.Cited.{nat_lt, find, flat_map, false≢true, nat_tests, as_read, found_leaf, has_keys, with_keys, elements}
use Rattle.pe_edit.proofs.Cited.{in_front, run_length, runs, is_sorted, key_before, leaf_before, units_before, Each, Fits, Key}
use Rattle.pe_edit.proofs.Cited.{Leaf, key_eq, name_key, resources_of, same_resource, same_type, section, type_key, types_of, both}
use Rattle.pe_edit.proofs.Levels.{names_alike, same_keys}
use Rattle.pe_edit.proofs.Lookups.{found_in_runs, in_languages, in_names, in_types}
use Rattle.pe_edit.proofs.Nested.{names_of, names_all}
use Rattle.pe_edit.proofs.Runs.{EachHas, RunsAlike, each_left, each_right, first_run}
use Rattle.pe_edit.proofs.SectionRead.{types_alike}

-- ---- the order of keys

not_below_itself : (us : List ℕ) → units_before us us ≡ false
not_below_itself [] = refl
not_below_itself (u ∷ us) = let t : (u == u) ≡ true = grind (arith, nat_tests) in rw t (not_below_itself us)

split : (u v : ℕ) (t : Bool) → (if u == v then t else nat_lt u v) ≡ true → ((u ≡ v) × (t ≡ true)) ⊎ (u < v)
split u v t h = grind (arith, nat_tests)

less : (u v : ℕ) (t : Bool) → u < v → (if u == v then t else nat_lt u v) ≡ true
less u v t h = grind (arith, nat_tests)

units_then : (us vs ws : List ℕ) → units_before us vs ≡ true → units_before vs ws ≡ true → units_before us ws ≡ true
units_then [] vs ws h i = grind (arith, false≢true)
units_then (u ∷ us) [] ws h i = absurd (false≢true h)
units_then (u ∷ us) (v ∷ vs) [] h i = absurd (false≢true i)
units_then (u ∷ us) (v ∷ vs) (w ∷ ws) h i =
    ⊎_elim
    (λ (x : (u ≡ v) × (units_before us vs ≡ true)).
    ⊎_elim
    (λ (y : (v ≡ w) × (units_before vs ws ≡ true)). grind (arith, nat_tests, x.0 ∙ y.0, units_then us vs ws x.1 y.1))
    (λ (y : v < w). less u w (units_before us ws) (omega (arith, x.0, y)))
    (split v w (units_before vs ws) i))
    (λ (x : u < v).
    ⊎_elim
    (λ (y : (v ≡ w) × (units_before vs ws ≡ true)). less u w (units_before us ws) (omega (arith, x, y.0)))
    (λ (y : v < w). less u w (units_before us ws) (omega (arith, x, y)))
    (split v w (units_before vs ws) i))
    (split u v (units_before us vs) h)

key_then : (j k l : Key) → key_before j k ≡ true → key_before k l ≡ true → key_before j l ≡ true
key_then j k l h i = grind (arith, nat_tests, false≢true, units_then)

-- ---- lists whose keys climb

-- neighbours are alike and have one key, or are not, and the key of the second is later
abbrev Step : (same : Leaf → Leaf → Bool) (key : Leaf → Key) → Leaf → Leaf → Type 0
Step same key x y = ((same x y ≡ true) × (key y ≡ key x)) ⊎ ((same x y ≡ false) × (key_before (key x) (key y) ≡ true))

abbrev Climbs : (same : Leaf → Leaf → Bool) (key : Leaf → Key) → List Leaf → Type 0
Climbs same key [] = Unit {0}
Climbs same key (x ∷ []) = Unit {0}
Climbs same key (x ∷ y ∷ ys) = Step same key x y × Climbs same key (y ∷ ys)

-- the key of each is k, or later
abbrev From : (key : Leaf → Key) → Key → List Leaf → Type 0
From key k xs = Each (λ y. (key y ≡ k) ⊎ (key_before k (key y) ≡ true)) xs

from_before : (key : Leaf → Key) (j k : Key) (xs : List Leaf) → key_before j k ≡ true → From key k xs → Each (λ y. key_before j (key y) ≡ true) xs
from_before key j k [] h f = tt
from_before key j k (x ∷ xs) h f =
    (⊎_elim (λ (e : key x ≡ k). ap (key_before j) e ∙ h) (λ (e : key_before k (key x) ≡ true). key_then j k (key x) h e) f.0, from_before key j k xs h f.1)

later : (key : Leaf → Key) (k : Key) (xs : List Leaf) → Each (λ y. key_before k (key y) ≡ true) xs → From key k xs
later key k [] f = tt
later key k (x ∷ xs) f = (inr f.0, later key k xs f.1)

climbing : (same : Leaf → Leaf → Bool) (key : Leaf → Key) (x : Leaf) (xs : List Leaf) → Climbs same key (x ∷ xs) → From key (key x) xs
climbing same key x [] c = tt
climbing same key x (y ∷ ys) c = grind (arith, later, from_before, climbing same key y ys c.1, climbing same key y ys c.1)

-- ---- a search in runs

-- what is found in the run with a key
abbrev in_runs : (Leaf → Key) → Key → (Leaf → Bool) → List (Leaf × List Leaf) → Option Leaf
in_runs key k p [] = None
in_runs key k p (r ∷ rs) = cond (key_eq (key r.0) k) (find p (elements r)) (in_runs key k p rs)

none_later : (key : Leaf → Key) (k : Key) (p : Leaf → Bool) (xs : List Leaf) → ((x : Leaf) → key_eq (key x) k ≡ false → p x ≡ false) → Each (λ y. key_eq (key y) k ≡ false) xs → find p xs ≡ None
none_later key k p [] only f = refl
none_later key k p (x ∷ xs) only f = ap (λ (t : Bool). cond t (Some x) (find p xs)) (only x f.0) ∙ none_later key k p xs only f.1

other_key : (j k : Key) (t : Bool) → key_eq k j ≡ t → key_before j k ≡ true → t ≡ false
other_key j k false e h = refl
other_key j k true e h =
    absurd (false≢true (sym (grind (arith, nat_tests, not_below_itself)) ∙ ap (key_before j) (sym (same_keys k j e)) ∙ h))

others : (key : Leaf → Key) (j : Key) (xs : List Leaf) → Each (λ y. key_before j (key y) ≡ true) xs → Each (λ y. key_eq (key y) j ≡ false) xs
others key j [] f = tt
others key j (x ∷ xs) f = (other_key j (key x) (key_eq (key x) j) refl f.0, others key j xs f.1)

-- x is a run of its own, and no later leaf has its key
apart : (key : Leaf → Key) (k : Key) (p : Leaf → Bool) (x : Leaf) (ys : List Leaf) (more : Option Leaf) (t : Bool) → key_eq (key x) k ≡ t → Each (λ z. key_before (key x) (key z) ≡ true) ys →
    ((x : Leaf) → key_eq (key x) k ≡ false → p x ≡ false) → find p ys ≡ more → find p (x ∷ ys) ≡ cond t (find p (x ∷ [])) more
apart key k p x ys more true e after only h =
    let same : key x ≡ k = same_keys (key x) k e in
    ap (cond (p x) (Some x)) (none_later key k p ys only (others key k ys (subst (λ (j : Key). Each (λ z. key_before j (key z) ≡ true) ys) same after)))
apart key k p x ys more false e after only h = ap (λ (b : Bool). cond b (Some x) (find p ys)) (only x e) ∙ h

found_at : (same : Leaf → Leaf → Bool) (key : Leaf → Key) (k : Key) (p : Leaf → Bool) (x y : Leaf) (r ys : List Leaf) (rest : List (Leaf × List Leaf)) → Climbs same key (x ∷ y ∷ ys) →
    ((x : Leaf) → key_eq (key x) k ≡ false → p x ≡ false) → find p (y ∷ ys) ≡ in_runs key k p ((y, r) ∷ rest) →
    find p (x ∷ y ∷ ys) ≡ in_runs key k p (if same x y then (x, y ∷ r) ∷ rest else (x, []) ∷ (y, r) ∷ rest)
found_at same key k p x y r ys rest c only h =
    ⊎_elim
    (λ (e : (same x y ≡ true) × (key y ≡ key x)).
    grind (arith, e.1)
    ∙ ap (λ (b : Bool). in_runs key k p (if b then (x, y ∷ r) ∷ rest else (x, []) ∷ (y, r) ∷ rest)) (sym e.0))
    (λ (e : (same x y ≡ false) × (key_before (key x) (key y) ≡ true)).
    apart key k p x (y ∷ ys) (in_runs key k p ((y, r) ∷ rest)) (key_eq (key x) k) refl
    (e.1, from_before key (key x) (key y) ys e.1 (climbing same key y ys c.1)) only h
    ∙ ap (λ (b : Bool). in_runs key k p (if b then (x, y ∷ r) ∷ rest else (x, []) ∷ (y, r) ∷ rest)) (sym e.0))
    c.0

-- in a list that climbs, what is found is found in the run with its key
find_in_runs : (same : Leaf → Leaf → Bool) (key : Leaf → Key) (k : Key) (p : Leaf → Bool) (xs : List Leaf) → Climbs same key xs → ((x : Leaf) → key_eq (key x) k ≡ false → p x ≡ false) →
    find p xs ≡ in_runs key k p (runs same xs)
unfolding runs
find_in_runs same key k p [] c only = refl
find_in_runs same key k p (x ∷ []) c only = apart key k p x [] None (key_eq (key x) k) refl tt only refl
find_in_runs same key k p (x ∷ y ∷ ys) c only =
    let n : ℕ = run_length same (y ∷ ys) in
    let r : List Leaf = take (n - 1) ys in
    let rest : List (Leaf × List Leaf) = runs same (drop n (y ∷ ys)) in
    let e : runs same (y ∷ ys) ≡ (y, r) ∷ rest = first_run same y ys in
    simp (found_at same key k p x y r ys rest c only (find_in_runs same key k p (y ∷ ys) c.1 only ∙ ap (in_runs key k p) e), e)

-- ---- sorted leaves climb

type_step : (x y : Leaf) (t : Bool) → same_type x y ≡ t → leaf_before x y ≡ true → Step same_type (λ x. x.resource_type) x y
type_step x y true e h = inl (e, sym (same_keys x.resource_type y.resource_type e))
type_step x y false e h = inr (e, sym (ap (λ (t : Bool). if t then (if key_eq x.name y.name then nat_lt x.language y.language else key_before x.name y.name) else key_before x.resource_type y.resource_type) e) ∙ h)

name_step_at : (x y : Leaf) (t : Bool) → key_eq x.name y.name ≡ t → same_type x y ≡ true → (if t then nat_lt x.language y.language else key_before x.name y.name) ≡ true → Step same_resource (λ x. x.name) x y
name_step_at x y true e s h = inl (rw (s, e) refl, sym (same_keys x.name y.name e))
name_step_at x y false e s h = inr (rw (s, e) refl, h)

types_climb : (xs : List Leaf) → is_sorted xs ≡ true → Climbs same_type (λ x. x.resource_type) xs
unfolding is_sorted
types_climb [] h = tt
types_climb (x ∷ []) h = tt
types_climb (x ∷ y ∷ ys) h =
    (type_step x y (same_type x y) refl (both (leaf_before x y) (is_sorted (y ∷ ys)) h).0, types_climb (y ∷ ys) (both (leaf_before x y) (is_sorted (y ∷ ys)) h).1)

-- so do the names of each type
abbrev NamesClimb : List (Leaf × List Leaf) → Type 0
NamesClimb rs = Each (λ r. Climbs same_resource (λ x. x.name) (elements r)) rs

names_climb : (xs : List Leaf) → is_sorted xs ≡ true → NamesClimb (runs same_type xs)
unfolding is_sorted runs
names_climb [] h = tt
names_climb (x ∷ []) h = (tt, tt)
names_climb (x ∷ y ∷ ys) h =
    let n : ℕ = run_length same_type (y ∷ ys) in
    let r : List Leaf = take (n - 1) ys in
    let rest : List (Leaf × List Leaf) = runs same_type (drop n (y ∷ ys)) in
    let e : runs same_type (y ∷ ys) ≡ (y, r) ∷ rest = first_run same_type y ys in
    let below : NamesClimb ((y, r) ∷ rest) = subst NamesClimb e (names_climb (y ∷ ys) (both (leaf_before x y) (is_sorted (y ∷ ys)) h).1) in
    subst (λ (l : List (Leaf × List Leaf)). NamesClimb (in_front same_type x l)) (sym e)
    (grind (arith, name_step_at, (both (leaf_before x y) (is_sorted (y ∷ ys)) h).0))

-- ---- the search, level by level

find_by : (p q : Leaf → Bool) (xs : List Leaf) → Each (λ x. p x ≡ q x) xs → find p xs ≡ find q xs
find_by p q [] f = refl
find_by p q (x ∷ xs) f = ap (λ (t : Bool). cond t (Some x) (find p xs)) f.0 ∙ ap (cond (q x) (Some x)) (find_by p q xs f.1)

languages_only : (kind name : Key) (l : ℕ) (kt kn : Key) (xs : List Leaf) → key_eq kt kind ≡ true → key_eq kn name ≡ true → EachHas (λ x. x.resource_type) kt xs → EachHas (λ x. x.name) kn xs →
    Each (λ x. has_keys kind name l x ≡ (x.language == l)) xs
languages_only kind name l kt kn [] h i et en = tt
languages_only kind name l kt kn (x ∷ xs) h i et en =
    let one : key_eq x.resource_type kind ≡ true = ap (λ (k : Key). key_eq k kind) et.0 ∙ h in
    let two : key_eq x.name name ≡ true = ap (λ (k : Key). key_eq k name) en.0 ∙ i in
    (rw (one, two) refl, languages_only kind name l kt kn xs h i et.1 en.1)

-- in the names of one type
in_names_at : (kind name : Key) (l : ℕ) (kt : Key) (r : Leaf × List Leaf) (f g : Option Leaf) (t : Bool) → key_eq (name_key r) name ≡ t → key_eq kt kind ≡ true → EachHas (λ x. x.resource_type) kt (elements r) → EachHas (λ x. x.name) (name_key r) (elements r) → f ≡ g →
    cond t (find (has_keys kind name l) (elements r)) f ≡ cond t (in_languages l (elements r)) g
in_names_at kind name l kt r f g true e h et en i = find_by (has_keys kind name l) (λ x. x.language == l) (elements r) (languages_only kind name l kt (name_key r) (elements r) h e et en)
in_names_at kind name l kt r f g false e h et en i = i

in_names_is : (kind name : Key) (l : ℕ) (kt : Key) (rs : List (Leaf × List Leaf)) → key_eq kt kind ≡ true → EachHas (λ x. x.resource_type) kt (flat_map elements rs) → RunsAlike (λ x. x.name) rs →
    in_runs (λ x. x.name) name (has_keys kind name l) rs ≡ in_names name l rs
in_names_is kind name l kt [] h et en = refl
in_names_is kind name l kt (r ∷ rs) h et en =
    in_names_at kind name l kt r (in_runs (λ x. x.name) name (has_keys kind name l) rs) (in_names name l rs) (key_eq (name_key r) name) refl h
    (each_left (λ x. x.resource_type ≡ kt) (elements r) (flat_map elements rs) et) (refl, en.0)
    (in_names_is kind name l kt rs h (each_right (λ x. x.resource_type ≡ kt) (elements r) (flat_map elements rs) et) en.1)

only_name : (kind name : Key) (l : ℕ) (x : Leaf) → key_eq x.name name ≡ false → has_keys kind name l x ≡ false
only_name kind name l x h = grind arith

only_type : (kind name : Key) (l : ℕ) (x : Leaf) → key_eq x.resource_type kind ≡ false → has_keys kind name l x ≡ false
only_type kind name l x h = ap (λ (t : Bool). t && (key_eq x.name name && x.language == l)) h

in_names_of : (kind name : Key) (l : ℕ) (r : Leaf × List Leaf) → key_eq (type_key r) kind ≡ true → EachHas (λ x. x.resource_type) (type_key r) (elements r) → Climbs same_resource (λ x. x.name) (elements r) →
    find (has_keys kind name l) (elements r) ≡ in_names name l (names_of r)
unfolding resources_of
in_names_of kind name l r h et c =
    find_in_runs same_resource (λ x. x.name) name (has_keys kind name l) (elements r) c (only_name kind name l)
    ∙ in_names_is kind name l (type_key r) (runs same_resource (elements r)) h (subst (λ (xs : List Leaf). EachHas (λ x. x.resource_type) (type_key r) xs) (sym (names_all r)) et) (names_alike r)

in_types_at : (kind name : Key) (l : ℕ) (r : Leaf × List Leaf) (f g : Option Leaf) (t : Bool) → key_eq (type_key r) kind ≡ t → EachHas (λ x. x.resource_type) (type_key r) (elements r) → Climbs same_resource (λ x. x.name) (elements r) → f ≡ g →
    cond t (find (has_keys kind name l) (elements r)) f ≡ cond t (in_names name l (names_of r)) g
in_types_at kind name l r f g t e et c h = grind (arith, in_names_of)

in_types_is : (kind name : Key) (l : ℕ) (rs : List (Leaf × List Leaf)) → RunsAlike (λ x. x.resource_type) rs → NamesClimb rs → in_runs (λ x. x.resource_type) kind (has_keys kind name l) rs ≡ in_types kind name l rs
in_types_is kind name l [] et c = refl
in_types_is kind name l (r ∷ rs) et c = grind (arith, in_types_at, in_types, in_types_is kind name l rs et.1 c.1)

sorted_search : (kind name : Key) (l : ℕ) (xs : List Leaf) → is_sorted xs ≡ true → with_keys kind name l xs ≡ in_types kind name l (types_of xs)
unfolding types_of
sorted_search kind name l xs h =
    find_in_runs same_type (λ x. x.resource_type) kind (has_keys kind name l) xs (types_climb xs h) (only_type kind name l)
    ∙ in_types_is kind name l (runs same_type xs) (types_alike xs) (names_climb xs h)

-- what is looked for in a section of sorted leaves is the leaf with these keys
pub leaves_found : (rva : ℕ) (xs : List Leaf) (kind name : Key) (l : ℕ) → Fits rva xs → is_sorted xs ≡ true → found_leaf (section rva xs) rva kind name l ≡ as_read (with_keys kind name l xs)
leaves_found rva xs kind name l f h = found_in_runs rva xs kind name l f ∙ ap as_read (sym (sorted_search kind name l xs h))
