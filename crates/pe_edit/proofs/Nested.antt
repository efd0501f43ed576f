-- The resources of each type, one type after the other, are the resources.
use Rattle.std.proofs.Common.{◌≡◌, ℕ, ◌+◌, ◌-◌, ◌*◌, ◌<◌, Bool, false, List, [], ◌∷◌, ◌++◌, length, take, drop, refl, ap, sym, ◌∙◌, arith, length-append}
use Rattle.pe_edit.proofs.Cited.{flat_map, append_assoc, elements, in_front, runs, run_length, Leaf, total, names, name_key}
use Rattle.pe_edit.proofs.Cited.{types_of, resources_of, same_type, same_resource, resource_tables, directory_to, language_key}
use Rattle.pe_edit.proofs.Cited.{entry_size, key_eq, and_left}
use Rattle.std.proofs.lemmas.Grind.{flat_map-append}
use Rattle.pe_edit.proofs.Runs.{first_run, some_run, runs_all}

-- ---- runs in runs

front_append : {X : Type 0} (alike : X → X → Bool) (x : X) (rs zs : List (X × List X)) → 0 < length rs → in_front alike x rs ++ zs ≡ in_front alike x (rs ++ zs)
front_append alike x rs zs h = grind arith

-- an element that is not alike the next is a run of its own
alone : {X : Type 0} (alike : X → X → Bool) (x y : X) (ys : List X) → alike x y ≡ false → in_front alike x (runs alike (y ∷ ys)) ≡ (x, []) ∷ runs alike (y ∷ ys)
alone alike x y ys h = grind (arith, first_run)

pub nested : {X : Type 0} (alike fine : X → X → Bool) (xs : List X) → ((x y : X) → alike x y ≡ false → fine x y ≡ false) →
    flat_map (λ r. runs fine (elements r)) (runs alike xs) ≡ runs fine xs
unfolding runs
nested alike fine [] finer = refl
nested alike fine (x ∷ []) finer = refl
nested {X} alike fine (x ∷ y ∷ ys) finer =
    let k : ℕ = run_length alike (y ∷ ys) in
    let r : List X = take (k - 1) ys in
    let rest : List (X × List X) = runs alike (drop k (y ∷ ys)) in
    let e : runs alike (y ∷ ys) ≡ (y, r) ∷ rest = first_run alike y ys in
    let below : runs fine (y ∷ r) ++ flat_map (λ r. runs fine (elements r)) rest ≡ runs fine (y ∷ ys) =
    ap (flat_map (λ r. runs fine (elements r))) (sym e) ∙ nested alike fine (y ∷ ys) finer in
    ap (λ (l : List (X × List X)). flat_map (λ r. runs fine (elements r)) (in_front alike x l)) e
    ∙ grind (arith, front_append, some_run, alone, finer x y)

-- ---- resources of types

abbrev pub names_of : Leaf × List Leaf → List (Leaf × List Leaf)
names_of t = resources_of (elements t)

pub resources_in_types : (xs : List Leaf) → flat_map names_of (types_of xs) ≡ resources_of xs
unfolding types_of resources_of
resources_in_types xs = nested same_type same_resource xs (λ x y h. and_left (same_type x y) (key_eq x.name y.name) h)

-- the names of all resources, and the directories of their languages, type by type
unfoldable pub all_names : List (Leaf × List Leaf) → List ℕ
all_names ts = flat_map (λ t. names name_key (names_of t)) ts

unfoldable pub language_tables : ℕ → List (Leaf × List Leaf) → List ℕ
language_tables p [] = []
language_tables p (t ∷ ts) = resource_tables p (names_of t) ++ language_tables (p + 16 * length (elements t)) ts

names_flat : (ts : List (Leaf × List Leaf)) → names name_key (flat_map names_of ts) ≡ all_names ts
unfolding all_names
names_flat [] = refl
names_flat (t ∷ ts) = grind (arith, flat_map-append, names_flat ts)

pub names_in_types : (xs : List Leaf) → all_names (types_of xs) ≡ names name_key (resources_of xs)
names_in_types xs = sym (names_flat (types_of xs)) ∙ ap (names name_key) (resources_in_types xs)

total_append : {X : Type 0} (f : X → ℕ) (xs ys : List X) → total f (xs ++ ys) ≡ total f xs + total f ys
unfolding total
total_append f [] ys = omega arith
total_append f (x ∷ xs) ys = omega (arith, total_append f xs ys)

pub total_flat : {X Y : Type 0} (f : Y → ℕ) (g : X → List Y) (xs : List X) → total f (flat_map g xs) ≡ total (λ x. total f (g x)) xs
unfolding total
total_flat f g [] = refl
total_flat f g (x ∷ xs) = total_append f (g x) (flat_map g xs) ∙ omega (arith, total_flat f g xs)

pub sum_in_types : (f : Leaf × List Leaf → ℕ) (xs : List Leaf) → total (λ t. total f (names_of t)) (types_of xs) ≡ total f (resources_of xs)
sum_in_types f xs = sym (total_flat f names_of (types_of xs)) ∙ ap (total f) (resources_in_types xs)

tables_append : (p : ℕ) (ns ms : List (Leaf × List Leaf)) → resource_tables p (ns ++ ms) ≡ resource_tables p ns ++ resource_tables (p + 16 * length (flat_map elements ns)) ms
unfolding resource_tables
tables_append p [] ms = ap (λ (k : ℕ). resource_tables k ms) (omega arith)
tables_append p (n ∷ ns) ms =
    let d : List ℕ = directory_to language_key entry_size 0 p (elements n) in
    let q : ℕ = p + 16 * length (elements n) in
    ap (λ (l : List ℕ). d ++ l) (tables_append q ns ms)
    ∙ ap (λ (k : ℕ). d ++ (resource_tables q ns ++ resource_tables k ms)) (omega (arith, length-append (elements n) (flat_map elements ns)))
    ∙ sym (append_assoc d (resource_tables q ns) (resource_tables (p + 16 * length (flat_map elements (n ∷ ns))) ms))

pub names_all : (t : Leaf × List Leaf) → flat_map elements (names_of t) ≡ elements t
unfolding resources_of
names_all t = runs_all same_resource (elements t)

tables_flat : (p : ℕ) (ts : List (Leaf × List Leaf)) → resource_tables p (flat_map names_of ts) ≡ language_tables p ts
unfolding language_tables resource_tables
tables_flat p [] = refl
tables_flat p (t ∷ ts) =
    grind (arith, tables_append p (names_of t) (flat_map names_of ts), names_all t, tables_flat (p + 16 * length (elements t)) ts)

pub tables_in_types : (p : ℕ) (xs : List Leaf) → language_tables p (types_of xs) ≡ resource_tables p (resources_of xs)
tables_in_types p xs = sym (tables_flat p (types_of xs)) ∙ ap (resource_tables p) (resources_in_types xs)
