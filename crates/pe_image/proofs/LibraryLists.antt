-- Of names there is one list of libraries, and one alone.
use Rattle.std.proofs.Common.{◌≡◌, ℕ, suc, List, [], ◌∷◌, map, Option, Some, None, ◌⊎◌, ⊎_elim, refl, ap, sym, subst, ◌∙◌, arith}
use Rattle.std.specs.Cmp.Lexicographic.{slice_cmp}
use Rattle.std.specs.FinMap.{nat_cmp-IsAntisymmetric, slice_cmp-IsAntisymmetric}
use Rattle.pe_image.proofs.Cited.{AllByRecursion, Contains, All-contains, All-from_recursion, All-weaker, recursion_from_All}
use Rattle.pe_image.proofs.Cited.{AreLibraries, ImportRecordView, AreLibrariesOf, image_view, libraries_of, HasLibraries, PE}
use Rattle.std.specs.List.Sorted.{IsStrictlySortedBy}
use Rattle.std.specs.Ordering.{nat_cmp}
use Rattle.std.specs.declared.cmp.Ordering.{Ordering}
use Rattle.std.specs.declared.cmp.Ordering.TheVariants.{Less, Equal, Greater}
use Rattle.std.proofs.lemmas.Cmp.{nat_list_cmp_total, tied_itself}

abbrev Name : Type 0
Name = List ℕ

abbrev order : Name → Name → Ordering
order = slice_cmp nat_cmp

abbrev AreAbove : Name → List Name → Type 0
AreAbove x xs = AllByRecursion (λ y. order x y ≡ Less) xs

not_below_itself : (x : Name) → order x x ≡ Less → ⊥
not_below_itself x h = grind (arith, tied_itself, nat_list_cmp_total)

-- ---- elements of a list and of its rest

head_or_rest : (x z : Name) (xs : List Name) → Contains (x ∷ xs) z → (x ≡ z) ⊎ Contains xs z
head_or_rest x z xs c = grind arith

at_head : (x : Name) (xs : List Name) → Contains (x ∷ xs) x
at_head x xs = (0, omega arith, refl)

in_rest : (x z : Name) (xs : List Name) → Contains xs z → Contains (x ∷ xs) z
in_rest x z xs c = (suc c.0, omega (arith, c.1), c.2)

none_in_empty : (z : Name) → Contains [] z → ⊥
none_in_empty z c = omega (arith, c.1)

above : (x z : Name) (xs : List Name) → AreAbove x xs → Contains xs z → order x z ≡ Less
above x z xs h c = All-contains (λ y. order x y ≡ Less) xs z (All-from_recursion (λ y. order x y ≡ Less) xs h) c

-- ---- there is one alone

first_same : (x y : Name) (xs ys : List Name) → AreAbove x xs → AreAbove y ys → Contains (y ∷ ys) x → Contains (x ∷ xs) y → x ≡ y
first_same x y xs ys hx hy cx cy =
    ⊎_elim
    (λ (e : y ≡ x). sym e)
    (λ (c : Contains ys x). ⊎_elim
    (λ (e : x ≡ y). e)
    (λ (d : Contains xs y). absurd (not_below_itself x (nat_list_cmp_total.trans x y x (above x y xs hx d) (above y x ys hy c))))
    (head_or_rest x y xs cy))
    (head_or_rest y x ys cx)

not_first : (x y z : Name) (ys : List Name) → x ≡ y → order x z ≡ Less → Contains (y ∷ ys) z → Contains ys z
not_first x y z ys same less c = grind (arith, not_below_itself, head_or_rest)

one_sorted : (xs ys : List Name) → IsStrictlySortedBy order xs → IsStrictlySortedBy order ys → ((z : Name) → Contains xs z → Contains ys z) → ((z : Name) → Contains ys z → Contains xs z) → xs ≡ ys
unfolding IsStrictlySortedBy
one_sorted [] [] s t f g = refl
one_sorted [] (y ∷ ys) s t f g = absurd (none_in_empty y (g y (at_head y ys)))
one_sorted (x ∷ xs) [] s t f g = absurd (none_in_empty x (f x (at_head x xs)))
one_sorted (x ∷ xs) (y ∷ ys) s t f g =
    let same : x ≡ y = first_same x y xs ys s.0 t.0 (f x (at_head x xs)) (g y (at_head y ys)) in
    let rest : xs ≡ ys = one_sorted xs ys s.1 t.1
    (λ z c. not_first x y z ys same (above x z xs s.0 c) (f z (in_rest x z xs c)))
    (λ z c. not_first y x z xs (sym same) (above y z ys t.0 c) (g z (in_rest y z ys c))) in
    ap (λ (w : Name). w ∷ xs) same ∙ ap (λ (l : List Name). y ∷ l) rest

one_libraries : (names xs ys : List Name) → AreLibraries names xs → AreLibraries names ys → xs ≡ ys
one_libraries names xs ys h k =
    one_sorted xs ys h.in_order k.in_order
    (λ z c. All-contains (Contains ys) names z k.whole (All-contains (Contains names) xs z h.named c))
    (λ z c. All-contains (Contains xs) names z h.whole (All-contains (Contains names) ys z k.named c))

pub one_list : (d : Option (List ImportRecordView)) (xs ys : List Name) → AreLibrariesOf d xs → AreLibrariesOf d ys → xs ≡ ys
one_list None xs ys h k = h ∙ sym k
one_list (Some records) xs ys h k = one_libraries (map (λ r. r.name) records) xs ys h k

-- ---- there is one: each name is inserted where it belongs

abbrev insert_by : Ordering → Name → Name → List Name → List Name → List Name
insert_by Less x y ys more = x ∷ y ∷ ys
insert_by Equal x y ys more = y ∷ ys
insert_by Greater x y ys more = y ∷ more

abbrev insert : Name → List Name → List Name
insert x [] = x ∷ []
insert x (y ∷ ys) = insert_by (order x y) x y ys (insert x ys)

all_by : (P : Name → Type 0) (o : Ordering) (x y : Name) (ys more : List Name) → P x → AllByRecursion P (y ∷ ys) → AllByRecursion P more → AllByRecursion P (insert_by o x y ys more)
all_by P o x y ys more p h k = grind arith

all_inserted : (P : Name → Type 0) (x : Name) (ys : List Name) → P x → AllByRecursion P ys → AllByRecursion P (insert x ys)
all_inserted P x [] p h = (p, tt)
all_inserted P x (y ∷ ys) p h = all_by P (order x y) x y ys (insert x ys) p h (all_inserted P x ys p h.1)

further : (x y : Name) (zs : List Name) → order x y ≡ Less → AreAbove y zs → AreAbove x zs
further x y [] l h = tt
further x y (z ∷ zs) l h = (nat_list_cmp_total.trans x y z l h.0, further x y zs l h.1)

sorted_by : (o : Ordering) (x y : Name) (ys more : List Name) → order x y ≡ o → AreAbove y ys → IsStrictlySortedBy order ys → (order y x ≡ Less → AreAbove y more) → IsStrictlySortedBy order more → IsStrictlySortedBy order (insert_by o x y ys more)
unfolding IsStrictlySortedBy
sorted_by o x y ys more is h s k t = grind (arith, further, nat_list_cmp_total)

sorted_inserted : (x : Name) (ys : List Name) → IsStrictlySortedBy order ys → IsStrictlySortedBy order (insert x ys)
unfolding IsStrictlySortedBy
sorted_inserted x [] s = (tt, tt)
sorted_inserted x (y ∷ ys) s = grind (arith, sorted_by, all_inserted, sorted_inserted x ys s.1)

new_by : (o : Ordering) (x y : Name) (ys more : List Name) → order x y ≡ o → Contains more x → Contains (insert_by o x y ys more) x
new_by Less x y ys more is c = at_head x (y ∷ ys)
new_by Equal x y ys more is c =
    let same : x ≡ y = slice_cmp-IsAntisymmetric nat_cmp-IsAntisymmetric x y is in
    subst (λ (w : Name). Contains (w ∷ ys) x) same (at_head x ys)
new_by Greater x y ys more is c = in_rest y x more c

new_inserted : (x : Name) (ys : List Name) → Contains (insert x ys) x
new_inserted x [] = at_head x []
new_inserted x (y ∷ ys) = new_by (order x y) x y ys (insert x ys) refl (new_inserted x ys)

old_by : (o : Ordering) (x y z : Name) (ys more : List Name) → Contains (y ∷ ys) z → (Contains ys z → Contains more z) → Contains (insert_by o x y ys more) z
old_by Less x y z ys more c f = in_rest x z (y ∷ ys) c
old_by Equal x y z ys more c f = c
old_by Greater x y z ys more c f = grind (arith, at_head, in_rest, head_or_rest)

old_inserted : (x z : Name) (ys : List Name) → Contains ys z → Contains (insert x ys) z
old_inserted x z [] c = absurd (none_in_empty z c)
old_inserted x z (y ∷ ys) c = old_by (order x y) x y z ys (insert x ys) c (old_inserted x z ys)

abbrev libraries_in : List Name → List Name
libraries_in [] = []
libraries_in (n ∷ names) = insert n (libraries_in names)

some_libraries : (names : List Name) → AreLibraries names (libraries_in names)
unfolding IsStrictlySortedBy
some_libraries [] = record { in_order = tt; named = All-from_recursion (Contains []) [] tt; whole = All-from_recursion (Contains []) [] tt }
some_libraries (n ∷ names) =
    let rest = some_libraries names in
    let old = libraries_in names in
    record {
      in_order = sorted_inserted n old rest.in_order;
      named = All-from_recursion (Contains (n ∷ names)) (insert n old) (all_inserted (Contains (n ∷ names)) n old (at_head n names)
          (recursion_from_All (Contains (n ∷ names)) old (All-weaker (Contains names) (Contains (n ∷ names)) (λ z c. in_rest n z names c) old rest.named)));
      whole = All-from_recursion (Contains (insert n old)) (n ∷ names)
          (new_inserted n old, recursion_from_All (Contains (insert n old)) names (All-weaker (Contains old) (Contains (insert n old)) (λ z c. old_inserted n z old c) names rest.whole));
    }

pub some_list : (d : Option (List ImportRecordView)) → (xs : List Name) × AreLibrariesOf d xs
some_list None = ([], refl)
some_list (Some records) = (libraries_in (map (λ r. r.name) records), some_libraries (map (λ r. r.name) records))

-- images that look the same have the same libraries
pub same_libraries : {Y Z : Type 0} (p : PE Y) (q : PE Z) → image_view p ≡ image_view q → HasLibraries p → HasLibraries q → libraries_of p ≡ libraries_of q
same_libraries p q same h k = grind (arith, one_list)
